-- What is unused in a map: document 01, "MADT structures" and "What comes back": "its unused places, an unused half's byte among
-- them, hold 0".
use Rattle.std.specs.Prelude.{true, false, eqb, replicate}
use Rattle.words.specs.Choice.{if}
use Rattle.kinds.specs.declared.Half.{Half}
use Rattle.kinds.specs.declared.Lio.{Lio}
use Rattle.kinds.specs.declared.Ht.{Ht}
use Rattle.kinds.specs.declared.Eio.{Eio}
use Rattle.kinds.specs.declared.Bio.{Bio}
use Rattle.kinds.specs.declared.Msi.{Msi}
use Rattle.kinds.specs.declared.Lpc.{Lpc}

-- a half of which nothing is used
abbrev pub no_half : Half
no_half = record { cascade = 0; mask = 0 }

-- a structure that is not there
abbrev pub no_lio : Lio
no_lio = record { present = false; low = no_half; high = no_half }

abbrev pub no_ht : Ht
no_ht = record { present = false; bytes = replicate 8 0 }

abbrev pub no_eio : Eio
no_eio = record { cascade = 0; node = 0; nodes = 0 }

abbrev pub no_bio : Bio
no_bio = record { node = 0; base = 0; pins = 0 }

abbrev pub no_msi : Msi
no_msi = record { start = 0; count = 0 }

abbrev pub no_lpc : Lpc
no_lpc = record { present = false; node = 0; cascade = 0 }

-- "a half with mask 0 is unused and its byte is free"
unfoldable pub used_half : Half → Half
used_half half = if (eqb half.mask 0) no_half half

-- what is said of a LIO: nothing where it is absent
unfoldable pub said_lio : Lio → Lio
said_lio lio =
    if lio.present
    (record { present = true; low = used_half lio.low; high = used_half lio.high })
    no_lio

-- what is said of an HT: nothing where it is absent
unfoldable pub said_ht : Ht → Ht
said_ht ht = if ht.present ht no_ht

-- what is said of an LPC: nothing where it is absent
unfoldable pub said_lpc : Lpc → Lpc
said_lpc lpc = if lpc.present lpc no_lpc
