-- Document 01, "MADT structures": the used fields of each kind, read from the structure's own bytes by the offsets of the
-- table. "Base and address fields are 64 bits; UID, IDs, masks, flags of CORE, start and count 32; sizes, hardware ID and GSI
-- base 16"; the LPC's cascade is 16 bits, every other cascade and the node of an EIO a byte.
use Rattle.std.specs.Prelude.{ℕ, ◌/◌, ◌%◌, ◌^◌, Bool, true, List, [], ◌∷◌, eqb, ltb}
use Rattle.words.specs.Bytes.{byte_at, number_at}
use Rattle.kinds.specs.declared.makers.Core.{Core}
use Rattle.kinds.specs.declared.Lio.{Lio}
use Rattle.kinds.specs.declared.Ht.{Ht}
use Rattle.kinds.specs.declared.Eio.{Eio}
use Rattle.kinds.specs.declared.Msi.{Msi}
use Rattle.kinds.specs.declared.Bio.{Bio}
use Rattle.kinds.specs.declared.Lpc.{Lpc}

-- CORE: "UID 3, physical ID 7, flags 11"
unfoldable pub core_of : List ℕ → Core
core_of s = record { uid = number_at 4 s 3; id = number_at 4 s 7; flags = number_at 4 s 11 }

-- LIO: "cascade bytes 13 and 14, masks 15 and 19"; "byte 13 goes with the mask at 15, byte 14 with the mask at 19"
unfoldable pub lio_of : List ℕ → Lio
lio_of s =
    record {
      present = true;
      low = record { cascade = byte_at s 13; mask = number_at 4 s 15 };
      high = record { cascade = byte_at s 14; mask = number_at 4 s 19 };
    }

-- HT: "base at 3, size at 11, eight cascade bytes at 13" (W-201 of document 02)
unfoldable pub ht_of : List ℕ → Ht
ht_of s =
    record {
      present = true;
      bytes = byte_at s 13 ∷ byte_at s 14 ∷ byte_at s 15 ∷ byte_at s 16 ∷ byte_at s 17 ∷ byte_at s 18 ∷ byte_at s 19 ∷ byte_at s 20 ∷ [];
    }

-- EIO: "cascade 3, node 4, node map 5 (64 bits)"
unfoldable pub eio_of : List ℕ → Eio
eio_of s = record { cascade = byte_at s 3; node = byte_at s 4; nodes = number_at 8 s 5 }

-- MSI: "address 3, start 11, count 15"
unfoldable pub msi_of : List ℕ → Msi
msi_of s = record { start = number_at 4 s 11; count = number_at 4 s 15 }

-- BIO: "base 3, size 11, hardware ID 13, GSI base 15"; W-212 of document 02: "the MADT has no field" for its number of inputs, and
-- of itself a bridge has 64
unfoldable pub bio_of : List ℕ → Bio
bio_of s = record { node = number_at 2 s 13; base = number_at 2 s 15; pins = 64 }

-- the same bridge with so many inputs
abbrev pub with_pins : ℕ → Bio → Bio
with_pins pins bio = record { node = bio.node; base = bio.base; pins = pins }

-- LPC: "base 3, size 11, cascade 13 (16 bits)"; W-208 of document 02: "the node in address bits 44 to 47" of its base
unfoldable pub lpc_of : List ℕ → Lpc
lpc_of s = record { present = true; node = number_at 8 s 3 / 2 ^ 44 % 2 ^ 4; cascade = number_at 2 s 13 }

-- "flags 11 (bit 0 enabled, the rest 0)": 35 where the rest is not 0
abbrev pub reserved_flags : Core → Bool
reserved_flags core = ltb 1 core.flags

abbrev pub is_enabled : Core → Bool
is_enabled core = eqb (core.flags % 2) 1
