-- Document 01, "Board A and its neighbours": what is printed for a capture, and what a lent room holds afterwards.
use Rattle.std.specs.Prelude.{ℕ, List, [], ◌∷◌, Result, Ok, Err, length}
use Rattle.words.specs.Choice.{if}
use Rattle.capture.specs.Fields.{version}
use Rattle.words.specs.Refusals.{unless}
use Rattle.tables.specs.declared.Strictness.TheVariants.{Strict}
use Rattle.lines.specs.Says.{says}
use Rattle.lines.specs.Answers.{route_of}
use Rattle.lines.specs.declared.Map.{Map}
use Rattle.words.specs.Rooms.{has_room}
use Rattle.processors.specs.Listing.{processors}
use Rattle.reading.specs.Scan.{scan}
use Rattle.reading.specs.Reading.{madt_found}
use Rattle.text.specs.Lines.{each, version_line, core_lines, lio_lines, ht_line, eio_line, bio_line, msi_line, lpc_line, sci_line, refusal_line}
use Rattle.words.specs.declared.NoRoom.{NoRoom}

-- some bytes behind each other
abbrev pub joined : List (List ℕ) → List ℕ
joined parts = each (λ part. part) parts

-- "Kinds come in this order, each in table order." The processor list holds UID and ID of each enabled CORE.
unfoldable pub map_parts : ℕ → List ℕ → Map → List (List ℕ)
map_parts version list map =
    version_line version
    ∷ core_lines list
    ∷ lio_lines (says map).lio
    ∷ ht_line (says map).ht
    ∷ each eio_line (says map).eios
    ∷ each bio_line (says map).bios
    ∷ each msi_line (says map).msis
    ∷ lpc_line (says map).lpc
    ∷ sci_line (says map).sci (route_of map (says map).sci)
    ∷ []

unfoldable pub map_text : ℕ → List ℕ → Map → List ℕ
map_text version list map = joined (map_parts version list map)

-- what is printed for a capture: its version, the processors of its MADT and its map, or its refusal. It is the strict reading's: "The
-- map program and the C bench must keep the old rule" (W-207 of document 02)
unfoldable pub text_of : List ℕ → List ℕ
text_of capture =
    unless refusal_line (scan Strict capture).verdict (map_text (version capture) (processors (madt_found Strict capture)) (scan Strict capture).map)

-- the answer of the writing: how long the text is, or that the room is too short for it
unfoldable pub outcome : List ℕ → List ℕ → Result ℕ NoRoom
outcome text room = if (has_room text room) (Ok (length text)) (Err (record {}))
