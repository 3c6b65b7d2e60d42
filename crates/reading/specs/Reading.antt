-- Document 01, "What comes back": the answer to a capture and a lent list, the map, and the list afterwards.
use Rattle.std.specs.Prelude.{ℕ, List, Ok, Err}
use Rattle.words.specs.Choice.{if}
use Rattle.words.specs.Refusals.{refused, unless}
use Rattle.words.specs.declared.Refusal.{Refusal}
use Rattle.tables.specs.declared.Strictness.{Strictness}
use Rattle.lines.specs.declared.Map.{Map}
use Rattle.words.specs.Rooms.{has_room, filled}
use Rattle.processors.specs.Listing.{processors, count}
use Rattle.reading.specs.Scan.{madt_bytes, empty_map, scan}
use Rattle.reading.specs.declared.Reading.{Reading}

-- "A refusal returns its number and place, no map"
unfoldable pub without_map : Refusal → Reading
without_map refusal = record { answer = Err refusal; map = empty_map }

-- 60: "list shorter than needed", last of all
unfoldable pub answered : List ℕ → Map → List ℕ → Reading
answered table map list =
    if (has_room (processors table) list) (record { answer = Ok (count table); map = map }) (without_map (refused 60 0))

-- the MADT's bytes where the scan found one
unfoldable pub madt_found : Strictness → List ℕ → List ℕ
madt_found strictness capture = madt_bytes capture (scan strictness capture).madt

unfoldable pub reading_of : Strictness → List ℕ → List ℕ → Reading
reading_of strictness capture list =
    let s = scan strictness capture in
    unless without_map s.verdict (answered (madt_found strictness capture) s.map list)

-- the list afterwards: filled by an answer, untouched by a refusal
unfoldable pub list_after : Strictness → List ℕ → List ℕ → List ℕ
list_after strictness capture list =
    unless (λ refusal. list) (scan strictness capture).verdict (filled (processors (madt_found strictness capture)) list)
