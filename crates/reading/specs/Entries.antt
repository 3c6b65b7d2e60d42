-- The C entries: every result is one number of 64 bits, a refusal as "refusal number × 2^48 + place", an answer below 2^48.
-- W-207 of document 02: "the C bench must keep the old rule", so that they give the strict reading.
use Rattle.std.specs.Prelude.{ℕ, ◌*◌, List, leb, length, Result, Ok, Err}
use Rattle.words.specs.Choice.{if}
use Rattle.words.specs.Refusals.{refused, unless}
use Rattle.tables.specs.declared.Strictness.TheVariants.{Strict}
use Rattle.lines.specs.Answers.{refusal_code, route_of, trace_of, route_code, trace_code}
use Rattle.processors.specs.Image.{image}
use Rattle.words.specs.Rooms.{filled}
use Rattle.processors.specs.Listing.{processors, count}
use Rattle.reading.specs.Scan.{scan}
use Rattle.reading.specs.Reading.{madt_found}
use Rattle.words.specs.declared.Refusal.{Refusal}

-- ---- the reading: "the list is bytes, four little-endian ones a number, and 60 means under 8 × count bytes"
unfoldable pub answer_in : List ℕ → List ℕ → Result ℕ Refusal
answer_in table list = if (leb (8 * count table) (length list)) (Ok (count table)) (Err (refused 60 0))

-- "its 64-bit result is the count, or refusal number × 2^48 + place"
unfoldable pub read_code : Result ℕ Refusal → ℕ
read_code (Ok processors) = processors
read_code (Err refusal) = refusal_code refusal

unfoldable pub read_result : List ℕ → List ℕ → ℕ
read_result capture list = unless refusal_code (scan Strict capture).verdict (read_code (answer_in (madt_found Strict capture) list))

-- the bytes afterwards
unfoldable pub bytes_after : List ℕ → List ℕ → List ℕ
bytes_after capture list = unless (λ refusal. list) (scan Strict capture).verdict (filled (image (processors (madt_found Strict capture))) list)

-- ---- questions to the map: where a global number arrives
unfoldable pub route_result : List ℕ → ℕ → ℕ
route_result capture number = unless refusal_code (scan Strict capture).verdict (route_code (route_of (scan Strict capture).map number))

-- what arrives at a core vector of a capture's map with a number
unfoldable pub trace_result : List ℕ → ℕ → ℕ → ℕ
trace_result capture vector number = unless refusal_code (scan Strict capture).verdict (trace_code (trace_of (scan Strict capture).map vector number))
