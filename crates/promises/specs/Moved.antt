-- W-213 of document 02, "Tables may move": "Makers rebuild the firmware and the tables shift." What is promised of two captures of one board,
-- each by either reading. Each statement stands alone; proofs/Moved.antt has a theorem for it.
use Rattle.std.specs.Prelude.{ℕ, ◌+◌, ◌*◌, ◌≤◌, true, false, List, ◌∷◌, ◌++◌, ◌⊎◌, ◌≡◌, length, take, Ok, Err}
use Rattle.words.specs.Bytes.{number_at, part_at}
use Rattle.words.specs.declared.Refusal.{Refusal}
use Rattle.capture.specs.Fields.{version}
use Rattle.tables.specs.Survey.{tables_of}
use Rattle.tables.specs.declared.Strictness.{Strictness}
use Rattle.tables.specs.declared.Strictness.TheVariants.{Strict}
use Rattle.tables.specs.declared.Table.{Table}
use Rattle.tables.specs.declared.Tables.{Tables}
use Rattle.kinds.specs.Makers.{bio_of}
use Rattle.lines.specs.Answers.{route_of, trace_of}
use Rattle.madt.specs.Pieces.{Whole, pieces, structures}
use Rattle.madt.specs.Rules.{is_type}
use Rattle.processors.specs.Listing.{processors, count}
use Rattle.reading.specs.Scan.{scan}
use Rattle.reading.specs.Reading.{madt_found, reading_of, list_after}
use Rattle.reading.specs.Entries.{read_result, bytes_after, route_result, trace_result}
use Rattle.text.specs.Lines.{version_line}
use Rattle.text.specs.Text.{text_of}
use Rattle.promises.specs.BoardA.{board_a, board_a_moved}
use Rattle.promises.specs.Captures.{Accepted}
use Rattle.promises.specs.Pairs.{HasPins}
use Rattle.promises.specs.Processors.{madt_of}
use Rattle.promises.specs.Readings.{madt_place, madt_revision, KeepsTo28}
use Rattle.promises.specs.RefusalTable.{is_twofold}
use Rattle.words.specs.Refusals.{Verdict}

-- "SCI_INT is the 16 bits at 46", of the FADT that a capture's tables name
abbrev pub sci_of : List ℕ → ℕ
sci_of capture = number_at 2 (part_at capture (tables_of capture).fadt.place (tables_of capture).fadt.length) 46

-- ---- two captures of one board: "with equal MADT bytes, equal SCI numbers and equal pin counts for each BIO". Nothing is said of their
-- versions, their segments, where the tables lie, or what the passed-over ones hold
pub record OneBoard (capture other : List ℕ) : Type 0 where
  pub madt : madt_of capture ≡ madt_of other
  pub sci : sci_of capture ≡ sci_of other
  -- by the hardware ID of each BIO in the MADT; what pairs tell of other hardware IDs may differ
  pub pins : (before later : List Whole) (x : Whole) → structures (pieces (madt_of capture) 44) ≡ before ++ (x ∷ later) → is_type 22 x.bytes ≡ true
      → (n : ℕ) × HasPins capture (bio_of x.bytes).node n × HasPins other (bio_of x.bytes).node n

-- there are such captures: board A, and board A moved, which is of version 2, has pairs, and has its FADT ahead of its MADT. Both readings
-- accept it too
pub record BoardAMoves : Type 0 where
  pub board : OneBoard board_a board_a_moved
  pub accepted : (strictness : Strictness) → Accepted strictness board_a_moved
  pub places : (madt_place board_a ≡ 118) × (madt_place board_a_moved ≡ 370)

-- ---- "two accepted captures .. give equal maps and equal processor lists, wherever the tables lie and whatever the passed-over tables hold"
pub record SameFound (this that : Strictness) (capture other : List ℕ) : Type 0 where
  pub map : (scan this capture).map ≡ (scan that other).map
  pub list : processors (madt_found this capture) ≡ processors (madt_found that other)
  pub count : count (madt_found this capture) ≡ count (madt_found that other)
  -- so the answer to every number, and to every vector with a number, is equal
  pub routes : (number : ℕ) → route_of (scan this capture).map number ≡ route_of (scan that other).map number
  pub traces : (vector number : ℕ) → trace_of (scan this capture).map vector number ≡ trace_of (scan that other).map vector number

abbrev pub MapsStay : Strictness → Strictness → List ℕ → List ℕ → Type 0
MapsStay this that capture other = OneBoard capture other → Accepted this capture → Accepted that other → SameFound this that capture other

-- of two calls: both answer, so that each list is long enough. Counts and maps are equal, and so is what was written into the lists, whatever
-- else they held
pub record SameRead (this that : Strictness) (capture other list room : List ℕ) (n m : ℕ) : Type 0 where
  pub count : n ≡ m
  pub map : (reading_of this capture list).map ≡ (reading_of that other room).map
  pub written : take (2 * n) (list_after this capture list) ≡ take (2 * m) (list_after that other room)

abbrev pub ListsStay : Strictness → Strictness → List ℕ → List ℕ → Type 0
ListsStay this that capture other =
    OneBoard capture other → (list room : List ℕ) (n m : ℕ) → (reading_of this capture list).answer ≡ Ok n → (reading_of that other room).answer ≡ Ok m
    → SameRead this that capture other list room n m

-- of the C entries: equal results, and equal bytes, where both lists are long enough
abbrev pub LongEnough : List ℕ → List ℕ → Type 0
LongEnough capture list = 8 * count (madt_found Strict capture) ≤ length list

pub record SameInC (capture other : List ℕ) : Type 0 where
  pub routes : (number : ℕ) → route_result capture number ≡ route_result other number
  pub traces : (vector number : ℕ) → trace_result capture vector number ≡ trace_result other vector number
  pub counts : (list room : List ℕ) → LongEnough capture list → LongEnough other room → read_result capture list ≡ read_result other room
  pub bytes : (list room : List ℕ) → LongEnough capture list → LongEnough other room
      → take (8 * read_result capture list) (bytes_after capture list) ≡ take (8 * read_result other room) (bytes_after other room)

abbrev pub CEntriesStay : List ℕ → List ℕ → Type 0
CEntriesStay capture other = OneBoard capture other → Accepted Strict capture → Accepted Strict other → SameInC capture other

-- of the printed text: it is equal but for its first line, the version; and where that is equal, it is equal whole
pub record SameText (capture other : List ℕ) : Type 0 where
  pub lines : List ℕ
  pub here : text_of capture ≡ version_line (version capture) ++ lines
  pub there : text_of other ≡ version_line (version other) ++ lines
  pub whole : version capture ≡ version other → text_of capture ≡ text_of other

abbrev pub TextStays : List ℕ → List ℕ → Type 0
TextStays capture other = OneBoard capture other → Accepted Strict capture → Accepted Strict other → SameText capture other

-- ---- beyond the request, since makers send refused boards too
-- a place of a table, and the same place of that table where it stands elsewhere
abbrev pub MovedPlace : Table → Table → ℕ → ℕ → Type 0
MovedPlace here there p q = (offset : ℕ) × (p ≡ here.place + offset) × (q ≡ there.place + offset)

-- two refusals that differ only by where the tables stand
pub record MovedRefusal (here there : Tables) (r q : Refusal) : Type 0 where
  pub number : r.number ≡ q.number
  -- the place moved as the MADT did; 54 is told at the FADT
  pub place : (r.number ≡ 54 → ⊥) → MovedPlace here.madt there.madt r.place q.place
  pub fadt : r.number ≡ 54 → (r.place ≡ here.fadt.place) × (q.place ≡ there.fadt.place)
  -- and so did the second place that 51 to 53 carry; "all others carry 0"
  pub second : ((is_twofold r.number ≡ true) × MovedPlace here.madt there.madt r.second q.second)
      ⊎ ((is_twofold r.number ≡ false) × (r.second ≡ 0) × (q.second ≡ 0))

-- two verdicts: nothing is refused, or both refuse so
abbrev pub ToldAlike : Tables → Tables → Verdict → Verdict → Type 0
ToldAlike here there v w =
    ((v ≡ Ok tt) × (w ≡ Ok tt)) ⊎ ((r : Refusal) × (q : Refusal) × (v ≡ Err r) × (w ≡ Err q) × MovedRefusal here there r q)

-- "On revision 1 the two give equal answers": one reading of both captures; or one of each, and the MADT is of revision 1, as one is that the
-- strict reading accepts
abbrev pub Comparable : Strictness → Strictness → List ℕ → Type 0
Comparable this that capture = (this ≡ that) ⊎ (madt_revision capture ≡ 1)

-- two captures of one board that break none of 1 to 28 are accepted alike, or refused alike from 29 on
pub record SameTold (this that : Strictness) (capture other : List ℕ) : Type 0 where
  pub scanned : ToldAlike (tables_of capture) (tables_of other) (scan this capture).verdict (scan that other).verdict
  -- and so are the reading's answers, whatever lists are lent, but for 60, which speaks of the list
  pub read : (list room : List ℕ) (r : Refusal) → (reading_of this capture list).answer ≡ Err r → (r.number ≡ 60 → ⊥)
      → (q : Refusal) × ((reading_of that other room).answer ≡ Err q) × MovedRefusal (tables_of capture) (tables_of other) r q

abbrev pub RefusedAlike : Strictness → Strictness → List ℕ → List ℕ → Type 0
RefusedAlike this that capture other =
    OneBoard capture other → KeepsTo28 capture → KeepsTo28 other → Comparable this that capture → SameTold this that capture other
