-- Document 01, "Refusals in order": the numbers of its table as W-201, W-202, W-209, W-211 and W-212 of document 02 changed it, and the mission's first demand:
-- each public call "either answers or refuses with a number and a place from our table".
use Rattle.std.specs.Prelude.{ℕ, ◌<◌, Bool, true, false, ◌&&◌, ◌||◌, List, ◌⊎◌, ◌≡◌, eqb, leb, length, Err, Ok}
use Rattle.words.specs.Refusals.{refused}
use Rattle.words.specs.declared.Refusal.{Refusal}
use Rattle.tables.specs.declared.Strictness.{Strictness}
use Rattle.tables.specs.declared.Strictness.TheVariants.{Strict}
use Rattle.lines.specs.Answers.{refusal_code, route_of, trace_of, route_code, trace_code}
use Rattle.lines.specs.AtOnce.{at_once}
use Rattle.lines.specs.declared.Map.{Map}
use Rattle.owners.specs.Lookups.{filling_of, lookup_of}
use Rattle.owners.specs.declared.OwnerTable.{OwnerTable}
use Rattle.reading.specs.Scan.{scan}
use Rattle.reading.specs.Reading.{reading_of, list_after}
use Rattle.reading.specs.Entries.{route_result, trace_result}

-- a number from one to another
abbrev pub among : ℕ → ℕ → ℕ → Bool
among low high n = leb low n && leb n high

-- the numbers that a capture is refused with: 1 to 7 of the capture, 10 to 14 of the RSDP, 20 to 30 of the tables, 31 to 33, 35, 71 to
-- 78 (where 36 was), 37 and 38 of a structure, 34 of all structures, 39 of the processors, 40 to 45 and 51 to 54 of the map, 60 of the
-- list. 61 and 62 are of a map that is asked about by itself.
abbrev pub is_refusal_number : ℕ → Bool
is_refusal_number n =
    among 1 7 n
    || among 10 14 n
    || among 20 30 n
    || among 31 33 n
    || eqb n 35
    || among 71 78 n
    || among 37 38 n
    || eqb n 34
    || eqb n 39
    || among 40 45 n
    || among 51 54 n
    || eqb n 60

-- 1 to 5 are of the capture as a whole, and 60 is of the list: the table's place for them is 0
abbrev pub is_placeless : ℕ → Bool
is_placeless n = among 1 5 n || eqb n 60

-- "51 to 53 are to carry a second place"
abbrev pub is_twofold : ℕ → Bool
is_twofold = among 51 53

-- "A place is an offset in the capture": every other refusal names one inside it, and not 0. A second place stands before it, and
-- is not 0 either (that it is the partner's says EachExactly in Captures); "all others carry 0"
pub record OfTheTable (capture : List ℕ) (refusal : Refusal) : Type 0 where
  pub number : is_refusal_number refusal.number ≡ true
  pub place : ((is_placeless refusal.number ≡ true) × (refusal.place ≡ 0))
      ⊎ ((is_placeless refusal.number ≡ false) × (0 < refusal.place) × (refusal.place < length capture))
  pub second : ((is_twofold refusal.number ≡ true) × (0 < refusal.second) × (refusal.second < refusal.place))
      ⊎ ((is_twofold refusal.number ≡ false) × (refusal.second ≡ 0))

-- whatever is handed in, a refusal of the reading has a number of the table and a place of the capture
abbrev pub ReadingRefusals : Strictness → List ℕ → List ℕ → Type 0
ReadingRefusals strictness capture list = (r : Refusal) → (reading_of strictness capture list).answer ≡ Err r → OfTheTable capture r

-- "A refused call leaves the processor list it was lent as it found it"
abbrev pub RefusedLeavesList : Strictness → List ℕ → List ℕ → Type 0
RefusedLeavesList strictness capture list = (r : Refusal) → (reading_of strictness capture list).answer ≡ Err r → list_after strictness capture list ≡ list

-- the C entries for routing and tracing refuse what the reading refuses, 60 apart; of a capture that it does not refuse they
-- give the map's answer, which is never 61
abbrev pub RouteRefusals : List ℕ → ℕ → Type 0
RouteRefusals capture number =
    ((r : Refusal) × ((scan Strict capture).verdict ≡ Err r) × (route_result capture number ≡ refusal_code r) × OfTheTable capture r)
    ⊎ (((scan Strict capture).verdict ≡ Ok tt)
    × (route_result capture number ≡ route_code (route_of (scan Strict capture).map number))
    × ((r : Refusal) → route_of (scan Strict capture).map number ≡ Err r → ⊥))

abbrev pub TraceRefusals : List ℕ → ℕ → ℕ → Type 0
TraceRefusals capture vector number =
    ((r : Refusal) × ((scan Strict capture).verdict ≡ Err r) × (trace_result capture vector number ≡ refusal_code r) × OfTheTable capture r)
    ⊎ (((scan Strict capture).verdict ≡ Ok tt)
    × (trace_result capture vector number ≡ trace_code (trace_of (scan Strict capture).map vector number))
    × ((r : Refusal) → trace_of (scan Strict capture).map vector number ≡ Err r → ⊥))

-- "any map may be asked about": a question about a map by itself is refused with 61 at place 0, a list of questions (W-209 of document 02)
-- with 62 at place 0 too, a lookup with an owner table (W-211) with 63 at place 0 too, and with nothing else
abbrev pub MapRefusals : Map → Type 0
MapRefusals map =
    ((number : ℕ) (r : Refusal) → route_of map number ≡ Err r → r ≡ refused 61 0)
    × ((vector number : ℕ) (r : Refusal) → trace_of map vector number ≡ Err r → r ≡ refused 61 0)
    × ((numbers answers : List ℕ) (r : Refusal) → at_once map numbers answers ≡ Err r → (r ≡ refused 61 0) ⊎ (r ≡ refused 62 0))
    × ((r : Refusal) → (filling_of map).verdict ≡ Err r → r ≡ refused 61 0)
    × ((table : OwnerTable) (number : ℕ) (r : Refusal) → lookup_of map table number ≡ Err r → (r ≡ refused 61 0) ⊎ (r ≡ refused 63 0))
