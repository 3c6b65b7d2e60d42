-- Document 01, "The capture", as W-206 of document 02 changed it: where a stretch of memory stands in the capture; and refusal 10, the
-- RSDP's presence. What presence means byte by byte is said, and proved of these definitions, in Memory.
use Rattle.std.specs.Prelude.{ℕ, ◌+◌, ◌-◌, Bool, true, false, not, ◌&&◌, List, [], ◌∷◌, ◌++◌, eqb, ltb, leb, Result, Ok, Err}
use Rattle.words.specs.Lists.{first, numbers_from}
use Rattle.words.specs.Refusals.{Verdict, rule, unless, first_refusal}
use Rattle.capture.specs.Fields.{segment_count, rsdp_address, segment_address, segment_end, segment_place, segments}
use Rattle.capture.specs.Rules.{container_rules}
use Rattle.words.specs.declared.Refusal.{Refusal}

-- a stretch of memory: present at a place of the capture, or absent
pub data Stretch : Type 0 where
  Present : ℕ → Stretch
  Absent : Stretch

unfoldable pub is_present : Stretch → Bool
is_present (Present place) = true
is_present Absent = false

-- one that is absent has place 0 here: what looks at a place comes after the rule that the stretch is present
unfoldable pub place_of : Stretch → ℕ
place_of (Present place) = place
place_of Absent = 0

-- "Where a segment starts exactly at the end of the one before it": behind segment i one does
unfoldable pub goes_on : List ℕ → ℕ → Bool
goes_on capture i = ltb (i + 1) (segment_count capture) && eqb (segment_address capture (i + 1)) (segment_end capture i)

-- "across the two, or across several such": the run of segments from segment i on, up to the first behind which none goes on; where it
-- ends. (Behind the last segment none does, so that one is found.)
unfoldable pub run_end : List ℕ → ℕ → ℕ
run_end capture i = first (λ j. not (goes_on capture j)) (segment_end capture) 0 (numbers_from i (segment_count capture - i))

-- the stretch lies wholly inside the run from segment i on
unfoldable pub holds : List ℕ → ℕ → ℕ → ℕ → Bool
holds capture address size i = leb (segment_address capture i) address && leb (address + size) (run_end capture i)

-- the place of an address of the run from segment i on, whose bytes stand one after another in the capture as they do in memory
unfoldable pub place_in : List ℕ → ℕ → ℕ → ℕ
place_in capture address i = segment_place capture i + (address - segment_address capture i)

-- "A stretch of memory is present if it lies wholly inside one segment", or inside several that touch
unfoldable pub located : List ℕ → ℕ → ℕ → Stretch
located capture address size = first (holds capture address size) (λ i. Present (place_in capture address i)) Absent (segments capture)

-- "RSDP, 36 bytes": the stretch that the header's address names
abbrev pub rsdp_size : ℕ
rsdp_size = 36

unfoldable pub rsdp_stretch : List ℕ → Stretch
rsdp_stretch capture = located capture (rsdp_address capture) rsdp_size

unfoldable pub rsdp_place : List ℕ → ℕ
rsdp_place capture = place_of (rsdp_stretch capture)

-- 10: "RSDP not present", at place 10, the field that names it
unfoldable pub presence_rules : List ℕ → List Verdict
presence_rules capture = rule (not (is_present (rsdp_stretch capture))) 10 10 ∷ []

-- the order: refusals 1 to 7, then 10; or the RSDP's place
unfoldable pub rsdp : List ℕ → Result ℕ Refusal
rsdp capture = unless Err (first_refusal (container_rules capture ++ presence_rules capture)) (Ok (rsdp_place capture))
