-- What rule 38 tells of the counts of a map, and what a count past its array uses.
use Prim.Native.Nat.{ℕ, ◌≤◌, min}
use mathlib.Core.Path.{◌≡◌, refl, sym, ◌∙◌}
use mathlib.Core.Bool.{Bool, true, false, not, ◌&&◌, ◌||◌, true≢false}
use mathlib.Core.List.{List}
use native.Mathlib.Omega.{arith, min_cases}
use lib.Dec.{ltb}
use lib.ListN.{length, take}
use lib.Seq.{take_all}
use borrow.Author.Tests.{ltb-false}
use Rattle.words.specs.Refusals.{is_sound}
use Rattle.words.proofs.Verdicts.{first_broken_lem}
use Rattle.kinds.specs.Ranges.{bit_in_both}
use Rattle.clashes.proofs.Logic.{and_right, or_neither}
use Rattle.lines.specs.Says.{says}
use Rattle.lines.specs.Rules.{too_many, both_kinds, first_broken, slot_places, ranges_kept, keeps_rules}
use Rattle.lines.specs.declared.Map.{Map}
use Rattle.lines.specs.declared.Places.{Places}

pub counts : (map : Map) → too_many map ≡ false → (map.eiocount ≤ 4) × (map.biocount ≤ 4) × (map.msicount ≤ 4)
counts map h =
    let r = or_neither (ltb 4 map.eiocount || ltb 4 map.biocount) (ltb 4 map.msicount) h in
    let s = or_neither (ltb 4 map.eiocount) (ltb 4 map.biocount) r.0 in
    (ltb-false 4 map.eiocount s.0, ltb-false 4 map.biocount s.1, ltb-false 4 map.msicount r.1)

-- a map with one too many breaks a rule
pub many_broken : (map : Map) (places : Places) (madt fadt : ℕ) → too_many map ≡ true → is_sound (first_broken map places madt fadt) ≡ false
unfolding first_broken is_sound
many_broken map places madt fadt h = rw (first_broken_lem _ _ _ _ h)

-- a map that keeps the rules has no more than its arrays hold
pub few_of_kept : (map : Map) → keeps_rules map ≡ true → too_many map ≡ false
unfolding keeps_rules
few_of_kept map h = go (too_many map) refl
  where
    go : (b : Bool) → too_many map ≡ b → b ≡ false
    go false e = refl
    go true e =
        absurd
        (true≢false
        (sym (and_right (ranges_kept (says map) && not (bit_in_both (says map).lio) && not (both_kinds (says map))) (is_sound (first_broken map slot_places 0 0)) h)
        ∙ many_broken map slot_places 0 0 e))

-- a count that is cut to the array's length uses the same entries
pub take-used : {A : Type 0} (array : List A) (count n : ℕ) → length array ≡ 4 → n ≡ min count 4 → take n array ≡ take count array
take-used array count n held e =
    min_cases count 4 (take n array ≡ take count array)
    (λ few same. rw (e, same))
    (λ many same. rw (e, same) (take_all 4 array (omega arith) ∙ sym (take_all count array (omega arith))))
