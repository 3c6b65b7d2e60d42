-- Laws of the pairs: which are read, and what a sound capture's pairs tell.
use mathlib.Core.Bool.{Bool, true, false, not, ◌&&◌, true≢false}
use mathlib.Core.List.{List, [], ◌∷◌}
use Rattle.std.proofs.Common.{Some, None, zero-add}
use Rattle.std.proofs.lemmas.List.{ext_get_or}
use Rattle.words.proofs.Counted.{made_at}
use Rattle.std.specs.Option.{is_some, unwrap_or}
use mathlib.Core.Path.{◌≡◌, refl, sym, ap, ◌∙◌}
use Prim.Native.Nat.{ℕ, zero, suc, ◌≤◌, ◌<◌}
use native.Mathlib.Omega.{arith}
use lib.Dec.{eqb, ltb}
use lib.ListN.{length, take, get_or}
use borrow.Author.Tests.{ltb-false, eq-eqb}
use Rattle.words.specs.Choice.{if}
use Rattle.words.specs.Lists.{first, numbers_from, numbers_below}
use Rattle.words.specs.Refusals.{refused, unless, first_refusal}
use Rattle.words.proofs.Choices.{yes_if}
use Rattle.words.proofs.Searches.{search_none}
use Rattle.words.proofs.Tests.{both_left, neither_left, neither_right}
use Rattle.words.proofs.Verdicts.{not_sound, first_in_turn}
use Rattle.capture.specs.Fields.{version}
use Rattle.capture.specs.Pairs.{pair_place, pair_at, no_pair, pairs_of, tells_of, told_of, pins_of, pair_broken, pair_rules}
use Rattle.capture.specs.Rules.{verdict}
use Rattle.capture.specs.declared.pairs.Pair.{Pair}
use Rattle.capture.proofs.Within.{sound_pairs}
use Rattle.std.specs.Prelude.{Ok, Err}

-- ---- which are read
-- four pairs of a capture of version 2
pub four_pairs : (capture : List ℕ) → eqb (version capture) 2 ≡ true
    → pairs_of capture ≡ pair_at capture 0 ∷ pair_at capture 1 ∷ pair_at capture 2 ∷ pair_at capture 3 ∷ []
unfolding pairs_of numbers_below numbers_from if
four_pairs capture h = rw h

-- and four empty ones of any other
pub empty_pairs : (capture : List ℕ) → eqb (version capture) 2 ≡ false → pairs_of capture ≡ no_pair ∷ no_pair ∷ no_pair ∷ no_pair ∷ []
unfolding pairs_of numbers_below numbers_from if
empty_pairs capture h = rw h

-- four they are
pub pairs_four : (capture : List ℕ) → length (pairs_of capture) ≡ 4
unfolding pairs_of numbers_below numbers_from
pairs_four capture = refl

-- four that are read one by one are those of a capture of version 2
pub pairs_read : (capture : List ℕ) → eqb (version capture) 2 ≡ true → (pairs : List Pair) → length pairs ≡ 4
    → ((k : ℕ) → k < 4 → get_or pairs k no_pair ≡ pair_at capture k) → pairs ≡ pairs_of capture
unfolding pairs_of numbers_below
pairs_read capture two pairs four each =
    ext_get_or no_pair pairs (pairs_of capture) (four ∙ sym (pairs_four capture))
    (λ k h.
    each k (omega (arith, four))
    ∙ sym (made_at _ 0 4 k no_pair (omega (arith, four)) ∙ yes_if _ _ _ two ∙ ap (pair_at capture) (zero-add k)))

-- empty ones keep 7
pub empty_kept : (capture : List ℕ) → eqb (version capture) 2 ≡ false → first_refusal (pair_rules capture) ≡ Ok tt
unfolding pair_rules pair_broken tells_of numbers_below numbers_from if unless first_refusal
empty_kept capture h = rw (empty_pairs capture h)

-- 7, as a search for the first broken pair
pub pairs_first : (capture : List ℕ)
    → first_refusal (pair_rules capture) ≡ first (pair_broken (pairs_of capture)) (λ k. Err (refused 7 (pair_place k))) (Ok tt) (numbers_below 4)
unfolding pair_rules
pairs_first capture = first_in_turn (pair_broken (pairs_of capture)) 7 pair_place (numbers_below 4)

-- ---- what pairs tell
-- a number that is not 0 is 1 or more
some : (n : ℕ) → (n ≡ 0 → ⊥) → 1 ≤ n
some zero h = absurd (h refl)
some (suc n) h = omega arith

-- one that tells of a hardware ID is not empty
telling_some : (id : ℕ) (pair : Pair) → tells_of id pair ≡ true → pair.pins ≡ 0 → ⊥
unfolding tells_of
telling_some id pair t none =
    let full = both_left (not (eqb pair.pins 0)) (eqb pair.id id) t in
    true≢false (sym full ∙ ap not (eq-eqb pair.pins 0 none))

-- where no number is over 64, bridges have 1 to 64 inputs
in_range : (id : ℕ) (pairs : List Pair) → ((k : ℕ) → k < length pairs → (get_or pairs k no_pair).pins ≤ 64)
    → (1 ≤ pins_of pairs id) × (pins_of pairs id ≤ 64)
unfolding pins_of
in_range id [] h = (omega arith, omega arith)
in_range id (p ∷ ps) h = go (tells_of id p) refl (in_range id ps (λ k l. h (suc k) (omega arith)))
  where
    go : (b : Bool) → tells_of id p ≡ b → (1 ≤ pins_of ps id) × (pins_of ps id ≤ 64) → (1 ≤ pins_of (p ∷ ps) id) × (pins_of (p ∷ ps) id ≤ 64)
    go true t later = rw t (some p.pins (telling_some id p t), h 0 (omega arith))
    go false t later = rw t later

-- what a pair tells of its hardware ID is heard, where none before it tells of that
told_there : (id : ℕ) (pairs : List Pair) (k : ℕ) → k < length pairs → tells_of id (get_or pairs k no_pair) ≡ true → is_some (told_of id (take k pairs)) ≡ false
    → told_of id pairs ≡ Some (get_or pairs k no_pair).pins
told_there id [] k l t none = absurd (omega arith)
told_there id (p ∷ ps) zero l t none = rw t
told_there id (p ∷ ps) (suc k) l t none = go (tells_of id p) refl none (told_there id ps k (omega arith) t)
  where
    go : (b : Bool) → tells_of id p ≡ b → is_some (told_of id (p ∷ take k ps)) ≡ false
        → (is_some (told_of id (take k ps)) ≡ false → told_of id ps ≡ Some (get_or ps k no_pair).pins)
        → told_of id (p ∷ ps) ≡ Some (get_or ps k no_pair).pins
    go true e none later = absurd (true≢false (rw e at none))
    go false e none later = rw e (later (rw e at none))

-- and where none tells of it, nothing is told
told-nowhere : (id : ℕ) (pairs : List Pair) → ((k : ℕ) → k < length pairs → tells_of id (get_or pairs k no_pair) ≡ false) → told_of id pairs ≡ None
told-nowhere id [] h = refl
told-nowhere id (p ∷ ps) h = rw (h 0 (omega arith)) (told-nowhere id ps (λ k l. h (suc k) (omega arith)))

-- where something is told, a pair tells it
pub told_some : (id : ℕ) (pairs : List Pair) → is_some (told_of id pairs) ≡ true
    → (k : ℕ) × (k < length pairs) × (tells_of id (get_or pairs k no_pair) ≡ true)
told_some id [] told = absurd (true≢false (sym told))
told_some id (p ∷ ps) told = go (tells_of id p) refl told (told_some id ps)
  where
    go : (b : Bool) → tells_of id p ≡ b → is_some (told_of id (p ∷ ps)) ≡ true
        → (is_some (told_of id ps) ≡ true → (k : ℕ) × (k < length ps) × (tells_of id (get_or ps k no_pair) ≡ true))
        → (k : ℕ) × (k < length (p ∷ ps)) × (tells_of id (get_or (p ∷ ps) k no_pair) ≡ true)
    go true t told later = (0, omega arith, t)
    go false t told later = let w = later (rw t at told) in (suc w.0, omega arith, w.2)

-- and where a pair tells it, something is
pub told_by : (id : ℕ) (pairs : List Pair) (k : ℕ) → k < length pairs → tells_of id (get_or pairs k no_pair) ≡ true → is_some (told_of id pairs) ≡ true
told_by id [] k l t = absurd (omega arith)
told_by id (p ∷ ps) zero l t = rw t
told_by id (p ∷ ps) (suc k) l t = go (tells_of id p) refl (told_by id ps k (omega arith) t)
  where
    go : (b : Bool) → tells_of id p ≡ b → is_some (told_of id ps) ≡ true → is_some (told_of id (p ∷ ps)) ≡ true
    go true e later = rw e
    go false e later = rw e later

-- ---- of a sound capture
module _ (capture : List ℕ) (sound : verdict capture ≡ Ok tt) where
  pair_kept : (k : ℕ) → k < 4 → pair_broken (pairs_of capture) k ≡ false
  unfolding numbers_below
  pair_kept k h =
      search_none (pair_broken (pairs_of capture)) (λ (j : ℕ). Err (refused 7 (pair_place j))) (Ok tt) (Ok tt) 0 4 k
      (sym (pairs_first capture) ∙ sound_pairs capture sound)
      (λ j t e. not_sound e)
      (omega arith)
      (omega arith)

  number_small : (k : ℕ) → k < length (pairs_of capture) → (get_or (pairs_of capture) k no_pair).pins ≤ 64
  unfolding pair_broken
  number_small k h = ltb-false 64 _ (neither_left _ _ (pair_kept k (omega (arith, pairs_four capture))))

  -- 7: every bridge has 1 to 64 inputs
  pub pins_in_range : (id : ℕ) → (1 ≤ pins_of (pairs_of capture) id) × (pins_of (pairs_of capture) id ≤ 64)
  pins_in_range id = in_range id (pairs_of capture) number_small

  -- each pair that is not empty is heard
  pub pair_heard : (k : ℕ) → k < 4 → eqb (get_or (pairs_of capture) k no_pair).pins 0 ≡ false
      → pins_of (pairs_of capture) (get_or (pairs_of capture) k no_pair).id ≡ (get_or (pairs_of capture) k no_pair).pins
  unfolding pair_broken pins_of tells_of
  pair_heard k h full =
      let id = (get_or (pairs_of capture) k no_pair).id in
      let tells : tells_of id (get_or (pairs_of capture) k no_pair) ≡ true = rw (full, eq-eqb id id refl) in
      let once : (not (eqb (get_or (pairs_of capture) k no_pair).pins 0) && is_some (told_of id (take k (pairs_of capture)))) ≡ false =
      neither_right (ltb 64 (get_or (pairs_of capture) k no_pair).pins) _ (pair_kept k h)
      in
      ap (λ told. unwrap_or told 64) (told_there id (pairs_of capture) k (omega (arith, pairs_four capture)) tells (rw full at once))

-- where no pair that is not empty has the hardware ID, a bridge has 64
pub none_tells : (capture : List ℕ) (id : ℕ) → ((k : ℕ) → k < 4 → tells_of id (get_or (pairs_of capture) k no_pair) ≡ false)
    → pins_of (pairs_of capture) id ≡ 64
unfolding pins_of
none_tells capture id h =
    ap (λ told. unwrap_or told 64) (told-nowhere id (pairs_of capture) (λ k l. h k (omega (arith, pairs_four capture))))
