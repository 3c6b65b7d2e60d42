-- What it tells that a rule of a map is kept, or that it is broken.
use Prim.Native.Nat.{ℕ, zero, suc, ◌-◌, ◌<◌, ◌≤◌}
use native.Mathlib.Omega.{arith}
use mathlib.Core.Path.{◌≡◌, refl, sym, ap}
use mathlib.Core.Logic.{◌⊎◌, inl, inr}
use mathlib.Core.Bool.{Bool, true, not, ◌||◌}
use borrow.Author.Tests.{eqb-false}
use lib.Dec.{eqb, ltb}
use lib.ListN.{length, get_or}
use Rattle.words.specs.Choice.{if}
use Rattle.words.specs.Refusals.{refused_with, rule, first_refusal}
use Rattle.words.specs.declared.Refusal.{Refusal}
use Rattle.words.proofs.Choices.{if_cases}
use Rattle.words.proofs.Verdicts.{not_sound, same_refusal, rule_kept, rule_told, first-told}
use Rattle.clashes.proofs.Logic.{or_neither}
use Rattle.parts.specs.Inputs.{names_unwired}
use Rattle.lines.specs.Says.{Said}
use Rattle.lines.specs.Hubs.{hubs}
use Rattle.lines.specs.Routes.{arrival}
use Rattle.clashes.specs.Told.{at_later, at_both, spotted}
use Rattle.lines.specs.Rules.{rule40, no_bridge, no_input, lost, rules_to_45, rules_from_51, map_rules}
use Rattle.lines.specs.declared.Places.{Places}
use Rattle.std.specs.Prelude.{Option, Ok, Err, Some, None}

-- ---- a rule that two structures break, one place or both told, and one that a structure breaks by itself
module _ (n : ℕ) where
  pub later_kept : (c : Option (ℕ × ℕ)) → at_later n c ≡ Ok tt → c ≡ None
  unfolding at_later
  later_kept None h = refl
  later_kept (Some (p, q)) h = not_sound h

  pub kept_later : (c : Option (ℕ × ℕ)) → c ≡ None → at_later n c ≡ Ok tt
  unfolding at_later
  kept_later c h = rw h

  pub both_kept : (c : Option (ℕ × ℕ)) → at_both n c ≡ Ok tt → c ≡ None
  unfolding at_both
  both_kept None h = refl
  both_kept (Some (p, q)) h = not_sound h

  pub kept_both : (c : Option (ℕ × ℕ)) → c ≡ None → at_both n c ≡ Ok tt
  unfolding at_both
  kept_both c h = rw h

  pub spotted_kept : (s : Option ℕ) → spotted n s ≡ Ok tt → s ≡ None
  unfolding spotted
  spotted_kept None h = refl
  spotted_kept (Some p) h = not_sound h

  pub kept_spotted : (s : Option ℕ) → s ≡ None → spotted n s ≡ Ok tt
  unfolding spotted
  kept_spotted s h = rw h

  -- what is told is read off the refusal
  pub later_told : (m p q : ℕ) (c : Option (ℕ × ℕ)) → at_later n c ≡ Err (refused_with m p q) → (n ≡ m) × (q ≡ 0) × ((w : ℕ) × (c ≡ Some (p, w)))
  unfolding at_later
  later_told m p q None h = not_sound (sym h)
  later_told m p q (Some (x, w)) h =
      let same = same_refusal h in
      (ap (λ (r : Refusal). r.number) same, sym (ap (λ (r : Refusal). r.second) same), (w, ap (λ (r : Refusal). Some (r.place, w)) same))

  pub both_told : (m p q : ℕ) (c : Option (ℕ × ℕ)) → at_both n c ≡ Err (refused_with m p q) → (n ≡ m) × (c ≡ Some (p, q))
  unfolding at_both
  both_told m p q None h = not_sound (sym h)
  both_told m p q (Some (x, y)) h =
      let same = same_refusal h in
      (ap (λ (r : Refusal). r.number) same, ap (λ (r : Refusal). Some (r.place, r.second)) same)

  pub spotted-told : (m p q : ℕ) (s : Option ℕ) → spotted n s ≡ Err (refused_with m p q) → (n ≡ m) × (q ≡ 0) × (s ≡ Some p)
  unfolding spotted
  spotted-told m p q None h = not_sound (sym h)
  spotted-told m p q (Some x) h =
      let same = same_refusal h in
      (ap (λ (r : Refusal). r.number) same, sym (ap (λ (r : Refusal). r.second) same), ap (λ (r : Refusal). Some r.place) same)

-- a rule at a known place
pub rule_read : (broken : Bool) (number place n p q : ℕ) → rule broken number place ≡ Err (refused_with n p q)
    → (number ≡ n) × (q ≡ 0) × (p ≡ place) × (broken ≡ true)
rule_read broken number place n p q h =
    let same = rule_told broken number place h in (
      ap (λ (r : Refusal). r.number) same,
      sym (ap (λ (r : Refusal). r.second) same),
      sym (ap (λ (r : Refusal). r.place) same),
      if_cases (λ v. v ≡ Err (refused_with n p q) → broken ≡ true) broken _ _ (λ t e. t) (λ t e. not_sound (sym e)) h,
    )

-- 40: there is a hub
pub hub_there : (said : Said) (madt : ℕ) → rule40 said madt ≡ Ok tt → length (hubs said) ≡ 0 → ⊥
hub_there said madt h =
    let absent = not said.lio.present in
    let none = eqb (length (hubs said)) 0 in
    eqb-false (length (hubs said)) 0 (or_neither absent none (rule_kept (absent || none) 40 madt h)).1

-- ---- the rules of a map from 40 on
-- where a rule stands among them
abbrev pub position : ℕ → ℕ
position n = if (ltb n 46) (n - 40) (n - 45)

-- a second place is told by 51 to 53 alone
abbrev pub Second : ℕ → ℕ → Type 0
Second n q = ((51 ≤ n) × (n ≤ 53)) ⊎ (q ≡ 0)

abbrev Own : ℕ → ℕ → ℕ → Type 0
Own k n q = (position n ≡ k) × Second n q

one : {m n q : ℕ} → m ≡ n → q ≡ 0 → Own (position m) n q
one e none = (ap position (sym e), inr none)

two : {m n q : ℕ} → 51 ≤ m → m ≤ 53 → m ≡ n → Own (position m) n q
two low high e = (ap position (sym e), inl (omega arith, omega arith))

module _ (said : Said) (places : Places) (madt fadt : ℕ) where
  -- a rule that is broken gives its own number, and no second place but for 51 to 53
  pub own : (k n p q : ℕ) → get_or (map_rules said places madt fadt) k (Ok tt) ≡ Err (refused_with n p q) → Own k n q
  unfolding map_rules rules_to_45 rules_from_51 if
  own zero n p q h = let w = rule_read (not said.lio.present || eqb (length (hubs said)) 0) 40 madt n p q h in one w.0 w.1
  own (suc zero) n p q h = let w = later_told 41 n p q _ h in one w.0 w.1
  own (suc (suc zero)) n p q h = let w = spotted-told 42 n p q _ h in one w.0 w.1
  own (suc (suc (suc zero))) n p q h =
      let w = rule_read (no_bridge said.lpc said.bios) 43 places.lpc n p q h in
      one w.0 w.1
  own (suc (suc (suc (suc zero)))) n p q h =
      let w = rule_read (names_unwired said.lio said.ht) 44 places.ht n p q h in
      one w.0 w.1
  own (suc (suc (suc (suc (suc zero))))) n p q h =
      let w = rule_read (no_input said.lpc said.bios) 45 places.lpc n p q h in
      one w.0 w.1
  own (suc (suc (suc (suc (suc (suc zero)))))) n p q h = two (omega arith) (omega arith) (both_told 51 n p q _ h).0
  own (suc (suc (suc (suc (suc (suc (suc zero))))))) n p q h = two (omega arith) (omega arith) (both_told 52 n p q _ h).0
  own (suc (suc (suc (suc (suc (suc (suc (suc zero)))))))) n p q h = two (omega arith) (omega arith) (both_told 53 n p q _ h).0
  own (suc (suc (suc (suc (suc (suc (suc (suc (suc zero))))))))) n p q h = let w = rule_read (lost (arrival said said.sci)) 54 fadt n p q h in one w.0 w.1
  own (suc (suc (suc (suc (suc (suc (suc (suc (suc (suc k)))))))))) n p q h = not_sound (sym h)

  -- the number that is told is that of the first broken rule
  pub told_at : (n p q : ℕ) → first_refusal (map_rules said places madt fadt) ≡ Err (refused_with n p q)
      → (get_or (map_rules said places madt fadt) (position n) (Ok tt) ≡ Err (refused_with n p q))
      × ((i : ℕ) → i < position n → get_or (map_rules said places madt fadt) i (Ok tt) ≡ Ok tt)
  told_at n p q h =
      let w = first-told (map_rules said places madt fadt) h in
      rw (own w.k n p q w.told).0 (w.told, w.before)
