-- One rule, or two in order, each told at place 0: each number is told exactly when it is due.
use Prim.Native.Nat.{ℕ}
use mathlib.Core.Bool.{Bool, true, false, true≢false}
use mathlib.Core.Logic.{⊎_elim}
use mathlib.Core.Path.{◌≡◌, refl, sym, ap}
use Rattle.words.specs.Choice.{if}
use Rattle.words.specs.Refusals.{refused, refused_with, rule}
use Rattle.words.specs.declared.Refusal.{Refusal}
use Rattle.words.proofs.TwoRules.{both, first_due, second_due, one_of_two}
use Rattle.words.proofs.Verdicts.{not_sound, same_refusal}
use Rattle.map_promises.specs.Clashing.{OnePlace, Exactly}
use Rattle.std.specs.Prelude.{Err}

-- the same, in other words for what is told and for when it is due
pub rephrased : {told other : ℕ → ℕ → Type 0} {broken due : Type 0} {named : ℕ → ℕ → Type 0}
    → ((p q : ℕ) → other p q → told p q) → ((p q : ℕ) → told p q → other p q) → (broken → due) → (due → broken)
    → Exactly told broken named → Exactly other due named
rephrased back on weak strong e =
    ((λ p q h. let x = e.0 p q (back p q h) in (weak x.0, x.1)), λ d. let x = e.1 (strong d) in (x.0, x.1, on _ _ x.2))

-- what two refusals that are equal tell
places : {number p q : ℕ} {other : ℕ} → refused number 0 ≡ refused_with other p q → (p ≡ 0) × (q ≡ 0)
places e = (sym (ap (λ (r : Refusal). r.place) e), sym (ap (λ (r : Refusal). r.second) e))

pub one_exactly : (a : Bool) (m : ℕ) → Exactly (λ p q. rule a m 0 ≡ Err (refused_with m p q)) (a ≡ true) (OnePlace (λ p. p ≡ 0))
unfolding if
one_exactly true m = ((λ p q h. (refl, places (same_refusal h))), λ due. (0, 0, refl))
one_exactly false m = ((λ p q h. not_sound (sym h)), λ due. absurd (true≢false (sym due)))

module _ (a b : Bool) (m n : ℕ) (differ : m ≡ n → ⊥) where
  pub first-exactly : Exactly (λ p q. both a b m n ≡ Err (refused_with m p q)) (a ≡ true) (OnePlace (λ p. p ≡ 0))
  first-exactly = (
    (λ p q h.
        ⊎_elim
        (λ x. (x.0, places x.1))
        (λ x. absurd (differ (sym (ap (λ (r : Refusal). r.number) x.2))))
        (one_of_two a b m n (refused_with m p q) h)),
    λ due. (0, 0, first_due a b m n due),
  )

  pub second_exactly : Exactly (λ p q. both a b m n ≡ Err (refused_with n p q)) ((a ≡ false) × (b ≡ true)) (OnePlace (λ p. p ≡ 0))
  second_exactly = (
    (λ p q h.
        ⊎_elim
        (λ x. absurd (differ (ap (λ (r : Refusal). r.number) x.1)))
        (λ x. ((x.0, x.1), places x.2))
        (one_of_two a b m n (refused_with n p q) h)),
    λ due. (0, 0, second_due a b m n due.0 due.1),
  )
