-- Facts out of tests that are joined by `&&` and `||`, and such tests out of facts.
use Prim.Native.Nat.{ℕ}
use mathlib.Core.Path.{◌≡◌, refl, sym}
use mathlib.Core.Logic.{◌⊎◌, inl, inr}
use mathlib.Core.Bool.{Bool, true, false, ◌&&◌, ◌||◌, or-true}
use borrow.Author.Tests.{eqb-true, eq-eqb}
use lib.Dec.{eqb}

pub and_left : (a b : Bool) → (a && b) ≡ true → a ≡ true
and_left true b h = refl
and_left false b h = h

pub and_right : (a b : Bool) → (a && b) ≡ true → b ≡ true
and_right true b h = h
and_right false b h = cc

pub or_cases : (a b : Bool) → (a || b) ≡ true → (a ≡ true) ⊎ (b ≡ true)
or_cases true b h = inl refl
or_cases false b h = inr h

-- neither test holds
pub or_neither : (a b : Bool) → (a || b) ≡ false → (a ≡ false) × (b ≡ false)
or_neither true b h = (h, cc)
or_neither false b h = (refl, h)

pub both_true : (a b : Bool) → a ≡ true → b ≡ true → (a && b) ≡ true
both_true a b p q = rw (p, q)

pub left_true : (a b : Bool) → a ≡ true → (a || b) ≡ true
left_true a b p = rw p

pub right_true : (a b : Bool) → b ≡ true → (a || b) ≡ true
right_true a b q = rw (q, or-true)

pub is_false : (t : Bool) → (t ≡ true → ⊥) → t ≡ false
is_false true h = absurd (h refl)
is_false false h = refl

pub eqb-sym : (a b : ℕ) → eqb a b ≡ true → eqb b a ≡ true
eqb-sym a b h = eq-eqb b a (sym (eqb-true a b h))
