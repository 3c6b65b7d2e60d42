-- Small laws of tests and of numbers.
use Prim.Native.Nat.{ℕ, zero, suc, ◌<◌, ◌/◌, ◌%◌, ◌^◌}
use native.Mathlib.Nat.{zero-div}
use native.Mathlib.Omega.{arith}
use mathlib.Core.Path.{◌≡◌, refl, sym}
use mathlib.Core.Logic.{◌⊎◌, inl, inr, ⊎_elim}
use mathlib.Core.Bool.{Bool, true, false, not}
use borrow.Author.Tests.{eqb-true, eqb-false, not-true}
use lib.Bits.{bit_and, and_shr, and_mod}
use lib.Dec.{eqb, ltb}
use Rattle.std.specs.Prelude.{Result, Ok, Err}
use Rattle.words.specs.declared.Refusal.{Refusal}
use Rattle.kinds.specs.declared.Lio.{Lio}
use Rattle.clashes.proofs.Logic.{and_right, or_cases}
use Rattle.parts.specs.Inputs.{has_bit, wired}
use Rattle.parts.proofs.Inputs.{bit_small}

-- what is answered is not refused; equal refusals and equal answers hold the same
pub answered_not : {A : Type 0} {x : A} {r : Refusal} → ◌≡◌ {A = Result A Refusal} (Ok x) (Err r) → ⊥
answered_not e = let o : ◌≡◌ {A = ℕ} 0 1 = cc in omega arith

pub same_refused : {A : Type 0} {q r : Refusal} → ◌≡◌ {A = Result A Refusal} (Err q) (Err r) → q ≡ r
same_refused e = cc

pub same_answer : {A : Type 0} {x y : A} → ◌≡◌ {A = Result A Refusal} (Ok x) (Ok y) → x ≡ y
same_answer e = cc

pub is_bool : (t : Bool) → (t ≡ false) ⊎ (t ≡ true)
is_bool true = inr refl
is_bool false = inl refl

pub same_bool : (a b : Bool) → (a ≡ true → b ≡ true) → (b ≡ true → a ≡ true) → a ≡ b
same_bool true b f g = sym (f refl)
same_bool false true f g = g refl
same_bool false false f g = refl

pub neq : (x y : ℕ) → not (eqb x y) ≡ true → x ≡ y → ⊥
neq x y h = eqb-false x y (not-true _ h)

-- three ways for two numbers
pub order : (i j : ℕ) → (i < j) ⊎ ((i ≡ j) ⊎ (j < i))
order zero zero = inr (inl refl)
order zero (suc j) = inl (omega arith)
order (suc i) zero = inr (inr (omega arith))
order (suc i) (suc j) =
    ⊎_elim (λ h. inl (omega arith)) (⊎_elim (λ h. inr (inl (omega arith))) (λ h. inr (inr (omega arith)))) (order i j)

-- two masks with no bit in common
pub both_bits : (a b i : ℕ) → bit_and a b ≡ 0 → has_bit a i ≡ true → has_bit b i ≡ true → ⊥
unfolding has_bit
both_bits a b i z p q =
    let x : a / 2 ^ i % 2 ≡ 1 = eqb-true _ _ (and_right (ltb i 32) (eqb (a / 2 ^ i % 2) 1) p) in
    let y : b / 2 ^ i % 2 ≡ 1 = eqb-true _ _ (and_right (ltb i 32) (eqb (b / 2 ^ i % 2) 1) q) in
    let e : bit_and a b / 2 ^ i % 2 ≡ 1 = rw (and_shr, and_mod (a / 2 ^ i) (b / 2 ^ i) 1, x, y) in
    let w : ◌≡◌ {A = ℕ} 0 1 = rw (z, zero-div) at e in
    omega arith

-- a mask with a bit is in use
pub bit_used : (mask i : ℕ) → has_bit mask i ≡ true → mask ≡ 0 → ⊥
unfolding has_bit
bit_used mask i h z =
    let x : mask / 2 ^ i % 2 ≡ 1 = eqb-true _ _ (and_right (ltb i 32) (eqb (mask / 2 ^ i % 2) 1) h) in
    let w : ◌≡◌ {A = ℕ} 0 1 = rw (z, zero-div) at x in
    omega arith

-- a wired input is one of 32
pub wired_small : (lio : Lio) (i : ℕ) → wired lio i ≡ true → i < 32
wired_small lio i h =
    ⊎_elim (bit_small lio.low.mask i) (bit_small lio.high.mask i)
    (or_cases (has_bit lio.low.mask i) (has_bit lio.high.mask i) h)
