-- What the type of a structure chooses.
use mathlib.Core.Path.{◌≡◌, refl}
use mathlib.Core.Bool.{true, false}
use mathlib.Core.List.{List}
use Prim.Native.Nat.{ℕ}
use native.Mathlib.Omega.{arith}
use borrow.Author.Tests.{eq-eqb, ne_eqb}
use lib.Dec.{eqb}
use Rattle.words.specs.Bytes.{byte_at}
use Rattle.words.proofs.Choices.{yes_if, no_if}
use Rattle.madt.specs.Rules.{is_type, by_type}

-- ---- what the type of a structure chooses
pub type_yes : (number : ℕ) (s : List ℕ) → byte_at s 0 ≡ number → is_type number s ≡ true
unfolding is_type
type_yes number s h = eq-eqb (byte_at s 0) number h

pub type_no : (number : ℕ) (s : List ℕ) → (byte_at s 0 ≡ number → ⊥) → is_type number s ≡ false
unfolding is_type
type_no number s h = ne_eqb (byte_at s 0) number h

-- a type is no other: the two numbers are compared by computing
pub type_other : (number : ℕ) (s : List ℕ) {own : ℕ} → byte_at s 0 ≡ own → eqb own number ≡ false → is_type number s ≡ false
unfolding is_type
type_other number s h differ = rw h differ

module _ {A : Type 0} (s : List ℕ) (core lio ht eio msi bio lpc other : A) where
  pub of_core : byte_at s 0 ≡ 17 → by_type s core lio ht eio msi bio lpc other ≡ core
  of_core h = yes_if _ _ _ (type_yes _ _ h)

  pub of_lio : byte_at s 0 ≡ 18 → by_type s core lio ht eio msi bio lpc other ≡ lio
  of_lio h = no_if _ _ _ (type_no _ _ (omega arith)) (yes_if _ _ _ (type_yes _ _ h))

  pub of_ht_lem : byte_at s 0 ≡ 19 → by_type s core lio ht eio msi bio lpc other ≡ ht
  of_ht_lem h = no_if _ _ _ (type_no _ _ (omega arith)) (no_if _ _ _ (type_no _ _ (omega arith)) (yes_if _ _ _ (type_yes _ _ h)))

  pub of_eio_lem : byte_at s 0 ≡ 20 → by_type s core lio ht eio msi bio lpc other ≡ eio
  of_eio_lem h =
      no_if _ _ _ (type_no _ _ (omega arith)) (no_if _ _ _ (type_no _ _ (omega arith)) (no_if _ _ _ (type_no _ _ (omega arith))
      (yes_if _ _ _ (type_yes _ _ h))))

  pub of_msi : byte_at s 0 ≡ 21 → by_type s core lio ht eio msi bio lpc other ≡ msi
  of_msi h =
      no_if _ _ _ (type_no _ _ (omega arith)) (no_if _ _ _ (type_no _ _ (omega arith)) (no_if _ _ _ (type_no _ _ (omega arith))
      (no_if _ _ _ (type_no _ _ (omega arith)) (yes_if _ _ _ (type_yes _ _ h)))))

  pub of_bio_lem : byte_at s 0 ≡ 22 → by_type s core lio ht eio msi bio lpc other ≡ bio
  of_bio_lem h =
      no_if _ _ _ (type_no _ _ (omega arith)) (no_if _ _ _ (type_no _ _ (omega arith)) (no_if _ _ _ (type_no _ _ (omega arith))
      (no_if _ _ _ (type_no _ _ (omega arith)) (no_if _ _ _ (type_no _ _ (omega arith)) (yes_if _ _ _ (type_yes _ _ h))))))

  pub of_lpc : byte_at s 0 ≡ 23 → by_type s core lio ht eio msi bio lpc other ≡ lpc
  of_lpc h =
      no_if _ _ _ (type_no _ _ (omega arith)) (no_if _ _ _ (type_no _ _ (omega arith)) (no_if _ _ _ (type_no _ _ (omega arith))
      (no_if _ _ _ (type_no _ _ (omega arith)) (no_if _ _ _ (type_no _ _ (omega arith)) (no_if _ _ _ (type_no _ _ (omega arith))
      (yes_if _ _ _ (type_yes _ _ h)))))))

  pub of_other : (byte_at s 0 ≡ 17 → ⊥) → (byte_at s 0 ≡ 18 → ⊥) → (byte_at s 0 ≡ 19 → ⊥) → (byte_at s 0 ≡ 20 → ⊥) → (byte_at s 0 ≡ 21 → ⊥)
      → (byte_at s 0 ≡ 22 → ⊥) → (byte_at s 0 ≡ 23 → ⊥) → by_type s core lio ht eio msi bio lpc other ≡ other
  of_other a b c d e f g =
      no_if _ _ _ (type_no _ _ a) (no_if _ _ _ (type_no _ _ b) (no_if _ _ _ (type_no _ _ c) (no_if _ _ _ (type_no _ _ d)
      (no_if _ _ _ (type_no _ _ e) (no_if _ _ _ (type_no _ _ f) (no_if _ _ _ (type_no _ _ g) refl))))))
