-- A kind with four places, as a map holds it: the structures that there are, and behind them unused places. And a kind with one.
use Prim.Native.Nat.{ℕ, zero, suc, ◌<◌, ◌≤◌}
use native.Mathlib.Omega.{arith}
use mathlib.Core.Path.{◌≡◌, refl, sym}
use mathlib.Core.List.{List, [], ◌∷◌, map}
use mathlib.Core.Bool.{Bool, true}
use lib.ListN.{length, take, get_or}
use Rattle.words.specs.Lists.{every}
use Rattle.madt.specs.Contents.{the_one, in_four}

module _ {A : Type 0} (none : A) where
  -- what is said of the four places is the structures
  pub take_four : (xs : List A) → length xs ≤ 4 → take (length xs) (in_four none xs) ≡ xs
  take_four [] few = refl
  take_four (a ∷ []) few = refl
  take_four (a ∷ b ∷ []) few = refl
  take_four (a ∷ b ∷ c ∷ []) few = refl
  take_four (a ∷ b ∷ c ∷ d ∷ []) few = refl
  take_four (a ∷ b ∷ c ∷ d ∷ e ∷ xs) few = absurd (omega arith)

  -- of one structure at most it is the first
  pub one_at : (xs : List A) → length xs ≤ 1 → the_one none xs ≡ get_or xs 0 none
  unfolding the_one
  one_at [] few = refl
  one_at (a ∷ []) few = refl
  one_at (a ∷ b ∷ xs) few = absurd (omega arith)

  -- behind the last element there is none
  pub past : (xs : List A) (i : ℕ) → length xs ≤ i → get_or xs i none ≡ none
  past [] i l = refl
  past (x ∷ xs) zero l = absurd (omega arith)
  past (x ∷ xs) (suc i) l = past xs i (omega arith)

  -- a place holds a structure, or `none`
  pub at_four : (xs : List A) → length xs ≤ 4 → (i : ℕ) → get_or (in_four none xs) i none ≡ get_or xs i none
  at_four xs few zero = refl
  at_four xs few (suc zero) = refl
  at_four xs few (suc (suc zero)) = refl
  at_four xs few (suc (suc (suc zero))) = refl
  at_four xs few (suc (suc (suc (suc i)))) = sym (past xs (suc (suc (suc (suc i)))) (omega arith))

-- a test that holds at every place holds of every element
pub at_every : {A : Type 0} (d : A) (f : A → Bool) (l : List A) → ((i : ℕ) → i < length l → f (get_or l i d) ≡ true) → every f l ≡ true
at_every d f [] h = refl
at_every d f (x ∷ xs) h = rw (h 0 (omega arith)) (at_every d f xs (λ i k. h (suc i) (omega arith)))

-- what is made of the elements, at a place
pub map_at : {A B : Type 0} (f : A → B) (d : A) (e : B) (xs : List A) (i : ℕ) → i < length xs → get_or (map f xs) i e ≡ f (get_or xs i d)
map_at f d e [] i l = absurd (omega arith)
map_at f d e (x ∷ xs) zero l = refl
map_at f d e (x ∷ xs) (suc i) l = map_at f d e xs i (omega arith)
