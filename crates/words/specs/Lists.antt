-- Searches and tests over a list, and what its elements give, in its order.
use Rattle.std.specs.Prelude.{ℕ, zero, suc, ◌+◌, Bool, List, [], ◌∷◌, ◌++◌}
use Rattle.std.specs.List.{list_all}
use Rattle.words.specs.Choice.{if}

-- `found` of the first element that the test takes, or `none` where it takes no element
unfoldable pub first {ℓ ℓ'} : {A : Type ℓ} {R : Type ℓ'} → (A → Bool) → (A → R) → R → List A → R
first test found none [] = none
first test found none (x ∷ xs) =
    let later = first test found none xs in
    if (test x) (found x) later

-- the test takes every element
abbrev pub every : {A : Type 0} → (A → Bool) → List A → Bool
every test xs = list_all test xs

-- the elements that the test takes, in their order
unfoldable pub those {ℓ} : {A : Type ℓ} → (A → Bool) → List A → List A
those test [] = []
those test (x ∷ xs) = if (test x) (x ∷ those test xs) (those test xs)

-- what each element gives, in turn: all that the first gives, then what the next gives
unfoldable pub in_each {ℓ ℓ'} : {A : Type ℓ} {B : Type ℓ'} → (A → List B) → List A → List B
in_each gives [] = []
in_each gives (x ∷ xs) = gives x ++ in_each gives xs

-- the k numbers from `from` on
unfoldable pub numbers_from : ℕ → ℕ → List ℕ
numbers_from from zero = []
numbers_from from (suc k) = from ∷ numbers_from (from + 1) k

-- 0, 1, .., n - 1
unfoldable pub numbers_below : ℕ → List ℕ
numbers_below n = numbers_from 0 n
