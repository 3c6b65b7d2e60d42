-- The elements of a list that a test takes, where the list has one element more.
use Rattle.std.proofs.Common.{◌≡◌, suc, ◌≤◌, Bool, true, false, List, [], ◌∷◌, ◌++◌, map, length, sym, refl, ap, true≢false, arith}
use Rattle.words.specs.Choice.{if}
use Rattle.words.specs.Lists.{those}
use Rattle.words.proofs.Choices.{yes_if, no_if}

module _ {A : Type 0} (test : A → Bool) where
  -- one that the test takes stands behind the others
  pub those_more : (xs : List A) (x : A) → test x ≡ true → those test (xs ++ (x ∷ [])) ≡ those test xs ++ (x ∷ [])
  unfolding those if
  those_more [] x t = yes_if _ _ _ t
  those_more (y ∷ ys) x t = go (test y) (those_more ys x t)
    where
      go : (b : Bool) → those test (ys ++ (x ∷ [])) ≡ those test ys ++ (x ∷ [])
          → if b (y ∷ those test (ys ++ (x ∷ []))) (those test (ys ++ (x ∷ []))) ≡ if b (y ∷ those test ys) (those test ys) ++ (x ∷ [])
      go true e = ap (λ (r : List A). y ∷ r) e
      go false e = e

  -- any other changes nothing
  pub those_same : (xs : List A) (x : A) → test x ≡ false → those test (xs ++ (x ∷ [])) ≡ those test xs
  unfolding those if
  those_same [] x t = no_if _ _ _ t refl
  those_same (y ∷ ys) x t = go (test y) (those_same ys x t)
    where
      go : (b : Bool) → those test (ys ++ (x ∷ [])) ≡ those test ys
          → if b (y ∷ those test (ys ++ (x ∷ []))) (those test (ys ++ (x ∷ []))) ≡ if b (y ∷ those test ys) (those test ys)
      go true e = ap (λ (r : List A). y ∷ r) e
      go false e = e

-- a narrower test takes no more
pub those_narrower : {A : Type 0} (test wider : A → Bool) → ((x : A) → test x ≡ true → wider x ≡ true) → (xs : List A)
    → length (those test xs) ≤ length (those wider xs)
unfolding those if
those_narrower test wider h [] = omega arith
those_narrower test wider h (x ∷ xs) = go (test x) (wider x) (h x) (those_narrower test wider h xs)
  where
    go : (b w : Bool) → (b ≡ true → w ≡ true) → length (those test xs) ≤ length (those wider xs)
        → length (if b (x ∷ those test xs) (those test xs)) ≤ length (if w (x ∷ those wider xs) (those wider xs))
    go true true i l = omega arith
    go true false i l = absurd (true≢false (sym (i refl)))
    go false true i l = omega arith
    go false false i l = l

-- what is made of a list with one element more
pub map_more : {A B : Type 0} (f : A → B) (xs : List A) (x : A) → map f (xs ++ (x ∷ [])) ≡ map f xs ++ (f x ∷ [])
map_more f [] x = refl
map_more {B = B} f (y ∷ ys) x = ap (λ (r : List B). f y ∷ r) (map_more f ys x)

pub length-map : {A B : Type 0} (f : A → B) (xs : List A) → length (map f xs) ≡ length xs
length-map f [] = refl
length-map f (x ∷ xs) = ap suc (length-map f xs)
