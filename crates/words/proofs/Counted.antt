-- Laws of consecutive numbers: what is made of each of them, by its place, and a test of all of them.
use Rattle.std.proofs.Common.{◌≡◌, ℕ, zero, suc, ◌+◌, ◌<◌, ◌≤◌, Bool, true, map, length, get_or, refl, ap, ⊎_elim, eq-or-lt_of_le, arith}
use Rattle.words.specs.Lists.{every, numbers_from}
use Rattle.words.proofs.Tests.{both_left, both_right}

-- ---- what is made of each
module _ {A : Type 0} (made : ℕ → A) where
  pub length-made : (from k : ℕ) → length (map made (numbers_from from k)) ≡ k
  unfolding numbers_from
  length-made from zero = refl
  length-made from (suc k) = ap suc (length-made (from + 1) k)

  pub made_at : (from k j : ℕ) (none : A) → j < k → get_or (map made (numbers_from from k)) j none ≡ made (from + j)
  unfolding numbers_from
  made_at from zero j none h = absurd (omega arith)
  made_at from (suc k) zero none h = let e : from + 0 ≡ from = omega arith in rw e
  made_at from (suc k) (suc j) none h =
      let e : from + suc j ≡ from + 1 + j = omega arith in
      rw e (made_at (from + 1) k j none (omega arith))

-- ---- a test of all of them
module _ (test : ℕ → Bool) where
  pub each-taken : (from k : ℕ) → every test (numbers_from from k) ≡ true → (j : ℕ) → from ≤ j → j < from + k → test j ≡ true
  unfolding numbers_from
  each-taken from zero h j low high = absurd (omega arith)
  each-taken from (suc k) h j low high =
      ⊎_elim
      (λ (e : from ≡ j). rw (← e) (both_left (test from) (every test (numbers_from (from + 1) k)) h))
      (λ (l : from < j). each-taken (from + 1) k (both_right (test from) (every test (numbers_from (from + 1) k)) h) j (omega arith) (omega arith))
      (eq-or-lt_of_le low)

  pub all_taken : (from k : ℕ) → ((j : ℕ) → from ≤ j → j < from + k → test j ≡ true) → every test (numbers_from from k) ≡ true
  unfolding numbers_from
  all_taken from zero each = refl
  all_taken from (suc k) each = rw (each from (omega arith) (omega arith)) (all_taken (from + 1) k (λ j low high. each j (omega arith) (omega arith)))
