-- Loops over a list, from its first element on: what holds at the start of each turn, as a record, and the laws for a turn
-- and for the end. `rest` is what of the list is still to come: of the numbers below n, `numbers_from i (n - i)`. A record, so
-- that a law finds the test and the answers by itself. At the end of the file, searches that need no loop: by std's `find`.
use Rattle.std.proofs.Common.{◌≡◌, ℕ, zero, suc, ◌+◌, ◌-◌, ◌<◌, ◌≤◌, Bool, true, false, List, [], ◌∷◌, sym, refl, ◌∙◌, ⊎_elim, eq-or-lt_of_le, arith}
use native.Mathlib.Nat.{sub-zero}
use Rattle.std.specs.Prelude.{Option, Some, cond}
use Rattle.std.proofs.lemmas.Option.{none-some, same_Some}
use Rattle.std.specs.Option.{option_map_or}
use Rattle.std.specs.List.{find}
use Rattle.words.specs.Choice.{if}
use Rattle.words.specs.Lists.{first, numbers_from, numbers_below}
use Rattle.words.proofs.Choices.{yes_if, no_if}

-- what is left of the numbers below n, one turn on and at the end
pub next_number : (n i : ℕ) → i < n → numbers_from i (n - i) ≡ i ∷ numbers_from (i + 1) (n - (i + 1))
unfolding numbers_from
next_number n i h =
    let left : n - i ≡ suc (n - (i + 1)) = omega arith in
    rw left

pub no_number : (n i : ℕ) → n ≤ i → numbers_from i (n - i) ≡ []
unfolding numbers_from
no_number n i h =
    let left : n - i ≡ 0 = omega arith in
    rw left

-- searching `rest` gives the answer
pub record Searching {A R : Type 0} (test : A → Bool) (found : A → R) (none : R) (answer : R) (rest : List A) : Type 0 where
  pub gives : first test found none rest ≡ answer

-- a search of the numbers below m begins, with m in a local
pub search_start : {R : Type 0} {test : ℕ → Bool} {found : ℕ → R} {none : R} (n m : ℕ) → n ≡ m
    → Searching test found none (first test found none (numbers_below m)) (numbers_from 0 (n - 0))
unfolding numbers_below
search_start n m e = record { gives = rw (sub-zero, e) }

module _ {A R : Type 0} {test : A → Bool} {found : A → R} {none answer : R} {rest : List A} (s : Searching test found none answer rest) where
  pub search_hit : {x : A} {later : List A} → rest ≡ x ∷ later → test x ≡ true → found x ≡ answer
  unfolding first
  search_hit e taken = sym (yes_if _ _ _ taken) ∙ (rw e at s.gives)

  pub search_miss : {x : A} {later : List A} → rest ≡ x ∷ later → test x ≡ false → Searching test found none answer later
  unfolding first
  search_miss e left = record { gives = sym (no_if _ _ _ left refl) ∙ (rw e at s.gives) }

  pub search_over : rest ≡ [] → none ≡ answer
  unfolding first
  search_over e = rw e at s.gives

-- what a search of numbers tells: where it first found its answer, or that its test takes none of them
pub record Hit {R : Type 0} (test : ℕ → Bool) (found : ℕ → R) (answer : R) (from until : ℕ) : Type 0 where
  pub at : ℕ
  pub begun : from ≤ at
  pub counted : at < until
  pub taken : test at ≡ true
  pub told : found at ≡ answer
  pub before : (j : ℕ) → from ≤ j → j < at → test j ≡ false

module _ {R : Type 0} (test : ℕ → Bool) (found : ℕ → R) (none answer : R) where
  pub search_found : (from k until : ℕ) → from + k ≡ until → first test found none (numbers_from from k) ≡ answer → (none ≡ answer → ⊥)
      → Hit test found answer from until
  unfolding first numbers_from if
  search_found from zero until e h other = absurd (other h)
  search_found from (suc k) until e h other =
      go (test from) refl h (λ x. search_found (from + 1) k until (omega arith) x other)
    where
      go : (b : Bool) → test from ≡ b → if b (found from) (first test found none (numbers_from (from + 1) k)) ≡ answer
          → (first test found none (numbers_from (from + 1) k) ≡ answer → Hit test found answer (from + 1) until)
          → Hit test found answer from until
      go true t g later =
          record { at = from; begun = omega arith; counted = omega arith; taken = t; told = g; before = λ j low high. absurd (omega arith) }
      go false t g later =
          let l = later g in
          record {
            at = l.at;
            begun = omega arith;
            counted = l.counted;
            taken = l.taken;
            told = l.told;
            before = λ j low high.
                ⊎_elim (λ (e : from ≡ j). rw (← e) t) (λ (less : from < j). l.before j (omega arith) high) (eq-or-lt_of_le low);
          }

  pub search_none : (from k j : ℕ) → first test found none (numbers_from from k) ≡ answer
      → ((i : ℕ) → test i ≡ true → found i ≡ answer → ⊥) → from ≤ j → j < from + k → test j ≡ false
  unfolding first numbers_from if
  search_none from zero j h other low high = absurd (omega arith)
  search_none from (suc k) j h other low high =
      go (test from) refl h (λ x l. search_none (from + 1) k j x other l (omega arith))
    where
      go : (b : Bool) → test from ≡ b → if b (found from) (first test found none (numbers_from (from + 1) k)) ≡ answer
          → (first test found none (numbers_from (from + 1) k) ≡ answer → from + 1 ≤ j → test j ≡ false)
          → test j ≡ false
      go true t g later = absurd (other from t g)
      go false t g later = ⊎_elim (λ (e : from ≡ j). rw (← e) t) (λ (l : from < j). later g (omega arith)) (eq-or-lt_of_le low)

-- two searches of numbers whose tests agree on them give one answer
pub first_same : {R : Type 0} (test other : ℕ → Bool) (found : ℕ → R) (none : R) (from k : ℕ)
    → ((i : ℕ) → from ≤ i → i < from + k → test i ≡ other i)
    → first test found none (numbers_from from k) ≡ first other found none (numbers_from from k)
unfolding first numbers_from
first_same test other found none from zero agree = refl
first_same test other found none from (suc k) agree =
    rw (agree from (omega arith) (omega arith), first_same test other found none (from + 1) k (λ i low high. agree i (omega arith) (omega arith)))

-- a search is what is made of what std's `find` gives
pub first_find : {A R : Type 0} (test : A → Bool) (found : A → R) (none : R) (xs : List A)
    → first test found none xs ≡ option_map_or found (find test xs) none
unfolding first if
first_find test found none [] = refl
first_find {A = A} {R = R} test found none (x ∷ xs) = go (test x) _ _ (first_find test found none xs)
  where
    go : (b : Bool) (o : Option A) (later : R) → later ≡ option_map_or found o none
        → if b (found x) later ≡ option_map_or found (cond b (Some x) o) none
    go true o later e = refl
    go false o later e = e

-- what `find` gives is an element that its test takes
pub find_taken : {A : Type 0} (test : A → Bool) (xs : List A) (x : A) → find test xs ≡ Some x → test x ≡ true
find_taken test [] x e = absurd (none-some x e)
find_taken {A = A} test (y ∷ ys) x e = go (test y) refl (find_taken test ys x) e
  where
    go : (b : Bool) → test y ≡ b → (find test ys ≡ Some x → test x ≡ true) → cond b (Some y) (find test ys) ≡ Some x → test x ≡ true
    go true t later h = rw (same_Some y x h) at t
    go false t later h = later h

-- both, for a function that searches by `find`
pub ruleset by_find = (first_find, find_taken)
