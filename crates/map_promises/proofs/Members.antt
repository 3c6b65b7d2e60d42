-- Elements of lists: tests of all of them, searches among them, and claims of one kind with their places.
use Prim.Native.Nat.{ℕ, zero, suc, ◌<◌, ◌≤◌}
use native.Mathlib.Nat.{le_of_suc-le-suc, not-suc-le-zero}
use native.Mathlib.Omega.{arith}
use mathlib.Core.Path.{◌≡◌, refl, sym, ◌∙◌}
use mathlib.Core.Logic.{◌⊎◌, inl, inr, ⊎_elim}
use mathlib.Core.List.Memᴰ
use mathlib.Core.List.{List, [], ◌∷◌, Memᴰ}
use mathlib.Core.Bool.{Bool, true, false, not, ◌&&◌, true≢false}
use borrow.Author.Tests.{not-true}
use lib.ListN.{length, take, get_or}
use Rattle.words.specs.Choice.{if}
use Rattle.words.specs.Lists.{first, every}
use Rattle.clashes.specs.declared.Claim.{Claim}
use Rattle.clashes.proofs.Logic.{and_left, and_right}
use Rattle.lines.specs.Claims.{placed}

module _ {A : Type 0} (claim : A → ℕ → Claim) (d : A) where
  pub placed_at : (xs : List A) (ps : List ℕ) → length xs ≤ length ps → (i : ℕ) → i < length xs
      → Memᴰ (claim (get_or xs i d) (get_or ps i 0)) (placed claim xs ps)
  unfolding placed
  placed_at [] ps h i k = absurd (not-suc-le-zero k)
  placed_at (x ∷ xs) [] h i k = absurd (not-suc-le-zero h)
  placed_at (x ∷ xs) (p ∷ ps) h zero k = Memᴰ.head refl
  placed_at (x ∷ xs) (p ∷ ps) h (suc i) k = Memᴰ.tail (placed_at xs ps (le_of_suc-le-suc h) i (le_of_suc-le-suc k))

  pub placed_of : (xs : List A) (ps : List ℕ) (c : Claim) → Memᴰ c (placed claim xs ps)
      → (i : ℕ) × (i < length xs) × (c ≡ claim (get_or xs i d) (get_or ps i 0))
  unfolding placed
  placed_of [] ps c m = absurd (Memᴰ.not-nil m)
  placed_of (x ∷ xs) [] c m = absurd (Memᴰ.not-nil m)
  placed_of (x ∷ xs) (p ∷ ps) c m =
      ⊎_elim (λ e. (0, omega arith, e)) (λ n. let r = placed_of xs ps c n in (suc r.0, omega arith, r.2)) (Memᴰ.cases_cons m)

module _ {A : Type 0} (d : A) where
  -- a test of every element, at a place
  pub every-at : (f : A → Bool) (l : List A) → every f l ≡ true → (i : ℕ) → i < length l → f (get_or l i d) ≡ true
  every-at f [] h i k = absurd (not-suc-le-zero k)
  every-at f (x ∷ xs) h zero k = and_left (f x) (every f xs) h
  every-at f (x ∷ xs) h (suc i) k = every-at f xs (and_right (f x) (every f xs) h) i (le_of_suc-le-suc k)

  pub at_every : (f : A → Bool) (l : List A) → ((i : ℕ) → i < length l → f (get_or l i d) ≡ true) → every f l ≡ true
  at_every f [] h = refl
  at_every f (x ∷ xs) h = rw (h 0 (omega arith)) (at_every f xs (λ i k. h (suc i) (omega arith)))

  -- a test that not every element passes fails at a place
  pub not-every : (f : A → Bool) (l : List A) → every f l ≡ false → (i : ℕ) × (i < length l) × (f (get_or l i d) ≡ false)
  not-every f [] h = absurd (true≢false h)
  not-every f (x ∷ xs) h = go (f x) refl h (λ k. not-every f xs k)
    where
      go : (b : Bool) → f x ≡ b → (b && every f xs) ≡ false → (every f xs ≡ false → (i : ℕ) × (i < length xs) × (f (get_or xs i d) ≡ false))
          → (i : ℕ) × (i < length (x ∷ xs)) × (f (get_or (x ∷ xs) i d) ≡ false)
      go false e k later = (0, omega arith, e)
      go true e k later = let w = later k in (suc w.0, omega arith, w.2)

  -- a search stops at a place that the test takes, or no place is taken
  abbrev pub Stops : {R : Type 0} → (A → Bool) → (A → R) → R → List A → Type 0
  Stops test found none l = (i : ℕ) × (i < length l) × (test (get_or l i d) ≡ true) × (first test found none l ≡ found (get_or l i d))

  abbrev pub Passes : {R : Type 0} → (A → Bool) → (A → R) → R → List A → Type 0
  Passes test found none l = ((i : ℕ) → i < length l → test (get_or l i d) ≡ false) × (first test found none l ≡ none)

  pub found_or_not : {R : Type 0} (test : A → Bool) (found : A → R) (none : R) (l : List A) → Stops test found none l ⊎ Passes test found none l
  unfolding first if
  found_or_not test found none [] = inr ((λ i k. absurd (not-suc-le-zero k)), refl)
  found_or_not {R} test found none (x ∷ xs) = go (test x) refl (found_or_not test found none xs)
    where
      passed : test x ≡ false → ((i : ℕ) → i < length xs → test (get_or xs i d) ≡ false)
          → (i : ℕ) → i < length (x ∷ xs) → test (get_or (x ∷ xs) i d) ≡ false
      passed e g zero k = e
      passed e g (suc i) k = g i (le_of_suc-le-suc k)

      go : (t : Bool) → test x ≡ t → Stops test found none xs ⊎ Passes test found none xs
          → Stops test found none (x ∷ xs) ⊎ Passes test found none (x ∷ xs)
      go true e r = inl (0, omega arith, e, rw e)
      go false e (inl r) = inl (suc r.0, omega arith, r.2, rw e r.3)
      go false e (inr r) = inr (passed e r.0, rw e r.1)

  -- a search answers by a place that the test takes, where every other such place gives the same
  pub finds : {R : Type 0} (test : A → Bool) (found : A → R) (none : R) (l : List A) (i : ℕ) → i < length l → test (get_or l i d) ≡ true
      → ((j : ℕ) → j < length l → test (get_or l j d) ≡ true → found (get_or l j d) ≡ found (get_or l i d)) → first test found none l ≡ found (get_or l i d)
  finds test found none l i k t same =
      ⊎_elim (λ w. w.3 ∙ same w.0 w.1 w.2) (λ w. absurd (true≢false (sym t ∙ w.0 i k))) (found_or_not test found none l)

  -- the first place that a test takes: it takes none before it
  abbrev pub IsFirst : (A → Bool) → List A → ℕ → Type 0
  IsFirst test l j = (j < length l) × (test (get_or l j d) ≡ true) × (every (λ x. not (test x)) (take j l) ≡ true)

  -- a search answers by it
  pub finds_first : {R : Type 0} (test : A → Bool) (found : A → R) (none : R) (l : List A) (j : ℕ) → IsFirst test l j
      → first test found none l ≡ found (get_or l j d)
  unfolding first if
  finds_first test found none [] j h = absurd (not-suc-le-zero h.0)
  finds_first test found none (x ∷ xs) zero h = rw h.1
  finds_first test found none (x ∷ xs) (suc j) h =
      let before = every (λ y. not (test y)) (take j xs) in
      rw (not-true (test x) (and_left (not (test x)) before h.2))
      (finds_first test found none xs j (le_of_suc-le-suc h.0, h.1, and_right (not (test x)) before h.2))

  -- and there is one, or the test takes none
  pub first_or_none : (test : A → Bool) (l : List A) → ((j : ℕ) × IsFirst test l j) ⊎ (every (λ x. not (test x)) l ≡ true)
  first_or_none test [] = inr refl
  first_or_none test (x ∷ xs) = go (test x) refl (first_or_none test xs)
    where
      go : (t : Bool) → test x ≡ t → ((j : ℕ) × IsFirst test xs j) ⊎ (every (λ y. not (test y)) xs ≡ true)
          → ((j : ℕ) × IsFirst test (x ∷ xs) j) ⊎ (every (λ y. not (test y)) (x ∷ xs) ≡ true)
      go true e r = inl (0, (omega arith, e, refl))
      go false e (inl w) = inl (suc w.0, (omega (arith, w.1.0), w.1.1, rw e w.1.2))
      go false e (inr none) = inr (rw e none)

  -- a search that takes no place
  pub finds_none : {R : Type 0} (test : A → Bool) (found : A → R) (none : R) (l : List A)
      → ((j : ℕ) → j < length l → test (get_or l j d) ≡ true → ⊥) → first test found none l ≡ none
  finds_none test found none l never = ⊎_elim (λ w. absurd (never w.0 w.1 w.2)) (λ w. w.1) (found_or_not test found none l)
