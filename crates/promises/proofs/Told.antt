-- Verdicts whose refusals are of the table: a chain of rules, a search and a fold give one where each of their answers is one.
use Prim.Native.Nat.{ℕ, zero, suc, ◌+◌, ◌<◌, ◌≤◌}
use native.Mathlib.Omega.{arith}
use mathlib.Core.Path.{◌≡◌, refl, sym, ap, ◌∙◌}
use mathlib.Core.Logic.{inl, inr}
use mathlib.Core.List.{List, [], ◌∷◌, ◌++◌, Memᴰ}
use mathlib.Core.Bool.{Bool, true, false, not, ◌||◌, true≢false}
use borrow.Author.Tests.{ne_eqb}
use lib.Dec.{eqb}
use lib.ListN.{length}
use Rattle.words.specs.Lists.{first, in_each, numbers_from}
use Rattle.words.specs.Choice.{if}
use Rattle.words.specs.Refusals.{Verdict, refused, refused_with, rule, unless, first_refusal}
use Rattle.words.specs.declared.Refusal.{Refusal}
use Rattle.clashes.specs.Folds.{fold}
use Rattle.clashes.proofs.Logic.{left_true, right_true}
use Rattle.words.proofs.Choices.{if_cases}
use Rattle.words.proofs.Verdicts.{first_none, first-joined}
use Rattle.promises.specs.RefusalTable.{among, is_refusal_number, is_placeless, is_twofold, OfTheTable}
use Rattle.std.specs.Prelude.{Ok, Err}

-- a refusal of the table with a number that some rules have as their own
abbrev pub OfTheRules : (ℕ → Bool) → List ℕ → Refusal → Type 0
OfTheRules own capture r = OfTheTable capture r × (own r.number ≡ true)

-- a verdict that refuses nothing, or with such a refusal
abbrev pub Told : (ℕ → Bool) → List ℕ → Verdict → Type 0
Told own capture (Ok tt) = 0 < 1
Told own capture (Err r) = OfTheRules own capture r

-- ---- whose numbers they are: of the capture, of the tables before 29, 29 and 30, those of a structure, 34 of all structures, 39, and
-- those after it
abbrev pub is_of_capture : ℕ → Bool
is_of_capture = among 1 7

abbrev pub is_of_tables : ℕ → Bool
is_of_tables = among 10 28

abbrev pub is_29_or_30 : ℕ → Bool
is_29_or_30 = among 29 30

abbrev pub is_in_turn : ℕ → Bool
is_in_turn n = among 31 33 n || among 35 38 n || among 71 78 n

abbrev pub is34 : ℕ → Bool
is34 = eqb 34

abbrev pub is_of_structures : ℕ → Bool
is_of_structures n = is_in_turn n || is34 n

abbrev pub is39 : ℕ → Bool
is39 = eqb 39

abbrev pub is_from_40 : ℕ → Bool
is_from_40 = among 40 54

-- joined: all before 29, all before 31, all after 38, all after 30
abbrev pub is_before_29 : ℕ → Bool
is_before_29 n = is_of_capture n || is_of_tables n

abbrev pub is_to_30 : ℕ → Bool
is_to_30 n = is_before_29 n || is_29_or_30 n

abbrev pub is_after_38 : ℕ → Bool
is_after_38 n = is39 n || is_from_40 n

abbrev pub is_after_30 : ℕ → Bool
is_after_30 n = is_of_structures n || is_after_38 n

-- every number but one
abbrev pub is_not : ℕ → ℕ → Bool
is_not m n = not (eqb n m)

-- what some rules tell is told by more of them
pub told_wider : (own more : ℕ → Bool) → ((n : ℕ) → own n ≡ true → more n ≡ true) → (capture : List ℕ) (v : Verdict)
    → Told own capture v → Told more capture v
told_wider own more wider capture (Ok tt) told = told
told_wider own more wider capture (Err r) told = (told.0, wider r.number told.1)

pub told_left : (own more : ℕ → Bool) (capture : List ℕ) (v : Verdict) → Told own capture v → Told (λ n. own n || more n) capture v
told_left own more = told_wider own (λ n. own n || more n) (λ n h. left_true (own n) (more n) h)

pub told_right : (more own : ℕ → Bool) (capture : List ℕ) (v : Verdict) → Told own capture v → Told (λ n. more n || own n) capture v
told_right more own = told_wider own (λ n. more n || own n) (λ n h. right_true (more n) (own n) h)

pub told-not : (m : ℕ) (own : ℕ → Bool) → own m ≡ false → (capture : List ℕ) (v : Verdict) → Told own capture v → Told (is_not m) capture v
told-not m own h = told_wider own (is_not m) (λ n t. ap not (ne_eqb n m (λ e. true≢false (sym t ∙ ap own e ∙ h))))

-- and so a refusal of others does not have it
pub not-told : (m : ℕ) (own : ℕ → Bool) → own m ≡ false → (capture : List ℕ) {v : Verdict} {r : Refusal} → Told own capture v → v ≡ Err r
    → r.number ≡ m → ⊥
not-told m own h capture told e same = true≢false (sym (rw e at told).1 ∙ ap own same ∙ h)

-- ---- one refusal
abbrev pub Inside : List ℕ → ℕ → Type 0
Inside capture place = (0 < place) × (place < length capture)

-- its number is one that has a place, inside the capture, and tells no second one
abbrev pub Named : (ℕ → Bool) → ℕ → Type 0
Named own n = (is_refusal_number n ≡ true) × (is_placeless n ≡ false) × (is_twofold n ≡ false) × (own n ≡ true)

pub tell : (own : ℕ → Bool) (capture : List ℕ) (n place : ℕ) → Named own n → Inside capture place → OfTheRules own capture (refused n place)
tell own capture n place named at = (
  record { number = named.0; place = inr (named.1, at.0, at.1); second = inr (named.2, refl) },
  named.3,
)

-- or it tells a second one, before it
abbrev pub NamedBoth : (ℕ → Bool) → ℕ → Type 0
NamedBoth own n = (is_refusal_number n ≡ true) × (is_placeless n ≡ false) × (is_twofold n ≡ true) × (own n ≡ true)

pub tell_both : (own : ℕ → Bool) (capture : List ℕ) (n p q : ℕ) → NamedBoth own n → Inside capture p → 0 < q → q < p
    → OfTheRules own capture (refused_with n p q)
tell_both own capture n p q named at some before = (
  record { number = named.0; place = inr (named.1, at.0, at.1); second = inl (named.2, some, before) },
  named.3,
)

-- or it has no place
abbrev pub Placeless : ℕ → Type 0
Placeless n = (is_refusal_number n ≡ true) × (is_placeless n ≡ true) × (is_twofold n ≡ false)

pub tell_none : (capture : List ℕ) (n : ℕ) → Placeless n → OfTheTable capture (refused n 0)
tell_none capture n named = record { number = named.0; place = inl (named.1, refl); second = inr (named.2, refl) }

-- ---- rules in turn
module _ (own : ℕ → Bool) (capture : List ℕ) where
  turn_told : (v later : Verdict) → Told own capture v → (v ≡ Ok tt → Told own capture later) → Told own capture (unless Err v later)
  unfolding unless
  turn_told (Ok tt) later here after = after refl
  turn_told (Err r) later here after = here

  -- no rule, and one more
  pub none_told : Told own capture (first_refusal [])
  none_told = rw first_none (omega arith)

  pub more_told : (v : Verdict) (later : List Verdict) → Told own capture v → (v ≡ Ok tt → Told own capture (first_refusal later))
      → Told own capture (first_refusal (v ∷ later))
  unfolding first_refusal
  more_told v later = turn_told v (first_refusal later)

  pub rule_told : (broken : Bool) (n place : ℕ) (later : List Verdict) → OfTheRules own capture (refused n place)
      → (broken ≡ false → Told own capture (first_refusal later)) → Told own capture (first_refusal (rule broken n place ∷ later))
  unfolding first_refusal unless if
  rule_told true n place later here after = here
  rule_told false n place later here after = after refl

  -- one list behind another
  pub joined-told : (xs ys : List Verdict) → Told own capture (first_refusal xs) → (first_refusal xs ≡ Ok tt → Told own capture (first_refusal ys))
      → Told own capture (first_refusal (xs ++ ys))
  joined-told xs ys here after = rw (first-joined xs ys) (turn_told (first_refusal xs) (first_refusal ys) here after)

  -- those of some numbers in turn
  pub each-told : (rules : ℕ → List Verdict) (from k : ℕ) → ((i : ℕ) → from ≤ i → i < from + k → Told own capture (first_refusal (rules i)))
      → Told own capture (first_refusal (in_each rules (numbers_from from k)))
  unfolding in_each numbers_from
  each-told rules from zero each = none_told
  each-told rules from (suc k) each =
      joined-told (rules from) _ (each from (omega arith) (omega arith))
      (λ sound. each-told rules (from + 1) k (λ i l h. each i (omega arith) (omega arith)))

-- ---- a search of numbers gives an answer of one of them that the test takes, or the one for none
pub search_told : {R : Type 0} (P : R → Type 0) (test : ℕ → Bool) (found : ℕ → R) (none : R) (from k : ℕ)
    → ((i : ℕ) → from ≤ i → i < from + k → test i ≡ true → P (found i)) → P none → P (first test found none (numbers_from from k))
unfolding first numbers_from
search_told P test found none from zero each last = last
search_told P test found none from (suc k) each last =
    if_cases P (test from) _ _
    (λ t. each from (omega arith) (omega arith) t)
    (λ t. search_told P test found none (from + 1) k (λ i l h t. each i (omega arith) (omega arith) t) last)

-- ---- a fold keeps what each of its steps keeps
pub fold-told : {A B : Type 0} (P : B → Type 0) (step : B → A → B) (l : List A)
    → ((best : B) (x : A) → Memᴰ x l → P best → P (step best x)) → (best : B) → P best → P (fold step best l)
unfolding fold
fold-told P step [] each best p = p
fold-told P step (x ∷ xs) each best p =
    fold-told P step xs (λ b y m. each b y (Memᴰ.tail m)) (step best x) (each best x (Memᴰ.head refl) p)
