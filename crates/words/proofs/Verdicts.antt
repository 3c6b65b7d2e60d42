-- Laws of verdicts: a verdict is sound or a refusal; what one rule says; what stands unless a verdict refuses; and the first
-- refusal of a list.
use Rattle.std.proofs.Common.{◌≡◌, ℕ, zero, suc, ◌+◌, ◌<◌, ◌≤◌, Bool, true, false, List, [], ◌∷◌, ◌++◌, map, get_or, sym, refl, ap, ◌∙◌, ⊎_elim, true≢false, le_of_suc-le-suc, not-suc-le-zero, eq-or-lt_of_le, arith}
use Rattle.words.specs.Choice.{if}
use Rattle.words.specs.Lists.{first, in_each, numbers_from}
use Rattle.words.specs.Refusals.{Verdict, refused, rule, unless, first_refusal, is_sound}
use Rattle.words.specs.declared.Refusal.{Refusal}
use Rattle.words.proofs.Choices.{no_if, passed, if_cases}
use Rattle.std.specs.Prelude.{Ok, Err}

-- ---- a verdict is sound or a refusal, and never both
pub not_sound : {refusal : Refusal} {X : Type 0} → ◌≡◌ {A = Verdict} (Err refusal) (Ok tt) → X
not_sound e = absurd (let o : ◌≡◌ {A = ℕ} 0 1 = cc in omega arith)

pub is_sound_lem : (v : Verdict) → is_sound v ≡ true → v ≡ Ok tt
unfolding is_sound
is_sound_lem (Ok tt) h = refl
is_sound_lem (Err r) h = absurd (true≢false (sym h))

pub same_refusal : {r s : Refusal} → ◌≡◌ {A = Verdict} (Err r) (Err s) → r ≡ s
same_refusal e = cc

-- ---- one rule: sound where it is kept, and else a refusal with its own number and place
module _ (broken : Bool) (number place : ℕ) where
  pub rule_sound : broken ≡ false → rule broken number place ≡ Ok tt
  rule_sound h = no_if _ _ _ h refl

  pub rule_kept : rule broken number place ≡ Ok tt → broken ≡ false
  rule_kept h = (passed broken _ _ _ h not_sound).0

  pub rule_told : {refusal : Refusal} → rule broken number place ≡ Err refusal → refused number place ≡ refusal
  rule_told {refusal} =
      if_cases (λ v. v ≡ Err refusal → refused number place ≡ refusal) broken _ _ (λ t h. same_refusal h) (λ t h. not_sound (sym h))

-- ---- an answer, by the verdict before it
module _ {A : Type 0} (turned : Refusal → A) (verdict : Verdict) (answer : A) where
  pub unless-refused : {refusal : Refusal} → verdict ≡ Err refusal → unless turned verdict answer ≡ turned refusal
  unfolding unless
  unless-refused h = rw h

  pub unless_sound : verdict ≡ Ok tt → unless turned verdict answer ≡ answer
  unfolding unless
  unless_sound h = rw h

-- one verdict after another: first the one, then the other
pub unless_again : {A : Type 0} (turned : Refusal → A) (v w : Verdict) (x : A) → unless turned (unless Err v w) x ≡ unless turned v (unless turned w x)
unfolding unless
unless_again turned (Ok tt) w x = refl
unless_again turned (Err r) w x = refl

-- a verdict with nothing after it
pub unless_last : (v : Verdict) → unless Err v (Ok tt) ≡ v
unfolding unless
unless_last (Ok tt) = refl
unless_last (Err r) = refl

-- what stands after two verdicts stands after each
pub both_sound : (v w : Verdict) → unless Err v w ≡ Ok tt → (v ≡ Ok tt) × (w ≡ Ok tt)
unfolding unless
both_sound (Ok tt) w h = (refl, h)
both_sound (Err r) w h = not_sound h

-- an answer tells the verdict before it, if `says` reads the refusal off what comes of one, and none off the answer
pub unless-told : {A : Type 0} (turned : Refusal → A) (says : A → Verdict) → ((refusal : Refusal) → says (turned refusal) ≡ Err refusal)
    → (v : Verdict) (answer : A) → says answer ≡ Ok tt → says (unless turned v answer) ≡ v
unfolding unless
unless-told turned says back (Ok tt) answer fine = fine
unless-told turned says back (Err r) answer fine = back r

-- ---- the first refusal
pub first_none : first_refusal [] ≡ Ok tt
unfolding first_refusal
first_none = refl

pub first_alone : (verdict : Verdict) → first_refusal (verdict ∷ []) ≡ verdict
unfolding first_refusal unless
first_alone (Ok tt) = refl
first_alone (Err r) = refl

module _ (broken : Bool) (number place : ℕ) (later : List Verdict) where
  pub first_broken_lem : broken ≡ true → first_refusal (rule broken number place ∷ later) ≡ Err (refused number place)
  unfolding first_refusal unless if
  first_broken_lem h = rw h

  pub first_kept : broken ≡ false → {verdict : Verdict} → first_refusal later ≡ verdict → first_refusal (rule broken number place ∷ later) ≡ verdict
  unfolding first_refusal unless if
  first_kept h e = rw h e

  -- where nothing is refused, the first rule is kept, and so are the later ones
  pub first_sound : first_refusal (rule broken number place ∷ later) ≡ Ok tt → (broken ≡ false) × (first_refusal later ≡ Ok tt)
  unfolding first_refusal
  first_sound h =
      let both = both_sound (rule broken number place) (first_refusal later) h in
      ((passed broken _ _ _ both.0 not_sound).0, both.1)

-- where it is sound, each is
pub each_sound : (vs : List Verdict) → first_refusal vs ≡ Ok tt → (k : ℕ) → get_or vs k (Ok tt) ≡ Ok tt
unfolding first_refusal
each_sound [] h k = refl
each_sound (v ∷ vs) h zero = (both_sound v (first_refusal vs) h).0
each_sound (v ∷ vs) h (suc k) = each_sound vs (both_sound v (first_refusal vs) h).1 k

-- where it is a refusal, one is that refusal, and each before it is sound
pub record FirstTold (vs : List Verdict) (refusal : Refusal) : Type 0 where
  pub k : ℕ
  pub told : get_or vs k (Ok tt) ≡ Err refusal
  pub before : (i : ℕ) → i < k → get_or vs i (Ok tt) ≡ Ok tt

pub first-told : (vs : List Verdict) {refusal : Refusal} → first_refusal vs ≡ Err refusal → FirstTold vs refusal
unfolding first_refusal unless
first-told [] h = not_sound (sym h)
first-told (Err r ∷ vs) h = record { k = 0; told = h; before = λ i l. absurd (not-suc-le-zero l) }
first-told (Ok tt ∷ vs) {refusal} h = later (first-told vs h)
  where
    before : (k : ℕ) → ((i : ℕ) → i < k → get_or vs i (Ok tt) ≡ Ok tt) → (i : ℕ) → i < suc k → get_or (Ok tt ∷ vs) i (Ok tt) ≡ Ok tt
    before k each zero l = refl
    before k each (suc i) l = each i (le_of_suc-le-suc l)

    later : FirstTold vs refusal → FirstTold (Ok tt ∷ vs) refusal
    later w = record { k = suc w.k; told = w.told; before = before w.k w.before }

-- of one list behind another
pub first-joined : (xs ys : List Verdict) → first_refusal (xs ++ ys) ≡ unless Err (first_refusal xs) (first_refusal ys)
unfolding first_refusal unless
first-joined [] ys = refl
first-joined (v ∷ xs) ys = ap (unless Err v) (first-joined xs ys) ∙ sym (unless_again Err v (first_refusal xs) (first_refusal ys))

pub joined_kept : (xs ys : List Verdict) → first_refusal (xs ++ ys) ≡ Ok tt → (first_refusal xs ≡ Ok tt) × (first_refusal ys ≡ Ok tt)
joined_kept xs ys h = both_sound _ _ (sym (first-joined xs ys) ∙ h)

-- an answer after one list behind another
module _ {A : Type 0} (turned : Refusal → A) (xs ys : List Verdict) (answer : A) where
  pub joined-refused : {refusal : Refusal} → first_refusal xs ≡ Err refusal → unless turned (first_refusal (xs ++ ys)) answer ≡ turned refusal
  joined-refused h = unless-refused turned _ answer (first-joined xs ys ∙ unless-refused Err _ _ h)

  pub joined_sound : first_refusal xs ≡ Ok tt → unless turned (first_refusal (xs ++ ys)) answer ≡ unless turned (first_refusal ys) answer
  joined_sound h = ap (λ (v : Verdict). unless turned v answer) (first-joined xs ys ∙ unless_sound Err _ _ h)

-- and so in a chain of calls, each of which passes a refusal on
pub unless-joined : {A : Type 0} (turned : Refusal → A) (xs ys : List Verdict) (answer : A)
    → unless turned (first_refusal (xs ++ ys)) answer ≡ unless turned (first_refusal xs) (unless turned (first_refusal ys) answer)
unless-joined turned xs ys answer = ap (λ (v : Verdict). unless turned v answer) (first-joined xs ys) ∙ unless_again turned _ _ _

-- of one rule, asked of some things in turn: that of the first thing that breaks it
pub first_in_turn {ℓ} : {A : Type ℓ} (broken : A → Bool) (number : ℕ) (place : A → ℕ) (xs : List A)
    → first_refusal (map (λ x. rule (broken x) number (place x)) xs) ≡ first broken (λ x. Err (refused number (place x))) (Ok tt) xs
unfolding first_refusal first unless if
first_in_turn broken number place [] = refl
first_in_turn broken number place (x ∷ xs) = go (broken x) (first_in_turn broken number place xs)
  where
    go : (b : Bool) {later late : Verdict} → later ≡ late
        → unless Err (rule b number (place x)) later ≡ if b (Err (refused number (place x))) late
    go true e = refl
    go false e = e

-- of the rules of some things in turn, in a loop: those of `rest` give the answer
pub record Asking {A : Type 0} (rules : A → List Verdict) (answer : Verdict) (rest : List A) : Type 0 where
  pub gives : first_refusal (in_each rules rest) ≡ answer

module _ {A : Type 0} {rules : A → List Verdict} {answer : Verdict} {rest : List A} (s : Asking rules answer rest) where
  next : {x : A} {later : List A} → rest ≡ x ∷ later → unless Err (first_refusal (rules x)) (first_refusal (in_each rules later)) ≡ answer
  unfolding in_each
  next {x} {later} e = sym (first-joined (rules x) (in_each rules later)) ∙ (rw e at s.gives)

  pub ask_refused : {x : A} {later : List A} {refusal : Refusal} → rest ≡ x ∷ later → first_refusal (rules x) ≡ Err refusal → answer ≡ Err refusal
  ask_refused e h = sym (next e) ∙ unless-refused Err _ _ h

  pub ask_kept : {x : A} {later : List A} → rest ≡ x ∷ later → first_refusal (rules x) ≡ Ok tt → Asking rules answer later
  ask_kept e h = record { gives = sym (unless_sound Err _ _ h) ∙ next e }

  pub ask_over : rest ≡ [] → answer ≡ Ok tt
  unfolding in_each first_refusal
  ask_over e = sym (rw e at s.gives)

-- where the rules of some numbers in turn refuse nothing, those of each refuse nothing
pub each_kept : (rules : ℕ → List Verdict) (from k j : ℕ) → first_refusal (in_each rules (numbers_from from k)) ≡ Ok tt → from ≤ j → j < from + k
    → first_refusal (rules j) ≡ Ok tt
unfolding in_each numbers_from
each_kept rules from zero j h low high = absurd (omega arith)
each_kept rules from (suc k) j h low high =
    let both = joined_kept (rules from) (in_each rules (numbers_from (from + 1) k)) h in
    ⊎_elim (λ (e : from ≡ j). rw (← e) both.0) (λ (l : from < j). each_kept rules (from + 1) k j both.1 (omega arith) (omega arith))
    (eq-or-lt_of_le low)
