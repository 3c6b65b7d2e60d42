-- The two readings beside each other: they differ by 29 alone, and 29 is told exactly where it is due.
use Prim.Native.Nat.{ℕ, zero, suc, ◌≤◌}
use native.Mathlib.Omega.{arith}
use mathlib.Core.Path.{◌≡◌, refl, sym, ap, ◌∙◌}
use mathlib.Core.Logic.{inl, inr, ⊎_elim}
use mathlib.Core.List.{List}
use mathlib.Core.Bool.{Bool, true, false, not, true≢false}
use borrow.Author.Tests.{leb-true, leb-false, lt-leb, eqb-true, eqb-false, ne_eqb, not-true, not-false}
use lib.Dec.{eqb, leb}
use Rattle.words.specs.Refusals.{Verdict, refused, refused_with, first_refusal}
use Rattle.words.specs.declared.Refusal.{Refusal}
use Rattle.words.proofs.Verdicts.{not_sound, same_refusal, unless-refused, unless_sound, first_none, first_broken_lem, first_kept, joined-refused, joined_sound}
use Rattle.tables.specs.Survey.{wrong_madt_revision, wrong_flags, madt_field_rules, with_sci, tables_from, tables_of, rules_before_29, survey_rules, survey}
use Rattle.tables.specs.declared.Strictness.{Strictness}
use Rattle.tables.specs.declared.Strictness.TheVariants.{Ordinary, Strict}
use Rattle.tables.proofs.Inside.{kept_inside}
use Rattle.map_promises.specs.Clashing.{OnePlace, Exactly}
use Rattle.reading.specs.Scan.{turned_down, rules_before_51, all_rules, scan}
use Rattle.reading.specs.Reading.{madt_found, reading_of, list_after}
use Rattle.reading.specs.declared.Scan.{Scan}
use Rattle.reading.proofs.Laws.{scan-refused}
use Rattle.reading.proofs.Scanned.{found_verdict}
use Rattle.promises.specs.Readings.{madt_place, madt_revision, KeepsTo28, EqualAnswers, EqualOnRevision1, StrictIsOrdinary, DifferBy29, AlikeTo28, Takes, Breaks29, TwentyNineExactly}
use Rattle.promises.proofs.Told.{Told, is_before_29, is_after_30, told_wider, tell}
use Rattle.promises.proofs.TableRefusals.{stands, before_29_told}
use Rattle.promises.proofs.EveryRefusal.{rules_from_31, after_30_told}
use Rattle.promises.proofs.RefusedExactlyForSharing.{of_scan}
use Rattle.std.specs.Prelude.{Ok, Err}

-- ---- rule 29 in numbers
not_taken : (strictness : Strictness) (n : ℕ) → wrong_madt_revision strictness n ≡ true → Takes strictness n → ⊥
unfolding wrong_madt_revision
not_taken Ordinary n h takes = let none = eqb-true n 0 h in omega arith
not_taken Strict n h takes = eqb-false n 1 (not-true (eqb n 1) h) takes

taken : (strictness : Strictness) (n : ℕ) → wrong_madt_revision strictness n ≡ false → Takes strictness n
unfolding wrong_madt_revision
taken Ordinary zero h = absurd (true≢false h)
taken Ordinary (suc n) h = omega arith
taken Strict n h = eqb-true n 1 (not-false (eqb n 1) h)

-- the readings agree on 0 and on 1, and the strict one takes nothing newer
alike_0 : wrong_madt_revision Ordinary 0 ≡ wrong_madt_revision Strict 0
unfolding wrong_madt_revision
alike_0 = refl

alike_1 : wrong_madt_revision Ordinary 1 ≡ wrong_madt_revision Strict 1
unfolding wrong_madt_revision
alike_1 = refl

newer_wrong : (n : ℕ) → wrong_madt_revision Strict (suc (suc n)) ≡ true
unfolding wrong_madt_revision
newer_wrong n = ap not (ne_eqb (suc (suc n)) 1 (λ e. omega arith))

-- ---- what a reading tells, by rule 29
-- the numbers from 30 on
abbrev is_from_30 : ℕ → Bool
is_from_30 = leb 30

from_30 : (n : ℕ) → is_after_30 n ≡ true → is_from_30 n ≡ true
from_30 n h = go (leb 30 n) refl
  where
    go : (b : Bool) → leb 30 n ≡ b → leb 30 n ≡ true
    go true e = e
    go false e =
        let below = leb-false 30 n e in
        absurd (true≢false (sym h ∙ (rw (lt-leb 31 n (omega arith), lt-leb 35 n (omega arith), lt-leb 71 n (omega arith), ne_eqb 34 n (λ e. omega arith), ne_eqb 39 n (λ e. omega arith), lt-leb 40 n (omega arith)) refl)))

module _ (strictness : Strictness) (capture : List ℕ) where
  abbrev is_wrong : Bool
  is_wrong = wrong_madt_revision strictness (madt_revision capture)

  -- 1 to 28 come first
  pub refused_before : {r : Refusal} → first_refusal (rules_before_29 capture) ≡ Err r → scan strictness capture ≡ turned_down r
  unfolding survey survey_rules
  refused_before h = scan-refused strictness capture (joined-refused Err (rules_before_29 capture) _ _ h)

  module _ (kept : KeepsTo28 capture) where
    -- then 29
    refused_29 : is_wrong ≡ true → scan strictness capture ≡ turned_down (refused 29 (madt_place capture))
    unfolding survey survey_rules madt_field_rules tables_of tables_from with_sci
    refused_29 h =
        scan-refused strictness capture
        (joined_sound Err (rules_before_29 capture) _ _ kept ∙ unless-refused _ _ _ (first_broken_lem _ 29 _ _ h))

    -- then 30,
    refused_30 : is_wrong ≡ false → wrong_flags capture (tables_of capture).madt ≡ true → scan strictness capture ≡ turned_down (refused 30 (madt_place capture))
    unfolding survey survey_rules madt_field_rules tables_of tables_from with_sci
    refused_30 h flags =
        scan-refused strictness capture
        (joined_sound Err (rules_before_29 capture) _ _ kept
        ∙ unless-refused _ _ _ (first_kept _ 29 _ _ h (first_broken_lem _ 30 _ _ flags)))

    -- and what comes after it
    found_after : is_wrong ≡ false → wrong_flags capture (tables_of capture).madt ≡ false → survey strictness capture ≡ Ok (tables_of capture)
    unfolding survey survey_rules madt_field_rules tables_of tables_from with_sci
    found_after h flags =
        joined_sound Err (rules_before_29 capture) _ _ kept
        ∙ unless_sound _ _ _ (first_kept _ 29 _ _ h (first_kept _ 30 _ _ flags first_none))

    told_after : is_wrong ≡ false → Told is_from_30 capture (scan strictness capture).verdict
    unfolding turned_down
    told_after h = go (wrong_flags capture (tables_of capture).madt) refl
      where
        go : (b : Bool) → wrong_flags capture (tables_of capture).madt ≡ b → Told is_from_30 capture (scan strictness capture).verdict
        go true flags =
            rw (refused_30 h flags) (tell is_from_30 capture 30 (madt_place capture) (refl, refl, refl, refl) (stands (kept_inside capture kept).madt (omega arith)))
        go false flags =
            let i = kept_inside capture kept in
            rw (found_verdict strictness capture (found_after h flags))
            (told_wider is_after_30 is_from_30 from_30 capture (first_refusal (rules_from_31 capture (tables_of capture))) (after_30_told capture (tables_of capture) i (stands i.madt (omega arith), stands i.fadt (omega arith))))

    from_29 : {r : Refusal} → (scan strictness capture).verdict ≡ Err r → 29 ≤ r.number
    unfolding turned_down
    from_29 {r} told = go is_wrong refl
      where
        go : (b : Bool) → is_wrong ≡ b → 29 ≤ r.number
        go true h =
            let same : 29 ≡ r.number = ap (λ (x : Refusal). x.number) (same_refusal (ap (λ (s : Scan). s.verdict) (sym (refused_29 h)) ∙ told)) in
            omega arith
        go false h =
            let more = leb-true 30 r.number (rw told at (told_after h)).1 in
            omega arith

-- ---- equal answers
equal_answers : (capture : List ℕ) → scan Ordinary capture ≡ scan Strict capture → EqualAnswers capture
unfolding reading_of list_after madt_found
equal_answers capture e = record { found = e; reading = λ list. rw e refl; list = λ list. rw e refl }

same_scan : (capture : List ℕ) → wrong_madt_revision Ordinary (madt_revision capture) ≡ wrong_madt_revision Strict (madt_revision capture)
    → scan Ordinary capture ≡ scan Strict capture
unfolding scan all_rules rules_before_51 survey_rules madt_field_rules tables_of tables_from with_sci
same_scan capture h = rw h refl

-- THE PROMISES
pub equal_on_revision_1 : (capture : List ℕ) → EqualOnRevision1 capture
equal_on_revision_1 capture e = equal_answers capture (same_scan capture (rw e alike_1))

pub differ_by_29 : (capture : List ℕ) → DifferBy29 capture
unfolding turned_down
differ_by_29 capture = by_revision (madt_revision capture) refl
  where
    by_verdict : (n : ℕ) → madt_revision capture ≡ suc (suc n) → (v : Verdict) → first_refusal (rules_before_29 capture) ≡ v → DifferBy29 capture
    by_verdict n e (Err r) h = inl (equal_answers capture (refused_before Ordinary capture h ∙ sym (refused_before Strict capture h)))
    by_verdict n e (Ok tt) kept =
        inr
        (record {
          before = kept;
          newer = omega arith;
          strict = ap (λ (s : Scan). s.verdict) (refused_29 Strict capture kept (ap (wrong_madt_revision Strict) e ∙ newer_wrong n));
        })

    by_revision : (n : ℕ) → madt_revision capture ≡ n → DifferBy29 capture
    by_revision zero e = inl (equal_answers capture (same_scan capture (rw e alike_0)))
    by_revision (suc zero) e = inl (equal_on_revision_1 capture e)
    by_revision (suc (suc n)) e = by_verdict n e (first_refusal (rules_before_29 capture)) refl

pub strict_is_ordinary : (capture : List ℕ) → StrictIsOrdinary capture
strict_is_ordinary capture sound = ⊎_elim (λ same. same) (λ d. not_sound (sym d.strict ∙ sound)) (differ_by_29 capture)

pub alike_to_28 : (capture : List ℕ) → AlikeTo28 capture
alike_to_28 capture r few =
    ⊎_elim
    (λ same.
    let verdicts = ap (λ (s : Scan). s.verdict) same.found in
    ((λ told. sym verdicts ∙ told), λ told. verdicts ∙ told))
    (λ d. (
      (λ told. absurd (let more = from_29 Ordinary capture d.before told in omega arith)),
      λ told. absurd (let more = from_29 Strict capture d.before told in omega arith),
    ))
    (differ_by_29 capture)

pub twenty_nine_exactly : (strictness : Strictness) (capture : List ℕ) → TwentyNineExactly strictness capture
unfolding turned_down
twenty_nine_exactly strictness capture = record { scanned = scanned; read = λ list. of_scan strictness capture list 29 (omega arith) scanned }
  where
    Told29 : ℕ → ℕ → Type 0
    Told29 p q = (scan strictness capture).verdict ≡ Err (refused_with 29 p q)

    by_rule : (p q : ℕ) → Told29 p q → KeepsTo28 capture → (b : Bool) → wrong_madt_revision strictness (madt_revision capture) ≡ b
        → Breaks29 strictness capture × OnePlace (λ p. p ≡ madt_place capture) p q
    by_rule p q told kept true h =
        let same : refused 29 (madt_place capture) ≡ refused_with 29 p q = same_refusal (ap (λ (s : Scan). s.verdict) (sym (refused_29 strictness capture kept h)) ∙ told) in
        ((kept, not_taken strictness _ h), (ap (λ (r : Refusal). r.place) (sym same), ap (λ (r : Refusal). r.second) (sym same)))
    by_rule p q told kept false h = absurd (true≢false (sym (rw told at (told_after strictness capture kept h)).1))

    by_verdict : (p q : ℕ) → Told29 p q → (v : Verdict) → first_refusal (rules_before_29 capture) ≡ v
        → Breaks29 strictness capture × OnePlace (λ p. p ≡ madt_place capture) p q
    by_verdict p q told (Ok tt) kept = by_rule p q told kept (wrong_madt_revision strictness (madt_revision capture)) refl
    by_verdict p q told (Err r) h =
        let same : r ≡ refused_with 29 p q = same_refusal (ap (λ (s : Scan). s.verdict) (sym (refused_before strictness capture h)) ∙ told) in
        absurd (true≢false (sym (rw h at (before_29_told capture)).1 ∙ ap (λ (x : Refusal). is_before_29 x.number) same))

    by_takes : KeepsTo28 capture → (Takes strictness (madt_revision capture) → ⊥) → (b : Bool) → wrong_madt_revision strictness (madt_revision capture) ≡ b
        → Told29 (madt_place capture) 0
    by_takes kept never true h = ap (λ (s : Scan). s.verdict) (refused_29 strictness capture kept h)
    by_takes kept never false h = absurd (never (taken strictness _ h))

    scanned : Exactly Told29 (Breaks29 strictness capture) (OnePlace (λ p. p ≡ madt_place capture))
    scanned = (
      (λ p q told. by_verdict p q told (first_refusal (rules_before_29 capture)) refl),
      λ broken. (madt_place capture, 0, by_takes broken.0 broken.1 (wrong_madt_revision strictness (madt_revision capture)) refl),
    )
