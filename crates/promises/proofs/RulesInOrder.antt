-- "A capture that breaks no earlier rule": none of the rules that stand before 51 in the one list refuses, exactly where each of
-- them is kept.
use Rattle.std.proofs.Common.{Option, Some, None}
use Prim.Native.Nat.{ℕ}
use mathlib.Core.Path.{◌≡◌, refl, sym, ◌∙◌, ap}
use mathlib.Core.List.{List, ◌∷◌}
use borrow.Author.Tests.{eqb-false}
use lib.Dec.{eqb}
use Rattle.words.specs.Refusals.{Verdict, first_refusal}
use Rattle.words.proofs.Verdicts.{not_sound, rule_kept, unless_sound, first_alone, first-joined, joined_kept, each_sound}
use Rattle.tables.specs.Survey.{tables_of, survey_rules, survey}
use Rattle.tables.specs.declared.Tables.{Tables}
use Rattle.tables.proofs.Inside.{survey-told, survey-is}
use Rattle.tables.specs.declared.Strictness.{Strictness}
use Rattle.lines.specs.Says.{says}
use Rattle.lines.specs.Rules.{rules_to_45}
use Rattle.madt.specs.Walk.{walk_rules}
use Rattle.madt.proofs.Accepted.{walk_verdict}
use Rattle.processors.specs.Listing.{count}
use Rattle.processors.specs.Repeats.{first_repeat}
use Rattle.reading.specs.Scan.{madt_bytes, walk_of, repeat_rule, processor_rule, madt_rules, rules_before_51}
use Rattle.reading.proofs.Laws.{repeat_none}
use Rattle.promises.specs.Captures.{NothingBefore51, NotRefusedBefore51, RulesInOrder}
use Rattle.promises.proofs.RefusedExactlyForSharing.{enabled}
use Rattle.std.specs.Prelude.{Ok, Err}

-- 39
pub no_repeat : (base : ℕ) (r : Option ℕ) → repeat_rule base r ≡ Ok tt → r ≡ None
unfolding repeat_rule
no_repeat base None h = refl
no_repeat base (Some offset) h = not_sound h

-- 40, of the processors
some_core : (base n : ℕ) → processor_rule base n ≡ Ok tt → n ≡ 0 → ⊥
unfolding processor_rule
some_core base n h = eqb-false n 0 (rule_kept (eqb n 0) 40 base h)

module _ (strictness : Strictness) (capture : List ℕ) (t : Tables) where
  abbrev after_walk : List Verdict
  after_walk =
      let table = madt_bytes capture t.madt in
      let found = (walk_of capture t).found in
      repeat_rule t.madt.place (first_repeat table)
      ∷ processor_rule t.madt.place (count table)
      ∷ rules_to_45 (says found.map) found.places t.madt.place

  of_madt : survey strictness capture ≡ Ok t → first_refusal (madt_rules capture t) ≡ Ok tt → NothingBefore51 strictness capture t
  unfolding madt_rules rules_to_45
  of_madt tables h =
      let kept = joined_kept (walk_rules (madt_bytes capture t.madt) t.madt.place) after_walk h in
      let each = each_sound after_walk kept.1 in
      record {
        to44 = record {
          to43 = record {
            to42 = record {
              to40 = record {
                tables = tables;
                structures = walk_verdict _ _ _ _ ∙ kept.0;
                r39 = no_repeat _ _ (each 0);
                r40core = some_core _ _ (each 1);
                r40 = each 2;
              };
              r41 = each 3;
              r42 = each 4;
            };
            r43 = each 5;
          };
          r44 = each 6;
        };
        r45 = each 7;
      }

  to_madt : NothingBefore51 strictness capture t → first_refusal (madt_rules capture t) ≡ Ok tt
  unfolding madt_rules rules_to_45 first_refusal
  to_madt h =
      let to42 = h.to44.to43.to42 in
      first-joined (walk_rules (madt_bytes capture t.madt) t.madt.place) after_walk
      ∙ unless_sound _ _ _ (sym (walk_verdict _ _ _ _) ∙ to42.to40.structures)
      ∙ unless_sound _ _ _ (repeat_none t.madt.place _ to42.to40.r39)
      ∙ unless_sound _ _ _ (enabled t.madt.place _ to42.to40.r40core)
      ∙ unless_sound _ _ _ to42.to40.r40
      ∙ unless_sound _ _ _ to42.r41
      ∙ unless_sound _ _ _ to42.r42
      ∙ unless_sound _ _ _ h.to44.to43.r43
      ∙ unless_sound _ _ _ h.to44.r44
      ∙ first_alone _
      ∙ h.r45

breaks_none : (strictness : Strictness) (capture : List ℕ) → NotRefusedBefore51 strictness capture → (t : Tables) × NothingBefore51 strictness capture t
unfolding rules_before_51 survey
breaks_none strictness capture h =
    let t = tables_of capture in
    let kept = joined_kept (survey_rules strictness capture) (madt_rules capture t) h in
    (t, of_madt strictness capture t (unless_sound Err _ _ kept.0) kept.1)

not_before : (strictness : Strictness) (capture : List ℕ) (t : Tables) → NothingBefore51 strictness capture t → NotRefusedBefore51 strictness capture
unfolding rules_before_51
not_before strictness capture t h =
    first-joined (survey_rules strictness capture) _
    ∙ unless_sound _ _ _ (survey-told strictness capture h.to44.to43.to42.to40.tables)
    ∙ ap (λ (t : Tables). first_refusal (madt_rules capture t)) (survey-is strictness capture h.to44.to43.to42.to40.tables)
    ∙ to_madt strictness capture t h

-- THE PROMISE
pub rules_in_order : (strictness : Strictness) (capture : List ℕ) → RulesInOrder strictness capture
rules_in_order strictness capture = (breaks_none strictness capture, not_before strictness capture)
