-- The owner table beside the map: 61 and 63 exactly when they are due, both ways of asking agree, and maps that say the same fill the same table.
use Prim.Native.Nat.{ℕ, ◌<◌}
use native.Mathlib.Omega.{arith}
use mathlib.Core.Bool.{Bool, true, false, not, true≢false}
use mathlib.Core.Logic.{◌⊎◌, inl, inr, ⊎_elim}
use mathlib.Core.Path.{◌≡◌, refl, sym, ap, subst, ◌∙◌}
use borrow.Author.Tests.{ltb-true, not-true, not-false}
use lib.Dec.{ltb}
use Rattle.std.specs.Prelude.{Result, Ok, Err}
use Rattle.words.specs.Refusals.{Verdict, refused, rule, unless, first_refusal}
use Rattle.words.specs.declared.Refusal.{Refusal}
use Rattle.words.proofs.Choices.{if_cases}
use Rattle.words.proofs.Tests.{fails}
use Rattle.words.proofs.TwoRules.{one_of_two}
use Rattle.words.proofs.Verdicts.{rule_told, unless-refused, unless-told}
use Rattle.lines.specs.Says.{says}
use Rattle.lines.specs.Routes.{owner}
use Rattle.lines.specs.Rules.{keeps_rules}
use Rattle.lines.specs.declared.Map.{Map}
use Rattle.lines.specs.declared.Owner.{Owner}
use Rattle.lines.specs.declared.Route.{Route}
use Rattle.owners.specs.Table.{table_of, empty_table, owner_in, same_table}
use Rattle.owners.specs.Lookups.{filling_of, lookup_rules, owner_by, lookup_of}
use Rattle.owners.specs.declared.OwnerTable.{OwnerTable}
use Rattle.owners.specs.declared.Filling.{Filling}
use Rattle.owners.proofs.Entries.{its_own, own_size, same_each, each_same, same_table_lem}
use Rattle.owners.proofs.Calls.{filled, refused_61, refused_63, told_so}
use Rattle.map_promises.proofs.Logic.{answered_not, same_refused}
use Rattle.map_promises.proofs.Routing.{routed}
use Rattle.map_promises.proofs.SameAnswers.{same_answers}
use Rattle.map_promises.proofs.TwoRules.{rephrased, one_exactly, first-exactly, second_exactly}
use Rattle.map_promises.specs.Owners.{FillExactly, BrokenMapExactly, SixtyThreeExactly, OneEntryIsEnough, FilledIsTaken, ByTheMap, BothWaysAgree, TakenIsTrue, SameTables}

-- ---- the map's own table
own_table : (map : Map) → same_table (table_of map) (table_of map) ≡ true
own_table map = each_same (table_of map) (table_of map) (λ k l. refl)

-- in a table with the same content each number has the owner that it has by the map
as_by_map : (map : Map) (table : OwnerTable) → same_table table (table_of map) ≡ true → (k : ℕ) → k < 320 → owner_in table k ≡ owner (says map) k
as_by_map map table own k l = same_each table (table_of map) own k l ∙ its_own map k l

-- ---- a lookup tells what the two rules say
abbrev says_of : Result (Owner × Route) Refusal → Verdict
says_of (Ok told) = Ok tt
says_of (Err refusal) = Err refusal

module _ (map : Map) (table : OwnerTable) (number : ℕ) where
  rules_tell : says_of (lookup_of map table number) ≡ first_refusal (lookup_rules map table)
  unfolding lookup_of
  rules_tell = unless-told Err says_of (λ r. refl) (first_refusal (lookup_rules map table)) _ refl

  told_by_rules : {r : Refusal} → lookup_of map table number ≡ Err r → first_refusal (lookup_rules map table) ≡ Err r
  told_by_rules h = sym rules_tell ∙ ap says_of h

  rules-told : {r : Refusal} → first_refusal (lookup_rules map table) ≡ Err r → lookup_of map table number ≡ Err r
  unfolding lookup_of unless
  rules-told h = rw h

  -- there are no others, and each is due
  pub two_refusals : (r : Refusal) → lookup_of map table number ≡ Err r → ((keeps_rules map ≡ false) × (r ≡ refused 61 0)) ⊎ ((same_table table (table_of map) ≡ false) × (r ≡ refused 63 0))
  unfolding lookup_rules
  two_refusals r h =
      ⊎_elim
      (λ x. inl (not-true _ x.0, sym x.1))
      (λ x. inr (not-true _ x.1, sym x.2))
      (one_of_two (not (keeps_rules map)) (not (same_table table (table_of map))) 61 63 r (told_by_rules h))

  -- THE PROMISES
  pub broken_map_exactly : BrokenMapExactly map table number
  unfolding lookup_rules
  broken_map_exactly =
      rephrased (λ p q. told_by_rules) (λ p q. rules-told) (not-true _) (ap not) (first-exactly (not (keeps_rules map)) (not (same_table table (table_of map))) 61 63 (λ e. omega arith))

  -- a table that is not filled so is not the map's, and the other way round
  not_its_own : same_table table (table_of map) ≡ false → table ≡ table_of map → ⊥
  not_its_own h e = true≢false (sym (own_table map) ∙ sym (ap (λ t. same_table t (table_of map)) e) ∙ h)

  pub sixty_three_exactly : SixtyThreeExactly map table number
  unfolding lookup_rules
  sixty_three_exactly size =
      rephrased (λ p q. told_by_rules) (λ p q. rules-told)
      (λ x. (not-false _ x.0, not_its_own (not-true _ x.1)))
      (λ x. (ap not x.0, ap not (fails (same_table table (table_of map)) (λ own. x.1 (same_table_lem table (table_of map) size (own_size map) own)))))
      (second_exactly (not (keeps_rules map)) (not (same_table table (table_of map))) 61 63 (λ e. omega arith))

-- ---- filling
module _ (map : Map) where
  its_verdict : (filling_of map).verdict ≡ rule (not (keeps_rules map)) 61 0
  unfolding filling_of
  its_verdict = refl

  fills : keeps_rules map ≡ true → ((filling_of map).verdict ≡ Ok tt) × ((filling_of map).table ≡ table_of map)
  fills kept =
      let e = sym (filled map kept refl) in
      (ap (λ (f : Filling). f.verdict) e, ap (λ (f : Filling). f.table) e)

  -- beside a refusal nobody owns a number
  pub refused-filling : (r : Refusal) → (filling_of map).verdict ≡ Err r → (r ≡ refused 61 0) × ((filling_of map).table ≡ empty_table)
  unfolding filling_of
  refused-filling r h = (sym (rule_told (not (keeps_rules map)) 61 0 h), unless-refused (λ refusal. empty_table) _ _ h)

  pub fill_exactly : FillExactly map
  fill_exactly =
      (rephrased (λ p q h. sym its_verdict ∙ h) (λ p q h. its_verdict ∙ h) (not-true _) (ap not) (one_exactly (not (keeps_rules map)) 61), fills)

  -- ---- both ways
  -- what is taken is told by the map: below 320 the table has the same owner
  whose : (table : OwnerTable) → same_table table (table_of map) ≡ true → (number : ℕ) → owner_by map table number ≡ owner (says map) number
  unfolding owner_by
  whose table own number =
      if_cases (λ (o : Owner). o ≡ owner (says map) number) (ltb number 320) _ _
      (λ less. as_by_map map table own number (ltb-true _ _ less)) (λ more. refl)

  told_by_map : keeps_rules map ≡ true → (table : OwnerTable) → same_table table (table_of map) ≡ true → (number : ℕ)
      → ByTheMap map table number
  told_by_map kept table own number =
      (_, routed map kept number, sym (told_so map table number kept own (sym (whose table own number)) refl))

  -- THE PROMISES
  pub one_entry_is_enough : OneEntryIsEnough map
  one_entry_is_enough kept table k l differs number =
      sym (refused_63 map table number kept (fails (same_table table (table_of map)) (λ own. differs (as_by_map map table own k l))) refl)

  pub both_ways_agree : BothWaysAgree map
  both_ways_agree kept number =
      subst (λ t. ByTheMap map t number) (sym (fills kept).1) (told_by_map kept (table_of map) (own_table map) number)

  pub filled-is-taken : FilledIsTaken map
  filled-is-taken number r h = go (keeps_rules map) refl
    where
      go : (b : Bool) → keeps_rules map ≡ b → (keeps_rules map ≡ false) × (r ≡ refused 61 0)
      go false broken = (broken, sym (same_refused (refused_61 map _ number broken refl ∙ h)))
      go true kept = absurd (answered_not (sym (both_ways_agree kept number).2 ∙ h))

  pub taken-is-true : (table : OwnerTable) (number : ℕ) → TakenIsTrue map table number
  taken-is-true table number never = go (keeps_rules map) (same_table table (table_of map)) refl refl
    where
      go : (b f : Bool) → keeps_rules map ≡ b → same_table table (table_of map) ≡ f → ByTheMap map table number
      go false f broken own = absurd (never _ (sym (refused_61 map table number broken refl)))
      go true false kept other = absurd (never _ (sym (refused_63 map table number kept other refl)))
      go true true kept own = told_by_map kept table own number

-- ---- the same map
pub same_tables : (map other : Map) → SameTables map other
unfolding filling_of table_of lookup_of lookup_rules owner_by
same_tables map other s =
    let kept = (same_answers map other s).0 in
    (rw (kept, s.said), λ table number. rw (kept, s.said))
