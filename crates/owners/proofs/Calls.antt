-- What comes of the two calls, by what they asked.
use mathlib.Core.Path.{◌≡◌, sym, ap}
use mathlib.Core.Bool.{true, false, not}
use Prim.Native.Nat.{ℕ}
use Rattle.std.specs.Prelude.{Ok, Err}
use Rattle.words.specs.Choice.{if}
use Rattle.words.specs.Refusals.{Verdict, refused, unless}
use Rattle.words.specs.declared.Refusal.{Refusal}
use Rattle.words.proofs.TwoRules.{first_due, second_due, none_due}
use Rattle.words.proofs.Verdicts.{unless-refused, unless_sound}
use Rattle.lines.specs.Says.{says}
use Rattle.lines.specs.Routes.{arrival_of}
use Rattle.lines.specs.Rules.{keeps_rules}
use Rattle.lines.specs.declared.Map.{Map}
use Rattle.lines.specs.declared.Owner.{Owner}
use Rattle.lines.specs.declared.Route.{Route}
use Rattle.owners.specs.Table.{table_of, empty_table, same_table}
use Rattle.owners.specs.Lookups.{filling_of, lookup_rules, owner_by, lookup_of}
use Rattle.owners.specs.declared.OwnerTable.{OwnerTable}
use Rattle.owners.specs.declared.Filling.{Filling}

-- ---- filling
abbrev filling : Verdict → OwnerTable → Filling
filling verdict table = record { verdict = verdict; table = table }

module _ (map : Map) {table : OwnerTable} where
  pub filled : keeps_rules map ≡ true → table ≡ table_of map → filling (Ok tt) table ≡ filling_of map
  unfolding filling_of if unless
  filled kept t = rw (kept, t)

  pub not-filled : keeps_rules map ≡ false → table ≡ empty_table → {refusal : Refusal} → refusal ≡ refused 61 0
      → filling (Err refusal) table ≡ filling_of map
  unfolding filling_of if unless
  not-filled broken t r = rw (broken, t, r)

-- ---- looking up
module _ (map : Map) (table : OwnerTable) (number : ℕ) where
  pub refused_61 : keeps_rules map ≡ false → {refusal : Refusal} → refusal ≡ refused 61 0 → Err refusal ≡ lookup_of map table number
  unfolding lookup_of lookup_rules
  refused_61 broken r = rw r (sym (unless-refused Err _ _ (first_due (not (keeps_rules map)) (not (same_table table (table_of map))) 61 63 (ap not broken))))

  pub refused_63 : keeps_rules map ≡ true → same_table table (table_of map) ≡ false → {refusal : Refusal} → refusal ≡ refused 63 0
      → Err refusal ≡ lookup_of map table number
  unfolding lookup_of lookup_rules
  refused_63 kept other r =
      rw r (sym (unless-refused Err _ _ (second_due (not (keeps_rules map)) (not (same_table table (table_of map))) 61 63 (ap not kept) (ap not other))))

  pub told_so : keeps_rules map ≡ true → same_table table (table_of map) ≡ true → {whose : Owner} {route : Route}
      → whose ≡ owner_by map table number → route ≡ arrival_of (says map) whose → Ok (whose, route) ≡ lookup_of map table number
  unfolding lookup_of lookup_rules
  told_so kept own o r =
      rw (r, o) (sym (unless_sound Err _ _ (none_due (not (keeps_rules map)) (not (same_table table (table_of map))) 61 63 (ap not kept) (ap not own))))
