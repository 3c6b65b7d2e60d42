-- W-211 of document 02, what comes of the two calls: filling a table from a map, and looking a number up with both.
use Rattle.std.specs.Prelude.{ℕ, not, List, [], ◌∷◌, ltb, Result, Ok, Err}
use Rattle.words.specs.Choice.{if}
use Rattle.words.specs.Refusals.{Verdict, rule, unless, first_refusal}
use Rattle.words.specs.declared.Refusal.{Refusal}
use Rattle.lines.specs.Says.{says}
use Rattle.lines.specs.Routes.{owner, arrival_of}
use Rattle.lines.specs.Rules.{keeps_rules}
use Rattle.lines.specs.declared.Map.{Map}
use Rattle.lines.specs.declared.Owner.{Owner}
use Rattle.lines.specs.declared.Route.{Route}
use Rattle.owners.specs.Table.{table_of, empty_table, owner_in, same_table}
use Rattle.owners.specs.declared.OwnerTable.{OwnerTable}
use Rattle.owners.specs.declared.Filling.{Filling}

-- filling a table: 61 at place 0 is its only refusal
unfoldable pub filling_of : Map → Filling
filling_of map =
    let verdict = rule (not (keeps_rules map)) 61 0 in
    record { verdict = verdict; table = unless (λ refusal. empty_table) verdict (table_of map) }

-- "Refusals: 61, then 63 for a table whose content isn't what that map fills in", both at place 0
unfoldable pub lookup_rules : Map → OwnerTable → List Verdict
lookup_rules map table =
    rule (not (keeps_rules map)) 61 0
    ∷ rule (not (same_table table (table_of map))) 63 0
    ∷ []

-- "answer from the table there and from the map above 319": whose a number is
unfoldable pub owner_by : Map → OwnerTable → ℕ → Owner
owner_by map table number = if (ltb number 320) (owner_in table number) (owner (says map) number)

-- the answer: whose the number is, and where a number with that owner arrives
unfoldable pub lookup_of : Map → OwnerTable → ℕ → Result (Owner × Route) Refusal
lookup_of map table number =
    let whose = owner_by map table number in
    unless Err (first_refusal (lookup_rules map table)) (Ok (whose, arrival_of (says map) whose))
