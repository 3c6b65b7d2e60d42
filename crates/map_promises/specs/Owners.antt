-- What is promised of the owner table beside the map (W-211 of document 02): 61 and 63 each exactly when they are due, both ways of asking
-- agree on every number, and maps that say the same fill the same table. Each statement stands alone; proofs/Owners.antt has a theorem for it.
use Rattle.std.specs.Prelude.{ℕ, ◌<◌, true, false, ◌≡◌, length, Ok, Err}
use Rattle.words.specs.Refusals.{refused, refused_with}
use Rattle.words.specs.declared.Refusal.{Refusal}
use Rattle.lines.specs.Says.{says, Same}
use Rattle.lines.specs.Routes.{owner}
use Rattle.lines.specs.Rules.{keeps_rules}
use Rattle.lines.specs.Answers.{route_of}
use Rattle.lines.specs.declared.Map.{Map}
use Rattle.lines.specs.declared.Route.{Route}
use Rattle.owners.specs.Table.{table_of, owner_in}
use Rattle.owners.specs.Lookups.{filling_of, lookup_of}
use Rattle.owners.specs.declared.OwnerTable.{OwnerTable}
use Rattle.map_promises.specs.Clashing.{OnePlace, Exactly}

-- ---- 61 and 63
-- filling: 61 is told exactly of a map that breaks a rule, at place 0; else nothing is refused, and the table is the map's
abbrev pub FillExactly : Map → Type 0
FillExactly map =
    Exactly (λ p q. (filling_of map).verdict ≡ Err (refused_with 61 p q)) (keeps_rules map ≡ false) (OnePlace (λ p. p ≡ 0))
    × (keeps_rules map ≡ true → ((filling_of map).verdict ≡ Ok tt) × ((filling_of map).table ≡ table_of map))

-- a lookup: 61 is told exactly of a map that breaks a rule, whatever the table is, at place 0
abbrev pub BrokenMapExactly : Map → OwnerTable → ℕ → Type 0
BrokenMapExactly map table number =
    Exactly (λ p q. lookup_of map table number ≡ Err (refused_with 61 p q)) (keeps_rules map ≡ false) (OnePlace (λ p. p ≡ 0))

-- "then 63 for a table whose content isn't what that map fills in": of a map that keeps the rules, and exactly then, at place 0. (A table has
-- 320 entries by its type, of which a definition knows nothing.)
abbrev pub SixtyThreeExactly : Map → OwnerTable → ℕ → Type 0
SixtyThreeExactly map table number =
    length table.entries ≡ 320
    → Exactly (λ p q. lookup_of map table number ≡ Err (refused_with 63 p q)) ((keeps_rules map ≡ true) × (table ≡ table_of map → ⊥))
    (OnePlace (λ p. p ≡ 0))

-- one entry that differs is enough, whatever number is asked, and whatever the others are
abbrev pub OneEntryIsEnough : Map → Type 0
OneEntryIsEnough map =
    keeps_rules map ≡ true
    → (table : OwnerTable) (k : ℕ) → k < 320 → (owner_in table k ≡ owner (says map) k → ⊥)
    → (number : ℕ) → lookup_of map table number ≡ Err (refused 63 0)

-- a table that the map filled is never 63 (any map)
abbrev pub FilledIsTaken : Map → Type 0
FilledIsTaken map =
    (number : ℕ) (r : Refusal) → lookup_of map (filling_of map).table number ≡ Err r → (keeps_rules map ≡ false) × (r ≡ refused 61 0)

-- ---- "Both ways agree on every 32-bit number"
-- a lookup tells whose the number is by the map, and the map's own answer to it
abbrev pub ByTheMap : Map → OwnerTable → ℕ → Type 0
ByTheMap map table number =
    (route : Route) × (route_of map number ≡ Ok route) × (lookup_of map table number ≡ Ok (owner (says map) number, route))

-- so it does with the table that the map filled
abbrev pub BothWaysAgree : Map → Type 0
BothWaysAgree map = keeps_rules map ≡ true → (number : ℕ) → ByTheMap map (filling_of map).table number

-- and with whatever table it takes
abbrev pub TakenIsTrue : Map → OwnerTable → ℕ → Type 0
TakenIsTrue map table number = ((r : Refusal) → lookup_of map table number ≡ Err r → ⊥) → ByTheMap map table number

-- ---- one map, one table
-- "maps that differ only there are the same map": they fill the same table, and look a number up alike
abbrev pub SameTables : Map → Map → Type 0
SameTables map other =
    Same map other
    → (filling_of map ≡ filling_of other)
    × ((table : OwnerTable) (number : ℕ) → lookup_of map table number ≡ lookup_of other table number)
