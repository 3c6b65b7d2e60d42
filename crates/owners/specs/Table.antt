-- W-211 of document 02, the owner table: what a map fills in, what a table says of a number, and when two have the same content.
use Rattle.std.specs.Prelude.{ℕ, Bool, true, false, ◌&&◌, map as mapped, eqb, get_or, replicate}
use Rattle.words.specs.Lists.{every, numbers_below}
use Rattle.lines.specs.Says.{says}
use Rattle.lines.specs.Routes.{owner}
use Rattle.lines.specs.declared.Map.{Map}
use Rattle.lines.specs.declared.Owner.{Owner}
use Rattle.lines.specs.declared.Owner.TheVariants.{LpcInput, LioInput, BioInput, Nobody}
use Rattle.owners.specs.declared.OwnerTable.{OwnerTable}

-- "a table of owners for the numbers 0 to 319, filled from it": the owner of each number, by the map
unfoldable pub table_of : Map → OwnerTable
table_of map = record { entries = mapped (owner (says map)) (numbers_below 320) }

-- beside a refusal: nobody owns a number
unfoldable pub empty_table : OwnerTable
empty_table = record { entries = replicate 320 Nobody }

-- the owner that a table has for a number; past its end, nobody
unfoldable pub owner_in : OwnerTable → ℕ → Owner
owner_in table number = get_or table.entries number Nobody

-- two owners are the same: of one kind (the LPC, the LIO, a bridge, nobody), and with the same node and the same input where they name one
unfoldable pub same_owner : Owner → Owner → Bool
same_owner LpcInput LpcInput = true
same_owner (LioInput i) (LioInput j) = eqb i j
same_owner (BioInput node v) (BioInput other w) = eqb node other && eqb v w
same_owner Nobody Nobody = true
same_owner one another = false

-- two tables have the same content: one owner for each number
unfoldable pub same_table : OwnerTable → OwnerTable → Bool
same_table one other = every (λ number. same_owner (owner_in one number) (owner_in other number)) (numbers_below 320)
