-- `owners::table_of` makes the owner of each number.
use mathlib.Core.Path.{◌≡◌, refl}
use Rattle.std.proofs.Common.{rules}
use Rattle.lines.specs.Says.{says}
use Rattle.lines.specs.Routes.{owner}
use Rattle.lines.specs.declared.Owner.TheVariants.{Nobody}
use Rattle.owners.proofs.Entries.{owned_so}
use Rattle.owners.proofs.Made.{made_each}
use Rattle.owners.proofs.table_of.Goals as goal

pub returns : goal.returns
returns c =
    let map = c.args.map in
    let made = c.from_fn.ensures.items in
    owned_so map c.from_fn.result made.long
    (λ k l. made_each _ (λ f. f.0.now ≡ map) (owner (says map)) (λ p q i y o s. (search (rules, o, s), search (rules, o, s))) 320 _ c.from_fn.result refl made k l Nobody)
