-- `owners::owner_by` goes by the number.
use mathlib.Core.Path.{◌≡◌, sym, ◌∙◌}
use native.Mathlib.Omega.{arith}
use lib.ListN.{length}
use borrow.Author.Tests.{lt-ltb, le-ltb}
use borrow.Author.Rules.{rules}
use Rattle.words.specs.Choice.{if}
use Rattle.words.proofs.Choices.{yes_if}
use Rattle.lines.specs.declared.Owner.TheVariants.{Nobody}
use Rattle.owners.specs.Table.{owner_in}
use Rattle.owners.specs.Lookups.{owner_by}
use Rattle.owners.proofs.owner_by.Goals as goal

pub returns-in-Some : goal.returns-in-Some
unfolding owner_by owner_in
returns-in-Some c =
    let a = c.args in
    let found = c.in-Some.ensures.lookup in
    let size : length a.table.entries ≡ 320 = search rules in
    found.3.1 Nobody ∙ sym (yes_if _ _ _ (lt-ltb _ _ (omega (arith, found.3.0, size))))

pub returns-in-None : goal.returns-in-None
unfolding owner_by if
returns-in-None c =
    let a = c.args in
    let size : length a.table.entries ≡ 320 = search rules in
    rw (le-ltb a.number 320 (omega (arith, c.in-None.ensures.lookup.3, size)), c.owner.ensures)
