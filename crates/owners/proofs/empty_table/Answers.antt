-- `owners::empty_table` has nobody for each number.
use borrow.Author.Rules.{rules}
use Rattle.owners.specs.Table.{empty_table}
use Rattle.owners.proofs.empty_table.Goals as goal

pub returns : goal.returns
unfolding empty_table
returns c = search rules
