-- `tables::length_of` is the length that a table says.
use Rattle.tables.specs.Table.{table_length}
use borrow.Author.Rules.{rules}
use Rattle.tables.proofs.headers.length_of.Goals as goal

pub returns : goal.returns
unfolding table_length
returns c = search rules
