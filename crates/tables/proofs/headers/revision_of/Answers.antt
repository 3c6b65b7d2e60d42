-- `tables::revision_of` is the revision of a table.
use Rattle.tables.specs.Table.{revision}
use borrow.Author.Rules.{rules}
use Rattle.tables.proofs.headers.revision_of.Goals as goal

pub returns : goal.returns
unfolding revision
returns c = search rules
