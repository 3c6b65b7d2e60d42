-- `tables::signature_of` is the signature of a table.
use Rattle.tables.specs.Table.{signature}
use borrow.Author.Rules.{rules}
use Rattle.tables.proofs.headers.signature_of.Goals as goal

pub returns : goal.returns
unfolding signature
returns c = search rules
