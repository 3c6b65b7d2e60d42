-- `tables::address_at` is the address in a field.
use Rattle.tables.specs.Table.{address_at}
use borrow.Author.Rules.{rules}
use Rattle.tables.proofs.headers.address_at.Goals as goal

pub returns : goal.returns
unfolding address_at
returns c = search rules
