-- `tables::sci_number` is the FADT's SCI_INT.
use Rattle.tables.specs.Survey.{sci_number}
use borrow.Author.Rules.{rules}
use Rattle.tables.proofs.sci_number.Goals as goal

pub returns : goal.returns
unfolding sci_number
returns c = search rules
