-- `tables::earlier_of` takes the first of two, if both are there.
use Rattle.std.proofs.Common.{rules}
use Rattle.words.specs.Choice.{if}
use Rattle.tables.specs.Survey.{earlier}
use Rattle.tables.proofs.earlier_of.Goals as goal

pub returns-then-e-o : goal.returns-then-e-o
unfolding earlier if
returns-then-e-o c = search rules

pub returns-else-e-o : goal.returns-else-e-o
unfolding earlier if
returns-else-e-o c = search rules

pub returns-in_default : goal.returns-in_default
unfolding earlier if
returns-in_default c = search rules
