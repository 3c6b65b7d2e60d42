-- `xsdt::noted` keeps the first such table, and the second entry.
use Rattle.std.proofs.Common.{rules}
use Rattle.words.specs.Choice.{if}
use Rattle.tables.specs.Naming.{one_more}
use Rattle.tables.proofs.xsdt.noted.Goals as goal

pub returns-in-true-None-default : goal.returns-in-true-None-default
unfolding one_more if
returns-in-true-None-default c = search rules

pub returns-in-true-Some-None : goal.returns-in-true-Some-None
unfolding one_more if
returns-in-true-Some-None c = search rules

pub returns-in_default : goal.returns-in_default
unfolding one_more if
returns-in_default c = search rules

pub returns-in_default-2 : goal.returns-in_default-2
unfolding one_more if
returns-in_default-2 c = search rules
