-- `clashes::better_of` keeps the structure that stands first.
use borrow.Author.Tests.{lt-ltb, le-ltb}
use Rattle.words.specs.Choice.{if}
use Rattle.clashes.specs.Search.{better}
use Rattle.clashes.proofs.better_of.Goals as goal

pub returns-in_default : goal.returns-in_default
unfolding better
returns-in_default c = rw c.in_default.is

pub returns-in-Some-best : goal.returns-in-Some-best
unfolding better if
returns-in-Some-best c = rw (c.in-Some.is, c.in-Some-best.is, le-ltb _ _ c.if-o-place.true)

pub returns-in_default-best : goal.returns-in_default-best
unfolding better if
returns-in_default-best c = rw (c.in-Some.is, c.in-Some-best.is, lt-ltb _ _ c.if-o-place.false)

pub returns-in_default-best-2 : goal.returns-in_default-best-2
unfolding better
returns-in_default-best-2 c = rw (c.in-Some.is, c.in_default-best.is)
