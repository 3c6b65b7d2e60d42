-- `clashes::nearer_of` counts an earlier claim that clashes.
use Rattle.words.specs.Choice.{if}
use Rattle.clashes.specs.Search.{nearer}
use Rattle.clashes.proofs.nearer_of.Goals as goal

pub returns-then-y-x : goal.returns-then-y-x
unfolding nearer if
returns-then-y-x c = rw (← c.clashing.ensures, c.if-y-x.true) c.sooner_of.ensures

pub returns : goal.returns
unfolding nearer if
returns c = rw (← c.clashing.ensures, c.if-y-x.false)
