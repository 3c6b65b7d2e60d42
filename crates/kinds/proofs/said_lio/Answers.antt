-- `said_lio` is the LIO without what is unused in it.
use Rattle.std.proofs.Common.{rules}
use Rattle.words.specs.Choice.{if}
use Rattle.kinds.specs.Used.{said_lio}
use Rattle.kinds.proofs.said_lio.Goals as goal

pub returns-then-lio : goal.returns-then-lio
unfolding said_lio if
returns-then-lio c = search rules

pub returns-else-lio : goal.returns-else-lio
unfolding said_lio if
returns-else-lio c = search rules
