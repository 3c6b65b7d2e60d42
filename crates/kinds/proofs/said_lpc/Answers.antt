-- `said_lpc` is the LPC without what is unused in it.
use Rattle.std.proofs.Common.{rules}
use Rattle.words.specs.Choice.{if}
use Rattle.kinds.specs.Used.{said_lpc}
use Rattle.kinds.proofs.said_lpc.Goals as goal

pub returns-then-lpc : goal.returns-then-lpc
unfolding said_lpc if
returns-then-lpc c = search rules

pub returns-else-lpc : goal.returns-else-lpc
unfolding said_lpc if
returns-else-lpc c = search rules
