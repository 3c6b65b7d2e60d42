-- `used_half` is a half without what is unused in it.
use Rattle.std.proofs.Common.{rules}
use Rattle.words.specs.Choice.{if}
use Rattle.kinds.specs.Used.{used_half}
use Rattle.kinds.proofs.used_half.Goals as goal

pub returns-then-half-eq0 : goal.returns-then-half-eq0
unfolding used_half if
returns-then-half-eq0 c = search rules

pub returns-else-half-eq0 : goal.returns-else-half-eq0
unfolding used_half if
returns-else-half-eq0 c = search rules
