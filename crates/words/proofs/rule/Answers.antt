-- `words::rule` is the choice that its definition makes.
use Rattle.std.proofs.Common.{rules}
use Rattle.words.specs.Choice.{if}
use Rattle.words.proofs.rule.Goals as goal

pub returns-then-broken : goal.returns-then-broken
unfolding if
returns-then-broken c = search rules

pub returns : goal.returns
unfolding if
returns c = search rules
