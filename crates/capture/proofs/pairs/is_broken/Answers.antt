-- `pairs::is_broken` is refusal 7 of a pair.
use Rattle.std.proofs.Common.{rules}
use Rattle.capture.specs.Pairs.{pair_broken}
use Rattle.capture.proofs.pairs.is_broken.Goals as goal

pub returns : goal.returns
unfolding pair_broken
returns c = search rules
