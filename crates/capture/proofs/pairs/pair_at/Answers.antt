-- `pairs::pair_at` reads the two bytes of a pair.
use Rattle.capture.specs.Pairs.{pair_at}
use Rattle.capture.proofs.pairs.pair_at.Goals as goal

pub returns : goal.returns
unfolding pair_at
returns c = cc
