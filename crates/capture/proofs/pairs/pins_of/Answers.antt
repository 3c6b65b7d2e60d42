-- `pairs::pins_of` is what the pairs tell, or 64.
use Rattle.std.proofs.Common.{rules}
use Rattle.capture.specs.Pairs.{pins_of}
use Rattle.capture.proofs.pairs.pins_of.Goals as goal

pub returns : goal.returns
unfolding pins_of
returns c = search rules
