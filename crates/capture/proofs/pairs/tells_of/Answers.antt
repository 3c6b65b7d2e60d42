-- `pairs::tells_of` asks for a number other than 0, and for the hardware ID.
use Rattle.capture.specs.Pairs.{tells_of}
use Rattle.capture.proofs.pairs.tells_of.Goals as goal

pub returns : goal.returns
unfolding tells_of
returns c = cc
