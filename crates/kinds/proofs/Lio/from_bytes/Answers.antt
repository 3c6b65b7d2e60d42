-- `Lio::from_bytes` reads the two halves of a LIO.
use Rattle.kinds.specs.Makers.{lio_of}
use Rattle.kinds.proofs.Lio.from_bytes.Goals as goal

pub returns : goal.returns
unfolding lio_of
returns c = cc
