-- `Eio::from_bytes` reads the fields of an EIO.
use Rattle.kinds.specs.Makers.{eio_of}
use Rattle.kinds.proofs.Eio.from_bytes.Goals as goal

pub returns : goal.returns
unfolding eio_of
returns c = cc
