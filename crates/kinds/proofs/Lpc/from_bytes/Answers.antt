-- `Lpc::from_bytes` reads the fields of an LPC.
use Rattle.kinds.specs.Makers.{lpc_of}
use Rattle.kinds.proofs.Lpc.from_bytes.Goals as goal

pub returns : goal.returns
unfolding lpc_of
returns c = cc
