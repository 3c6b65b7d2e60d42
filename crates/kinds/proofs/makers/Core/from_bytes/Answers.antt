-- `Core::from_bytes` reads the fields of a CORE.
use Rattle.kinds.specs.Makers.{core_of}
use Rattle.kinds.proofs.makers.Core.from_bytes.Goals as goal

pub returns : goal.returns
unfolding core_of
returns c = cc
