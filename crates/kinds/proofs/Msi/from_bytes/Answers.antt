-- `Msi::from_bytes` reads the fields of an MSI.
use Rattle.kinds.specs.Makers.{msi_of}
use Rattle.kinds.proofs.Msi.from_bytes.Goals as goal

pub returns : goal.returns
unfolding msi_of
returns c = cc
