-- `Bio::from_bytes` reads the fields of a BIO.
use Rattle.kinds.specs.Makers.{bio_of}
use Rattle.kinds.proofs.Bio.from_bytes.Goals as goal

pub returns : goal.returns
unfolding bio_of
returns c = cc
