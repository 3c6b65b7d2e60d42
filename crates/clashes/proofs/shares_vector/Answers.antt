-- `clashes::shares_vector` is rule 52.
use Rattle.clashes.proofs.shares_vector.Goals as goal

pub returns : goal.returns
returns c = rw c.meets.ensures
