-- `ranges::half_fits` is the range of a half.
use Rattle.kinds.proofs.ranges.half_fits.Goals as goal

pub returns : goal.returns
returns c = rw c.cascade_fits.ensures
