-- `Map::ranges_kept` asks for the ranges of every structure.
use Rattle.std.proofs.Common.{rules}
use Rattle.lines.specs.Rules.{ranges_kept}
use Rattle.lines.proofs.Map.ranges_kept.Goals as goal

pub returns : goal.returns
unfolding ranges_kept
returns c = search rules
