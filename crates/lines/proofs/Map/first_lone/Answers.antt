-- `Map::first_lone` goes through all claims.
use Rattle.std.proofs.Common.{rules}
use Rattle.clashes.specs.Search.{lonelier, first_lone}
use Rattle.lines.specs.Says.{says}
use Rattle.lines.specs.Hubs.{nodes}
use Rattle.lines.proofs.Map.first_lone.Goals as goal

pub returns : goal.returns
unfolding first_lone
returns c = c.fold_claims.ensures (lonelier (nodes (says c.args.self.now))) (λ b x r p. search rules)
