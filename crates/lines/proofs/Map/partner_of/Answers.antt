-- `Map::partner_of` goes through all claims.
use Rattle.std.proofs.Common.{rules}
use Rattle.clashes.specs.Search.{nearer, partner}
use Rattle.lines.proofs.Map.partner_of.Goals as goal

pub returns : goal.returns
unfolding partner
returns c = c.fold_claims.ensures (nearer c.args.rule c.args.x) (λ b y r p. search rules)
