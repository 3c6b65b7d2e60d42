-- `Map::first_clash` goes through all claims, and for each through all again.
use Rattle.std.proofs.Common.{rules}
use Rattle.clashes.specs.Search.{better, partner, first_clash}
use Rattle.lines.specs.Says.{says}
use Rattle.lines.specs.Claims.{claims}
use Rattle.lines.proofs.Map.first_clash.Goals as goal

pub returns : goal.returns
unfolding first_clash
returns c =
    let a = c.args in
    c.fold_claims.ensures (λ best x. better best x.place (partner a.rule x (claims (says a.self.now) a.places))) (λ b x r p. search rules)
