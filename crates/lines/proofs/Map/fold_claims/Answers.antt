-- `Map::fold_claims` goes through the claims kind by kind.
use Rattle.lines.specs.Says.{says}
use Rattle.lines.proofs.Folds.{fold_kinds}
use Rattle.lines.proofs.Map.fold_claims.Goals as goal

pub returns : goal.returns
returns g c h acts =
    fold_kinds (says c.args.self.now) c.args.places.now h c.step-lio.result c.fold_kind-eios.result c.fold_kind-bios.result
    (rw (← c.said_lio.ensures, ← c.claim.ensures) (acts _ _ _ c.step-lio.ensures))
    (rw (← c.eios.ensures) (c.fold_kind-eios.ensures h acts))
    (rw (← c.bios.ensures) (c.fold_kind-bios.ensures h acts))
    (rw (← c.msis.ensures) (c.fold_kind.ensures h acts))
