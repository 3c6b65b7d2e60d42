-- `search::fold_kind` takes structure and place side by side.
use Rattle.std.proofs.Common.{◌∙◌, ℕ, rules}
use Rattle.std.proofs.lemmas.Iterator.{YieldsList-from_slice, YieldsList-from_zip}
use Rattle.std.proofs.lemmas.Iterator.Consumers.{fold_from_yields_List}
use Rattle.lines.proofs.Folds.{fold_placed}
use Rattle.lines.proofs.search.fold_kind.Goals as goal

pub returns : goal.returns
returns g c h acts =
    let claim = g.T.Claimant.claims in
    let step = λ (b : g.row.B.Denot) (p : g.row.T.Denot × ℕ). h b (claim p.0 p.1) in
    fold_from_yields_List _ step c.args.sofar c.fold.result c.fold.ensures.ran
    (YieldsList-from_zip (YieldsList-from_slice c.args.structures.now (search rules)) (YieldsList-from_slice c.args.places.now (search rules)))
    (λ a x b q k. search (rules, acts))
    ∙ fold_placed claim h c.args.sofar c.args.structures.now c.args.places.now
