-- `quiet::still_each`: the structures that are left give the answer of all.
use Rattle.std.proofs.Common.{◌∙◌}
use Rattle.std.proofs.lemmas.List.{nil_from_length}
use Rattle.lines.proofs.Stilling.{still_on, still_off, still_over}
use Rattle.lines.proofs.quiet.still_each.Goals as goal

pub returns-then-not-alone-far_from : goal.returns-then-not-alone-far_from
returns-then-not-alone-far_from g c test acts =
    still_off g.T.Claimant.claims test c.in-Some.ensures.cases.0 (acts _ _ c.alone.ensures) (rw (← c.claim.ensures) c.far_from.ensures) c.if-not-alone-far_from.true
    ∙ c.loop-x.invariant test acts

pub loop-x-preserved : goal.loop-x-preserved
loop-x-preserved g c test acts =
    still_on g.T.Claimant.claims test c.in-Some.ensures.cases.0 (acts _ _ c.alone.ensures) (rw (← c.claim.ensures) c.far_from.ensures) c.if-not-alone-far_from.false
    ∙ c.loop-x.invariant test acts

pub returns : goal.returns
returns g c test acts =
    still_over g.T.Claimant.claims test (nil_from_length _ c.in_default.ensures.cases) ∙ c.loop-x.invariant test acts
