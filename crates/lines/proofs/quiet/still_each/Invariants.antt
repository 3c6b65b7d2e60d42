-- `quiet::still_each`: the structures that are left give the answer of all.
use Rattle.std.proofs.Common.{◌≡◌, Bool, length}
use Rattle.lines.specs.Steps.{Computes}
use Rattle.lines.specs.Quiet.{still_each}
use Rattle.lines.proofs.quiet.still_each.Given as goal

abbrev pub invariant-loop-x : goal.invariant-loop-x
invariant-loop-x g l =
    (test : g.row.T.Denot → Bool) → Computes (goal.F-post g l.alone) test
    → still_each g.T.Claimant.claims test l.rest ≡ still_each g.T.Claimant.claims test l.fn.structures

abbrev pub decreases-loop-x : goal.decreases-loop-x
decreases-loop-x g l = length l.rest
