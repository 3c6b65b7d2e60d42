-- `size_at` tells no size past the table's end.
use native.Mathlib.Omega.{arith}
use mathlib.Core.Path.{sym, ◌∙◌}
use Rattle.madt.proofs.Pieces.{step_inside}
use Rattle.madt.proofs.steps.size_at.Goals as goal

pub returns-in-Structure-clause-upper_bound : goal.returns-in-Structure-clause-upper_bound
returns-in-Structure-clause-upper_bound c =
    let fits = (step_inside c.args.table.now c.args.at c.in-Structure.size (sym c.step_from.ensures ∙ c.in-Structure.is)).2 in
    omega arith
