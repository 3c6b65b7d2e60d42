-- `tables::step_from` goes by the numbers of the stepper's definition.
use mathlib.Core.Path.{ap, sym, ◌∙◌}
use native.Mathlib.Omega.{arith}
use Rattle.tables.specs.declared.Step.TheVariants.{Structure}
use Rattle.tables.proofs.Steps.{step_end, step_one_byte, step_too_short, step_past_end, step_structure}
use Rattle.tables.proofs.step_from.Goals as goal

pub returns-then-table-at : goal.returns-then-table-at
returns-then-table-at c = sym (step_end _ _ (omega arith))

pub returns-then-table-at-lt2 : goal.returns-then-table-at-lt2
returns-then-table-at-lt2 c = sym (step_one_byte _ _ (omega arith) (omega arith))

pub returns-then-length-lt2 : goal.returns-then-length-lt2
returns-then-length-lt2 c = sym (step_too_short _ _ (omega arith) (omega arith) (omega arith))

pub returns-then-table-at-2 : goal.returns-then-table-at-2
returns-then-table-at-2 c = sym (step_past_end _ _ (omega arith) (omega arith) (omega arith) (omega arith))

pub returns : goal.returns
returns c = ap Structure c.byte_at-length.ensures ∙ sym (step_structure _ _ (omega arith) (omega arith) (omega arith) (omega arith))
