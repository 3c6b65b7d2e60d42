-- `reading::check_repeats` is refusal 39.
use mathlib.Core.Path.{ap, sym, ◌∙◌}
use Rattle.processors.proofs.ReadAgain.{same_repeat}
use Rattle.reading.proofs.Laws.{repeat_none, repeat_at}
use Rattle.reading.proofs.check_repeats.Goals as goal
use Rattle.std.specs.Prelude.{Err}

pub returns-in-None : goal.returns-in-None
returns-in-None c =
    let same = same_repeat c.args.cores.table.now c.args.cores.offsets.now c.args.cores.standing in
    sym (repeat_none _ _ (sym same ∙ sym c.first_repeat.ensures ∙ c.in-None.is))

pub returns-in-Some : goal.returns-in-Some
returns-in-Some c =
    let same = same_repeat c.args.cores.table.now c.args.cores.offsets.now c.args.cores.standing in
    ap Err c.refuse.ensures ∙ sym (repeat_at _ _ (sym same ∙ sym c.first_repeat.ensures ∙ c.in-Some.is))
