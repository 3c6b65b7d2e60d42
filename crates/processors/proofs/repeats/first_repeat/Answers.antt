-- `first_repeat` searches the processors for one that shares an ID with an earlier one, and for each that may do so those before it.
use mathlib.Core.Path.{refl, sym, ◌∙◌}
use Rattle.processors.proofs.Repeating.{start, pass, caught, over, enter, leave, named}
use Rattle.processors.proofs.repeats.first_repeat.Goals as goal

pub cores-init : goal.cores-init
cores-init c = start _ _

pub loop-before-init : goal.loop-before-init
loop-before-init c = enter c.cores.invariant c.cores-test.true c.processor_at-processor.ensures c.search_from.ensures

pub loop-before-preserved : goal.loop-before-preserved
loop-before-preserved c =
    pass c.loop-before.invariant c.loop-before-test.true c.processor_at.ensures (sym c.share_id.ensures ∙ c.if-share_id.false)

pub cores-preserved : goal.cores-preserved
cores-preserved c =
    leave c.cores.invariant c.cores-test.true c.processor_at-processor.ensures
    c.loop-before.invariant c.loop-before-test.false c.with-seen.ensures

pub returns-after-cores : goal.returns-after-cores
returns-after-cores c = over c.cores.invariant c.cores-test.false

pub returns-then-share_id : goal.returns-then-share_id
returns-then-share_id c =
    let same = caught c.loop-before.invariant c.loop-before-test.true c.processor_at.ensures (sym c.share_id.ensures ∙ c.if-share_id.true) in
    named c.cores.invariant c.cores-test.true c.processor_at-processor.ensures refl same
