-- `Writer::cores` writes a line for each two numbers of the list.
use Rattle.std.proofs.Common.{ap, ◌∙◌}
use Rattle.text.specs.Numerals.{letters}
use Rattle.text.specs.Lines.{core_line}
use Rattle.text.proofs.ByCase.{next_core, no_core}
use Rattle.text.proofs.Wrote.{nothing, then}
use Rattle.text.proofs.put.Writer.cores.Goals as goal

pub loop-core-init : goal.loop-core-init
loop-core-init c =
    let made = c.into_iter-core-iterator.ensures.into_iter_gives in
    let all = c.chunks_exact-core-items.ensures in
    (ap (λ i. i.size) made ∙ all.size, λ end w. rw (ap (λ i. i.rest.now) made ∙ all.rest) at w)

pub loop-core-preserved : goal.loop-core-preserved
unfolding core_line letters
loop-core-preserved c =
    let l = c.loop-core.invariant in
    let s = c.in-Some.ensures.steps in
    (s.0 ∙ l.0, λ end w. l.1 end (rw (next_core _ _ _ s.1.0 (s.1.1 ∙ l.0)) (then c.line.ensures w)))

pub returns : goal.returns
returns c =
    let l = c.loop-core.invariant in
    l.1 _ (rw (no_core _ (rw l.0 at c.in-None.ensures.steps.1.0)) (nothing _))
