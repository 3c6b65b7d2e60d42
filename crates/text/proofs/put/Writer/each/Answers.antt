-- `Writer::each` writes one thing behind the other.
use Rattle.text.specs.Lines.{each}
use Rattle.text.proofs.Wrote.{nothing, then, each_turn}
use Rattle.text.proofs.put.Writer.each.Goals as goal

pub loop-one-init : goal.loop-one-init
unfolding each
loop-one-init g c = nothing _

pub loop-one-preserved : goal.loop-one-preserved
loop-one-preserved g c =
    rw (each_turn g.T.Told.text c.args.all.now c.loop-one.one-index c.one-item.result c.loop-one-test.true, ← c.one-item.is)
    (then c.loop-one.invariant c.tell.ensures)
