-- `Writer::bytes` writes one byte behind the other.
use Rattle.std.proofs.lemmas.List.{take_more}
use Rattle.text.proofs.Wrote.{then}
use Rattle.text.proofs.put.Writer.bytes.Goals as goal

pub loop-byte-preserved : goal.loop-byte-preserved
loop-byte-preserved c = rw (take_more _ _ 0 c.loop-byte-test.true) (then c.loop-byte.invariant c.byte.ensures)
