-- The low half's line and then the high half's.
use Rattle.text.specs.Lines.{lio_lines}
use Rattle.text.proofs.Wrote.{then}
use Rattle.text.proofs.tell.LioTold.tell.Goals as goal

pub returns : goal.returns
unfolding lio_lines
returns c = then c.tell.ensures c.tell-2.ensures
