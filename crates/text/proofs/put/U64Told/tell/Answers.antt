-- A number is written behind a blank.
use Rattle.text.specs.Lines.{field}
use Rattle.text.proofs.Wrote.{then}
use Rattle.text.proofs.put.U64Told.tell.Goals as goal

pub returns : goal.returns
unfolding field
returns c = then c.byte.ensures c.decimal.ensures
