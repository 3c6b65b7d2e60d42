-- `Writer::line` writes the phrase and then the newline.
use Rattle.text.specs.Lines.{line}
use Rattle.text.proofs.Wrote.{then}
use Rattle.text.proofs.put.Writer.line.Goals as goal

pub returns : goal.returns
unfolding line
returns c = then c.phrase.ensures c.byte.ensures
