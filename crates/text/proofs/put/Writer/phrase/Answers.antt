-- `Writer::phrase` writes the word and then the numbers.
use Rattle.text.specs.Lines.{phrase}
use Rattle.text.proofs.Wrote.{then}
use Rattle.text.proofs.put.Writer.phrase.Goals as goal

pub returns : goal.returns
unfolding phrase
returns c = then c.bytes.ensures c.each.ensures
