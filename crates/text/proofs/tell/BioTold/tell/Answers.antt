-- The line of a BIO.
use Rattle.text.specs.Numerals.{letters}
use Rattle.text.specs.Lines.{bio_line}
use Rattle.text.proofs.tell.BioTold.tell.Goals as goal

pub returns : goal.returns
unfolding bio_line letters
returns c = rw (← c.last_of-last.ensures) c.line.ensures
