-- The line of an EIO.
use Rattle.text.specs.Numerals.{letters}
use Rattle.text.specs.Lines.{eio_line}
use Rattle.text.proofs.tell.EioTold.tell.Goals as goal

pub returns : goal.returns
unfolding eio_line letters
returns c = c.line.ensures
