-- The line of an MSI.
use Rattle.text.specs.Numerals.{letters}
use Rattle.text.specs.Lines.{msi_line}
use Rattle.text.proofs.tell.MsiTold.tell.Goals as goal

pub returns : goal.returns
unfolding msi_line letters
returns c = rw (← c.last_of-last.ensures) c.line.ensures
