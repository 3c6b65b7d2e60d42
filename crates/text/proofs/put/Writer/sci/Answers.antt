-- `Writer::sci` writes a line for an SCI that arrives.
use Rattle.text.specs.Numerals.{letters}
use Rattle.text.specs.Lines.{sci_line}
use Rattle.text.proofs.ByCase.{no_sci}
use Rattle.text.proofs.Wrote.{nothing}
use Rattle.text.proofs.put.Writer.sci.Goals as goal

pub returns-in_default : goal.returns-in_default
unfolding sci_line
returns-in_default c = rw c.in_default.is (nothing _)

pub returns-in-Arrives : goal.returns-in-Arrives
unfolding sci_line letters
returns-in-Arrives c = rw (c.in-Ok.is, c.in-Arrives.is) c.line.ensures

pub returns-in_default-route : goal.returns-in_default-route
returns-in_default-route c = rw (c.in-Ok.is, no_sci _ _ c.in_default-route.not-Arrives) (nothing _)
