-- A line for a half with a mask.
use Rattle.text.specs.Numerals.{letters}
use Rattle.text.proofs.ByCase.{half_unused, half_used}
use Rattle.text.proofs.Wrote.{nothing}
use Rattle.text.proofs.tell.HalfTold.tell.Goals as goal

pub returns-then-self-ne0 : goal.returns-then-self-ne0
unfolding letters
returns-then-self-ne0 c = rw (half_used c.args.self.now c.if-self-ne0.true) c.line.ensures

pub returns-else-self-ne0 : goal.returns-else-self-ne0
returns-else-self-ne0 c = rw (half_unused c.args.self.now c.if-self-ne0.false) (nothing _)
