-- A line for an LPC that is there.
use Rattle.text.specs.Numerals.{letters}
use Rattle.text.proofs.ByCase.{lpc_absent, lpc_present}
use Rattle.text.proofs.Wrote.{nothing}
use Rattle.text.proofs.tell.LpcTold.tell.Goals as goal

pub returns-then-self : goal.returns-then-self
unfolding letters
returns-then-self c = rw (lpc_present c.args.self.now c.if-self.true) c.line.ensures

pub returns-else-self : goal.returns-else-self
returns-else-self c = rw (lpc_absent c.args.self.now c.if-self.false) (nothing _)
