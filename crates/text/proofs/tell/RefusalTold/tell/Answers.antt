-- The number of a refusal, its place and, if it is not 0, the second one.
use Rattle.text.specs.Numerals.{letters}
use Rattle.text.specs.Lines.{refusal_line}
use Rattle.text.proofs.ByCase.{one_place, two_places}
use Rattle.text.proofs.Wrote.{then}
use Rattle.text.proofs.tell.RefusalTold.tell.Goals as goal

pub returns-then-self-eq0 : goal.returns-then-self-eq0
unfolding refusal_line letters
returns-then-self-eq0 c = then c.phrase.ensures (rw (one_place c.args.self.now.place c.args.self.now.second c.if-self-eq0.true) c.line.ensures)

pub returns-else-self-eq0 : goal.returns-else-self-eq0
unfolding refusal_line letters
returns-else-self-eq0 c =
    then c.phrase.ensures
    (rw (two_places c.args.self.now.place c.args.self.now.second c.if-self-eq0.false) (then c.phrase-else-self-eq0.ensures c.line-else-self-eq0.ensures))
