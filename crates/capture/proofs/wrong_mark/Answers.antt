-- `capture::wrong_mark` is refusal 2.
use Rattle.capture.specs.Rules.{wrong_mark}
use Rattle.capture.proofs.wrong_mark.Goals as goal

pub returns : goal.returns
unfolding wrong_mark
returns c = cc
