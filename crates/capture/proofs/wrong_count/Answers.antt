-- `capture::wrong_count` is refusal 4.
use Rattle.capture.specs.Rules.{wrong_count}
use Rattle.capture.proofs.wrong_count.Goals as goal

pub returns : goal.returns
unfolding wrong_count
returns c = cc
