-- `capture::wrong_size` is refusal 1.
use Rattle.capture.specs.Rules.{wrong_size}
use Rattle.capture.proofs.wrong_size.Goals as goal

pub returns : goal.returns
unfolding wrong_size
returns c = cc
