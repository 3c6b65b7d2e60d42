-- `capture::wrong_version` is refusal 3.
use Rattle.capture.specs.Rules.{wrong_version}
use Rattle.capture.proofs.wrong_version.Goals as goal

pub returns : goal.returns
unfolding wrong_version
returns c = cc
