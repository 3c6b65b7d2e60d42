-- `tables::wrong_flags` is refusal 30.
use Rattle.tables.specs.Survey.{wrong_flags}
use Rattle.tables.proofs.wrong_flags.Goals as goal

pub returns : goal.returns
unfolding wrong_flags
returns c = cc
