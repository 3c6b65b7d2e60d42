-- `tables::wrong_revision` is refusal 12.
use Rattle.tables.specs.Rsdp.{wrong_revision}
use Rattle.tables.proofs.rsdp.wrong_revision.Goals as goal

pub returns : goal.returns
unfolding wrong_revision
returns c = cc
