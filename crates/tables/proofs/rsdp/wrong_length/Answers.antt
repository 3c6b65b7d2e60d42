-- `tables::wrong_length` is refusal 13.
use Rattle.tables.specs.Rsdp.{wrong_length}
use Rattle.tables.proofs.rsdp.wrong_length.Goals as goal

pub returns : goal.returns
unfolding wrong_length
returns c = cc
