-- `tables::wrong_signature` is refusal 11.
use Rattle.words.specs.Bytes.{spelled}
use Rattle.tables.specs.Rsdp.{wrong_signature, rsd_ptr}
use Rattle.tables.proofs.rsdp.wrong_signature.Goals as goal

pub returns : goal.returns
unfolding wrong_signature rsd_ptr spelled
returns c = cc
