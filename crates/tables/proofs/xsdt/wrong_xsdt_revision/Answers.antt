-- `tables::wrong_xsdt_revision` is refusal 24.
use Rattle.tables.specs.Xsdt.{wrong_xsdt_revision}
use Rattle.tables.proofs.xsdt.wrong_xsdt_revision.Goals as goal

pub returns : goal.returns
unfolding wrong_xsdt_revision
returns c = cc
