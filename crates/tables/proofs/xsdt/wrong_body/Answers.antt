-- `tables::wrong_body` is refusal 25.
use Rattle.tables.specs.Xsdt.{wrong_body}
use Rattle.tables.proofs.xsdt.wrong_body.Goals as goal

pub returns : goal.returns
unfolding wrong_body
returns c = cc
