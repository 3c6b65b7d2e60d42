-- `tables::not_xsdt` is refusal 23.
use Rattle.words.specs.Bytes.{spelled}
use Rattle.tables.specs.Xsdt.{not_xsdt, xsdt_signature}
use Rattle.tables.proofs.xsdt.not_xsdt.Goals as goal

pub returns : goal.returns
unfolding not_xsdt xsdt_signature spelled
returns c = cc
