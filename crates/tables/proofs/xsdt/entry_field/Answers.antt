-- `tables::entry_field` is the place of an entry's address field.
use native.Mathlib.Omega.{arith}
use Rattle.tables.specs.Xsdt.{entry_field}
use Rattle.tables.proofs.xsdt.entry_field.Goals as goal

pub returns : goal.returns
unfolding entry_field
returns c = omega arith
