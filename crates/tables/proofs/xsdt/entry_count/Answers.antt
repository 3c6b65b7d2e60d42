-- `tables::entry_count` is the number of the XSDT's addresses.
use Rattle.tables.specs.Xsdt.{entry_count}
use Rattle.tables.proofs.xsdt.entry_count.Goals as goal

pub returns : goal.returns
unfolding entry_count
returns c = cc
