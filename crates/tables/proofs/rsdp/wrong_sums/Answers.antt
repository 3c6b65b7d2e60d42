-- `tables::wrong_sums` is refusal 14.
use Rattle.tables.specs.Rsdp.{wrong_sums}
use Rattle.tables.proofs.rsdp.wrong_sums.Goals as goal

pub returns : goal.returns
unfolding wrong_sums
returns c = rw (c.sum_at.ensures, c.sum_at-2.ensures)
