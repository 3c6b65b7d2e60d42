-- `tables::sum_at` is the sum of the part.
use mathlib.Core.Path.{ap, ◌∙◌}
use Rattle.words.specs.Bytes.{byte_sum}
use Rattle.tables.proofs.headers.sum_at.Goals as goal

pub returns : goal.returns
returns c = c.sum.ensures ∙ ap byte_sum c.part.ensures
