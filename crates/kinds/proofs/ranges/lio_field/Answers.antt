-- `ranges::lio_field` is the first broken field of a LIO.
use mathlib.Core.Path.{sym, refl}
use Rattle.words.proofs.Choices.{yes_if, no_if}
use Rattle.kinds.specs.Ranges.{lio_field}
use Rattle.kinds.proofs.ranges.lio_field.Goals as goal

pub returns-then-half_fits : goal.returns-then-half_fits
unfolding lio_field
returns-then-half_fits c = sym (yes_if _ _ _ (cc))

pub returns-else-half_fits : goal.returns-else-half_fits
unfolding lio_field
returns-else-half_fits c = sym (no_if _ _ _ (cc) refl)
