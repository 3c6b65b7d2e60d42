-- `ranges::msi_field` is the first broken field of an MSI.
use mathlib.Core.Path.{sym, refl}
use Rattle.words.proofs.Choices.{yes_if, no_if}
use Rattle.kinds.specs.Ranges.{msi_field}
use Rattle.kinds.proofs.ranges.msi_field.Goals as goal

pub returns-then-not-count_fits : goal.returns-then-not-count_fits
unfolding msi_field
returns-then-not-count_fits c = sym (yes_if _ _ _ (cc))

pub returns-then-end_fits : goal.returns-then-end_fits
unfolding msi_field
returns-then-end_fits c = sym (no_if _ _ _ (cc) (yes_if _ _ _ (cc)))

pub returns-else-end_fits : goal.returns-else-end_fits
unfolding msi_field
returns-else-end_fits c = sym (no_if _ _ _ (cc) (no_if _ _ _ (cc) refl))
