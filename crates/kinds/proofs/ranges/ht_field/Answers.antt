-- `ranges::ht_field` is the first broken field of an HT.
use mathlib.Core.Path.{sym, refl}
use Rattle.words.proofs.Choices.{yes_if, no_if}
use Rattle.kinds.specs.Ranges.{ht_field}
use Rattle.kinds.proofs.ranges.ht_field.Goals as goal

pub returns-then-bytes_fit : goal.returns-then-bytes_fit
unfolding ht_field
returns-then-bytes_fit c = sym (yes_if _ _ _ (cc))

pub returns-else-bytes_fit : goal.returns-else-bytes_fit
unfolding ht_field
returns-else-bytes_fit c = sym (no_if _ _ _ (cc) refl)
