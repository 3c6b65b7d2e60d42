-- `ranges::bio_field` is the first broken field of a BIO.
use mathlib.Core.Path.{sym, refl}
use Rattle.words.proofs.Choices.{yes_if, no_if}
use Rattle.kinds.specs.Ranges.{bio_field}
use Rattle.kinds.proofs.ranges.bio_field.Goals as goal

pub returns-then-not-node_fits : goal.returns-then-not-node_fits
unfolding bio_field
returns-then-not-node_fits c = sym (yes_if _ _ _ (cc))

pub returns-then-base_fits : goal.returns-then-base_fits
unfolding bio_field
returns-then-base_fits c = sym (no_if _ _ _ (cc) (yes_if _ _ _ (cc)))

pub returns-else-base_fits : goal.returns-else-base_fits
unfolding bio_field
returns-else-base_fits c = sym (no_if _ _ _ (cc) (no_if _ _ _ (cc) refl))
