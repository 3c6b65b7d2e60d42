-- `ranges::eio_field` is the first broken field of an EIO.
use mathlib.Core.Path.{sym, refl}
use Rattle.words.proofs.Choices.{yes_if, no_if}
use Rattle.kinds.specs.Ranges.{eio_field}
use Rattle.kinds.proofs.ranges.eio_field.Goals as goal

pub returns-then-not-cascade_fits : goal.returns-then-not-cascade_fits
unfolding eio_field
returns-then-not-cascade_fits c = sym (yes_if _ _ _ (cc))

pub returns-then-not-node_fits : goal.returns-then-not-node_fits
unfolding eio_field
returns-then-not-node_fits c = sym (no_if _ _ _ (cc) (yes_if _ _ _ (cc)))

pub returns-then-nodes_fit : goal.returns-then-nodes_fit
unfolding eio_field
returns-then-nodes_fit c = sym (no_if _ _ _ (cc) (no_if _ _ _ (cc) (yes_if _ _ _ (cc))))

pub returns-else-nodes_fit : goal.returns-else-nodes_fit
unfolding eio_field
returns-else-nodes_fit c = sym (no_if _ _ _ (cc) (no_if _ _ _ (cc) (no_if _ _ _ (cc) refl)))
