-- `ranges::lpc_field` is the first broken field of an LPC.
use mathlib.Core.Path.{sym, refl}
use Rattle.words.proofs.Choices.{yes_if, no_if}
use Rattle.kinds.specs.Ranges.{lpc_field}
use Rattle.kinds.proofs.ranges.lpc_field.Goals as goal

pub returns-then-input_fits : goal.returns-then-input_fits
unfolding lpc_field
returns-then-input_fits c = sym (yes_if _ _ _ (cc))

pub returns-else-input_fits : goal.returns-else-input_fits
unfolding lpc_field
returns-else-input_fits c = sym (no_if _ _ _ (cc) refl)
