-- `parts::core_vector` asks the low half first, then the high one.
use mathlib.Core.Path.{sym, refl}
use Rattle.words.proofs.Choices.{yes_if, no_if}
use Rattle.parts.specs.Inputs.{core_vector}
use Rattle.parts.proofs.core_vector.Goals as goal

pub returns-then-bit : goal.returns-then-bit
unfolding core_vector
returns-then-bit c = sym (yes_if _ _ _ (cc))

pub returns-then-bit-2 : goal.returns-then-bit-2
unfolding core_vector
returns-then-bit-2 c = sym (no_if _ _ _ (cc) (yes_if _ _ _ (cc)))

pub returns : goal.returns
unfolding core_vector
returns c = sym (no_if _ _ _ (cc) (no_if _ _ _ (cc) refl))
