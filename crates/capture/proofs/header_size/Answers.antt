-- `capture::header_size` is the header's size.
use mathlib.Core.Path.{refl, sym}
use borrow.Author.Tests.{eq-eqb, ne_eqb}
use Rattle.words.proofs.Choices.{yes_if, no_if}
use Rattle.capture.specs.Fields.{header_size}
use Rattle.capture.proofs.header_size.Goals as goal

pub returns-then-version-eq-WITH_PAIRS : goal.returns-then-version-eq-WITH_PAIRS
unfolding header_size
returns-then-version-eq-WITH_PAIRS c = sym (yes_if _ _ _ (eq-eqb _ _ c.if-version-eq-WITH_PAIRS.true))

pub returns-else-version-eq-WITH_PAIRS : goal.returns-else-version-eq-WITH_PAIRS
unfolding header_size
returns-else-version-eq-WITH_PAIRS c = sym (no_if _ _ _ (ne_eqb _ _ c.if-version-eq-WITH_PAIRS.false) refl)
