-- `capture::descriptors_start` is the place of the first descriptor.
use mathlib.Core.Path.{ap, ◌∙◌}
use native.Mathlib.Omega.{arith}
use Rattle.capture.specs.Fields.{header_size, descriptor}
use Rattle.capture.proofs.descriptors_start.Goals as goal

pub returns : goal.returns
unfolding descriptor
returns c = omega (arith, c.header_size.ensures ∙ ap header_size c.version_of.ensures)
