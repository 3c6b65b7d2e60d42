-- `capture::descriptors_end` is the place behind the last descriptor.
use native.Mathlib.Omega.{arith}
use Rattle.capture.specs.Fields.{version, descriptor, descriptors_end}
use Rattle.capture.proofs.Laws.{header_bounds}
use Rattle.capture.proofs.descriptors_end.Goals as goal

pub overflow_add-result : goal.overflow_add-result
unfolding descriptor
overflow_add-result c = omega (arith, c.descriptors_start.ensures, (header_bounds (version c.args.capture.now)).1)

pub returns : goal.returns
unfolding descriptors_end descriptor
returns c = omega (arith, c.descriptors_start.ensures, c.segment_count.ensures)
