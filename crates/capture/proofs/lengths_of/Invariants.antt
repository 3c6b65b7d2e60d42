-- `capture::lengths_of` adds the lengths up. Each is below 2^32, so that the sum fits.
use Rattle.std.proofs.Common.{◌≡◌}
use Rattle.capture.specs.Fields.{lengths}
use Rattle.capture.proofs.lengths_of.Given as goal

abbrev pub invariant-loop-descriptor : goal.invariant-loop-descriptor
invariant-loop-descriptor l = l.sum ≡ lengths l.capture l.descriptor-index
