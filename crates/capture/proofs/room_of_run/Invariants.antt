-- `capture::room_of_run` goes along the run, as far as each segment starts at the end of the one before it.
use Rattle.std.proofs.Common.{◌≡◌, ℕ, ◌+◌, ◌*◌, ◌≤◌, ◌<◌, List, drop}
use Rattle.capture.specs.Fields.{segment_count, descriptors, segment_end}
use Rattle.capture.proofs.Runs.{Along}
use Rattle.capture.proofs.room_of_run.Given as goal

abbrev pub invariant-loop-descriptor : goal.invariant-loop-descriptor
invariant-loop-descriptor l =
    (l.sum ≤ 4294967296 * (l.descriptor-index + 1))
    × ((capture : List ℕ) (i : ℕ) → i < segment_count capture → l.later ≡ drop (i + 1) (descriptors capture)
    → l.address + l.room ≡ segment_end capture i → Along capture l.address i l.sum l.descriptor-index)
