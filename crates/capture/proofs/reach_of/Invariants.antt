-- `capture::reach_of` names the first segment that has the address. The place of each segment is the sum of what was passed.
use Rattle.std.proofs.Common.{◌≡◌, ◌+◌, ◌-◌, ◌*◌, ◌≤◌}
use Rattle.words.specs.Lists.{first, numbers_from}
use Rattle.words.proofs.Searches.{Searching}
use Rattle.capture.specs.Fields.{segment_count, has_address, segment_place, segments}
use Rattle.capture.specs.Reach.{reach_in, nowhere}
use Rattle.capture.proofs.reach_of.Given as goal

abbrev pub invariant-loop-i : goal.invariant-loop-i
invariant-loop-i l =
    (l.place ≡ segment_place l.capture l.i)
    × (l.place ≤ 65536 + 4294967296 * l.i)
    × Searching (has_address l.capture l.address) (reach_in l.capture l.address) nowhere (first (has_address l.capture l.address) (reach_in l.capture l.address) nowhere (segments l.capture)) (numbers_from l.i (segment_count l.capture - l.i))
