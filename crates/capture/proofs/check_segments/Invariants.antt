-- `capture::check_segments` names the first broken segment.
use Rattle.std.proofs.Common.{◌≡◌, ℕ, ◌+◌, ◌-◌}
use Rattle.words.specs.Lists.{first, numbers_from}
use Rattle.words.specs.Refusals.{refused}
use Rattle.words.proofs.Searches.{Searching}
use Rattle.capture.specs.Fields.{segment_count, descriptor, segments}
use Rattle.capture.specs.Rules.{end_before, segment_broken}
use Rattle.capture.proofs.check_segments.Given as goal
use Rattle.std.specs.Prelude.{Ok, Err}

abbrev pub invariant-loop-i : goal.invariant-loop-i
invariant-loop-i l =
    (l.before.address + l.before.length ≡ end_before l.capture l.i)
    × Searching (segment_broken l.capture) (λ (k : ℕ). Err (refused 6 (descriptor l.capture k))) (Ok (tt {0})) (first (segment_broken l.capture) (λ (k : ℕ). Err (refused 6 (descriptor l.capture k))) (Ok tt) (segments l.capture)) (numbers_from l.i (segment_count l.capture - l.i))
