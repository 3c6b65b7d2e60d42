-- `capture::check_parts` gives the refusals of the segments first.
use Rattle.std.proofs.Common.{rules}
use Rattle.words.specs.Refusals.{unless}
use Rattle.words.proofs.Verdicts.{first-joined}
use Rattle.capture.proofs.check_parts.Goals as goal

pub returns-in_err-check_segments : goal.returns-in_err-check_segments
unfolding unless
returns-in_err-check_segments c = rw (first-joined _ _) search rules

pub returns : goal.returns
unfolding unless
returns c = rw (first-joined _ _) search rules
