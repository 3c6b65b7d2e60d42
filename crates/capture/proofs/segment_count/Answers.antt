-- `capture::segment_count` is the capture's segment count.
use Rattle.capture.specs.Fields.{segment_count}
use borrow.Author.Rules.{rules}
use Rattle.capture.proofs.segment_count.Goals as goal

pub returns : goal.returns
unfolding segment_count
returns c = search rules
