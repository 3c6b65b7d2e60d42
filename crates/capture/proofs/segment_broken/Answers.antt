-- `capture::segment_broken` is refusal 6 of one segment, by its descriptor and the one before it.
use Rattle.capture.proofs.segment_broken.Goals as goal

pub returns : goal.returns
returns c = cc
