-- `capture::check` asks 5 before the segments' descriptors are read.
use Rattle.std.proofs.Common.{rules}
use Rattle.words.proofs.Verdicts.{rule_kept}
use Rattle.capture.proofs.Laws.{total_whole}
use Rattle.capture.proofs.check.Goals as goal

pub check_parts-requires : goal.check_parts-requires
check_parts-requires c = total_whole _ (rule_kept _ 5 0 (search rules))
