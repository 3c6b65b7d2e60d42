-- `reading::scan_capture` is the scan, whatever it notes.
use Rattle.std.proofs.Common.{sym, ap, ◌∙◌}
use Rattle.reading.specs.AsAnswered.{scan_of}
use Rattle.reading.proofs.scan_capture.Goals as goal

pub returns-in-Err : goal.returns-in-Err
unfolding scan_of
returns-in-Err c = c.turn_down.ensures ∙ ap scan_of (sym c.in-Err.is) ∙ c.scan_noting.ensures.scan_value

pub returns-in-Ok : goal.returns-in-Ok
unfolding scan_of
returns-in-Ok c = ap scan_of (sym c.in-Ok.is) ∙ c.scan_noting.ensures.scan_value
