-- `reading::entries::yasmirand_trace` is the trace of the capture's map as a number, or the refusal.
use mathlib.Core.Path.{ap, sym, ◌∙◌}
use Rattle.std.specs.Prelude.{Ok}
use Rattle.words.proofs.Verdicts.{unless-refused, unless_sound}
use Rattle.lines.specs.Answers.{trace_code}
use Rattle.lines.specs.declared.Trace.{Trace}
use Rattle.reading.specs.Entries.{trace_result}
use Rattle.reading.proofs.Scanned.{scan_err, scan_ok, scan_map}
use Rattle.reading.proofs.AcceptedKeepsRules.{accepted_trace}
use Rattle.reading.proofs.entries.yasmirand_trace.Goals as goal

pub returns-in-Err : goal.returns-in-Err
unfolding trace_result
returns-in-Err c = c.refusal_code.ensures ∙ sym (unless-refused _ _ _ (scan_err _ _ c.scan_strictly.ensures.scan_value c.in-Err.is))

pub returns-in-Ok : goal.returns-in-Ok
unfolding trace_result
returns-in-Ok c =
    let e = c.scan_strictly.ensures.scan_value in
    let sound = scan_ok _ _ e c.in-Ok.is in
    rw (unless_sound _ _ _ sound, accepted_trace _ _ sound c.args.vector c.args.number, scan_map _ _ e c.in-Ok.is) (c.trace_code.ensures ∙ ap (λ (a : Trace). trace_code (Ok a)) (rw c.copied.ensures at c.traced.ensures))
