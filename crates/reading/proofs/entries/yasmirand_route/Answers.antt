-- `reading::entries::yasmirand_route` is the route of the capture's map as a number, or the refusal.
use mathlib.Core.Path.{ap, sym, ◌∙◌}
use Rattle.std.specs.Prelude.{Ok}
use Rattle.words.proofs.Verdicts.{unless-refused, unless_sound}
use Rattle.lines.specs.Answers.{route_code}
use Rattle.lines.specs.declared.Route.{Route}
use Rattle.reading.specs.Entries.{route_result}
use Rattle.reading.proofs.Scanned.{scan_err, scan_ok, scan_map}
use Rattle.reading.proofs.AcceptedKeepsRules.{accepted_route}
use Rattle.reading.proofs.entries.yasmirand_route.Goals as goal

pub returns-in-Err : goal.returns-in-Err
unfolding route_result
returns-in-Err c = c.refusal_code.ensures ∙ sym (unless-refused _ _ _ (scan_err _ _ c.scan_strictly.ensures.scan_value c.in-Err.is))

pub returns-in-Ok : goal.returns-in-Ok
unfolding route_result
returns-in-Ok c =
    let e = c.scan_strictly.ensures.scan_value in
    let sound = scan_ok _ _ e c.in-Ok.is in
    rw (unless_sound _ _ _ sound, accepted_route _ _ sound c.args.number, scan_map _ _ e c.in-Ok.is) (c.route_code.ensures ∙ ap (λ (a : Route). route_code (Ok a)) c.arrival.ensures)
