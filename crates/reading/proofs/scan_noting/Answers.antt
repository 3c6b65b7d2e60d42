-- `reading::scan_noting` gives the refusals 1 to 30 first.
use Rattle.std.proofs.Common.{rules, ◌≡◌, sym, ◌∙◌}
use Rattle.std.specs.Prelude.{Ok, Err}
use Rattle.reading.specs.AsAnswered.{scan_of}
use Rattle.reading.proofs.Laws.{scan-refused, scan_found}
use Rattle.reading.proofs.scan_noting.Goals as goal

pub returns-in_err-t-clause-scan_value : goal.returns-in_err-t-clause-scan_value
unfolding scan_of
returns-in_err-t-clause-scan_value c =
    let told : c.survey_capture.result ≡ Err c.in_err-t.field-0.0 = search rules in
    let r : c.from_residual.result ≡ Err c.in_err-t.field-0.0 = search rules in
    rw r (sym (scan-refused _ _ (sym c.survey_capture.ensures ∙ told)))

pub returns-clause-scan_value : goal.returns-clause-scan_value
returns-clause-scan_value c =
    let told : c.survey_capture.result ≡ Ok c.in_ok-t.t = search rules in
    c.scan_tables.ensures.scan_value ∙ sym (scan_found _ _ (sym c.survey_capture.ensures ∙ told))
