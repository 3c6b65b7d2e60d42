-- `reading::entries::yasmirand_read` scans, and fills the list of bytes only where it answers.
use mathlib.Core.Path.{ap, sym, ◌∙◌}
use Rattle.words.proofs.Verdicts.{unless-refused, unless_sound}
use Rattle.reading.specs.Entries.{read_code, read_result, bytes_after}
use Rattle.reading.proofs.Scanned.{scan_err, scan_ok, scan_madt}
use Rattle.reading.proofs.entries.yasmirand_read.Goals as goal

pub returns-in-Err : goal.returns-in-Err
unfolding read_result bytes_after
returns-in-Err c =
    let refused = scan_err _ _ c.scan_strictly.ensures.scan_value c.in-Err.is in
    record { value = c.refusal_code.ensures ∙ sym (unless-refused _ _ _ refused); list_after = sym (unless-refused _ _ _ refused) }

pub returns-in-Ok : goal.returns-in-Ok
unfolding read_result bytes_after
returns-in-Ok c =
    let e = c.scan_strictly.ensures.scan_value in
    let found = c.in-Ok.is in
    record {
      value = rw (unless_sound _ _ _ (scan_ok _ _ e found), scan_madt _ _ e found, sym c.madt_bytes-table.ensures) (c.read_code.ensures ∙ ap read_code c.answer_bytes.ensures.value);
      list_after = rw (unless_sound _ _ _ (scan_ok _ _ e found), scan_madt _ _ e found, sym c.madt_bytes-table.ensures) c.answer_bytes.ensures.list_after;
    }
