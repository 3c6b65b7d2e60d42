-- `reading::read_by` scans, and fills the list only where it answers.
use mathlib.Core.Path.{sym, ◌∙◌}
use Rattle.words.proofs.Verdicts.{unless-refused, unless_sound}
use Rattle.reading.specs.Reading.{reading_of, list_after}
use Rattle.reading.proofs.Scanned.{scan_err, scan_ok, scan_map, scan_madt}
use Rattle.reading.proofs.read_by.Goals as goal

pub returns-in-Err : goal.returns-in-Err
unfolding reading_of list_after
returns-in-Err c =
    let refused = scan_err _ _ c.scan_noting.ensures.scan_value c.in-Err.is in
    record { value = c.without_map.ensures ∙ sym (unless-refused _ _ _ refused); list_after = sym (unless-refused _ _ _ refused) }

pub returns-in-Ok : goal.returns-in-Ok
unfolding reading_of list_after
returns-in-Ok c =
    let e = c.scan_noting.ensures.scan_value in
    let found = c.in-Ok.is in
    let a = c.args in
    record {
      value = rw (unless_sound _ _ _ (scan_ok a.strictness a.capture.now e found), scan_map a.strictness a.capture.now e found, scan_madt a.strictness a.capture.now e found, sym c.madt_bytes-table.ensures) c.answer_list.ensures.value;
      list_after = rw (unless_sound _ _ _ (scan_ok a.strictness a.capture.now e found), scan_madt a.strictness a.capture.now e found, sym c.madt_bytes-table.ensures) c.answer_list.ensures.list_after;
    }
