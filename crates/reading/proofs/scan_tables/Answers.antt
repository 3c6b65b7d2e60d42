-- `reading::scan_tables` walks the MADT, then asks 39 to 54 with the processors that the walk has noted.
use Rattle.std.proofs.Common.{rules, ◌≡◌, ℕ, List, sym, ap, ◌∙◌}
use Rattle.std.specs.Prelude.{Result, Ok, Err}
use Rattle.words.specs.Refusals.{first_refusal}
use Rattle.words.specs.declared.Refusal.{Refusal}
use Rattle.words.proofs.Verdicts.{unless-refused, unless_sound}
use Rattle.capture.specs.Pairs.{pins_of, pairs_of}
use Rattle.capture.specs.declared.pairs.Pair.{Pair}
use Rattle.tables.specs.declared.Tables.{Tables}
use Rattle.lines.specs.Rules.{too_many}
use Rattle.madt.specs.AsAnswered.{walk}
use Rattle.madt.specs.declared.Found.{Found}
use Rattle.madt.proofs.Accepted.{walk-refused, walk_found}
use Rattle.processors.specs.Listing.{count}
use Rattle.processors.proofs.ReadAgain.{enabled_count, noted-standing}
use Rattle.map_promises.proofs.WalkKeepsBooks.{walk_few}
use Rattle.reading.specs.Scan.{madt_bytes, walk_of, accepted}
use Rattle.reading.specs.AsAnswered.{scan_of}
use Rattle.reading.proofs.Laws.{later_of, later_rules, walk_refused, walk_sound}
use Rattle.reading.proofs.scan_tables.Goals as goal

-- what the walk answers, with the pairs of the capture
module _ (capture : List ℕ) (t : Tables) {answer : Result Found Refusal} {pairs : List Pair}
    (w : answer ≡ walk (madt_bytes capture t.madt) t.madt.place t.sci (pins_of pairs)) (p : pairs ≡ pairs_of capture) where
  refused : {refusal : Refusal} → answer ≡ Err refusal → (walk_of capture t).verdict ≡ Err refusal
  refused h = walk-refused _ _ _ _ (rw p at (sym w ∙ h))

  found : {found : Found} → answer ≡ Ok found → ((walk_of capture t).verdict ≡ Ok tt) × ((walk_of capture t).found ≡ found)
  found h = walk_found _ _ _ _ (rw p at (sym w ∙ h))

-- what the rules behind it say
later : (capture : List ℕ) (t : Tables) {table : List ℕ} {found : Found} → table ≡ madt_bytes capture t.madt → (walk_of capture t).found ≡ found
    → first_refusal (later_rules capture t) ≡ first_refusal (later_of table t found)
later capture t b w = rw (b, w)

pub returns-in-Err-clause-scan_value : goal.returns-in-Err-clause-scan_value
unfolding madt_bytes scan_of
returns-in-Err-clause-scan_value c =
    sym (walk_refused _ _ _ (refused c.args.capture.now c.args.t c.walk_madt-walked.ensures.value c.pairs_of.ensures c.in-Err.is))

pub invariant_of-rules_after_walk : goal.invariant_of-rules_after_walk
unfolding madt_bytes
invariant_of-rules_after_walk c =
    let w = found c.args.capture.now c.args.t c.walk_madt-walked.ensures.value c.pairs_of.ensures {found = c.in-Ok.found} (search rules) in
    record { standing = rw c.madt_bytes-table.ensures (noted-standing _ _ _ _ w.0 c.args.room.now c.told-room (ap (λ (f : Found). f.enabled) (sym w.1)) c.walk_madt-walked.ensures.offsets_after c.noted-offsets.ensures) }

pub rules_after_walk-requires : goal.rules_after_walk-requires
unfolding madt_bytes
rules_after_walk-requires c =
    let w = found c.args.capture.now c.args.t c.walk_madt-walked.ensures.value c.pairs_of.ensures {found = c.in-Ok.found} (search rules) in
    record {
      enabled_value = ap (λ (f : Found). f.enabled) (sym w.1) ∙ enabled_count _ _ _ _ w.0 ∙ ap count (sym c.madt_bytes-table.ensures);
      map_value = ap (λ (f : Found). too_many f.map) (sym w.1) ∙ walk_few _ _ _ _ w.0;
    }

pub returns-in_err-rules_after_walk-clause-scan_value : goal.returns-in_err-rules_after_walk-clause-scan_value
unfolding madt_bytes scan_of
returns-in_err-rules_after_walk-clause-scan_value c =
    let w = found c.args.capture.now c.args.t c.walk_madt-walked.ensures.value c.pairs_of.ensures {found = c.in-Ok.found} (search rules) in
    let told : c.rules_after_walk.result ≡ Err c.in_err-rules_after_walk.field-0.0 = search rules in
    let r : c.from_residual.result ≡ Err c.in_err-rules_after_walk.field-0.0 = search rules in
    rw r (sym (walk_sound c.args.capture.now c.args.t _ w.0 ∙ unless-refused _ _ _ (later c.args.capture.now c.args.t c.madt_bytes-table.ensures w.1 ∙ sym c.rules_after_walk.ensures ∙ told)))

pub returns-clause-scan_value : goal.returns-clause-scan_value
unfolding madt_bytes scan_of accepted
returns-clause-scan_value c =
    let w = found c.args.capture.now c.args.t c.walk_madt-walked.ensures.value c.pairs_of.ensures {found = c.in-Ok.found} (search rules) in
    let told : c.rules_after_walk.result ≡ Ok tt = search rules in
    ap (accepted c.args.t) c.copied.ensures
    ∙ ap (λ (f : Found). accepted c.args.t f.map) (sym w.1)
    ∙ sym (walk_sound c.args.capture.now c.args.t _ w.0 ∙ unless_sound _ _ _ (later c.args.capture.now c.args.t c.madt_bytes-table.ensures w.1 ∙ sym c.rules_after_walk.ensures ∙ told))
