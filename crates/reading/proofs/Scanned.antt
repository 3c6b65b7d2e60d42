-- What it tells that a capture was accepted: its tables were found, the walk of its MADT refused nothing, no rule after the
-- walk is broken, and its map is the walk's.
use Prim.Native.Nat.{ℕ}
use mathlib.Core.Bool.{false}
use mathlib.Core.Path.{◌≡◌, refl, sym, ◌∙◌, ap}
use mathlib.Core.List.{List, ◌++◌}
use Rattle.words.specs.Refusals.{Verdict, first_refusal}
use Rattle.words.specs.declared.Refusal.{Refusal}
use Rattle.words.proofs.Verdicts.{unless-told, unless_sound, both_sound, joined_kept}
use Rattle.tables.specs.Survey.{tables_of, survey_rules, survey}
use Rattle.tables.specs.declared.Strictness.{Strictness}
use Rattle.tables.specs.declared.Tables.{Tables}
use Rattle.lines.specs.Rules.{too_many, first_broken}
use Rattle.madt.specs.Walk.{walk_rules}
use Rattle.madt.proofs.Accepted.{walk_verdict}
use Rattle.reading.specs.declared.Scan.{Scan}
use Rattle.reading.specs.declared.Accepted.{Accepted}
use Rattle.reading.specs.Reading.{madt_found}
use Rattle.reading.specs.Scan.{madt_bytes, walk_of, turned_down, madt_rules, line_rules, all_rules, accepted, scan}
use Rattle.reading.specs.AsAnswered.{scan_of}
use Rattle.reading.proofs.Laws.{map_judged, later_rules, after_walk_lem, in_two, scan_found}
use Rattle.std.specs.Prelude.{Result, Ok, Err}

-- the verdict of a scan is the first refusal of its rules
abbrev verdict_of : Scan → Verdict
verdict_of s = s.verdict

pub scan-verdict : (strictness : Strictness) (capture : List ℕ) → (scan strictness capture).verdict ≡ first_refusal (all_rules strictness capture)
unfolding scan turned_down accepted
scan-verdict strictness capture = unless-told turned_down verdict_of (λ r. refl) _ _ refl

-- and where tables were found, of those after them
pub found_verdict : (strictness : Strictness) (capture : List ℕ) {t : Tables} → survey strictness capture ≡ Ok t
    → (scan strictness capture).verdict ≡ first_refusal (walk_rules (madt_bytes capture t.madt) t.madt.place ++ later_rules capture t)
unfolding turned_down accepted
found_verdict strictness capture {t} h =
    ap verdict_of (scan_found strictness capture h) ∙ unless-told turned_down verdict_of (λ r. refl) _ _ refl ∙ ap first_refusal (after_walk_lem capture t)

pub record Scanned (strictness : Strictness) (capture : List ℕ) : Type 0 where
  pub t : Tables
  pub tables : survey strictness capture ≡ Ok t
  pub walk : (walk_of capture t).verdict ≡ Ok tt
  pub rules : first_refusal (later_rules capture t) ≡ Ok tt
  pub map : (scan strictness capture).map ≡ (walk_of capture t).found.map
  pub madt : (scan strictness capture).madt ≡ t.madt

pub scanned : (strictness : Strictness) (capture : List ℕ) → (scan strictness capture).verdict ≡ Ok tt → Scanned strictness capture
unfolding survey scan accepted
scanned strictness capture h =
    let t = tables_of capture in
    let sound = sym (scan-verdict strictness capture) ∙ h in
    let kept = joined_kept (survey_rules strictness capture) (madt_rules capture t ++ line_rules capture t) (rw (in_two strictness capture) at sound) in
    let after = joined_kept (walk_rules (madt_bytes capture t.madt) t.madt.place) (later_rules capture t) (rw (after_walk_lem capture t) at kept.1) in
    let left = unless_sound turned_down _ (accepted t (walk_of capture t).found.map) sound in
    record {
      t = t;
      tables = unless_sound Err _ _ kept.0;
      walk = walk_verdict _ _ _ _ ∙ after.0;
      rules = after.1;
      map = ap (λ (s : Scan). s.map) left;
      madt = ap (λ (s : Scan). s.madt) left;
    }

-- ---- the scan as the inner functions answer it
module _ (strictness : Strictness) (capture : List ℕ) {answer : Result Accepted Refusal} (e : scan_of answer ≡ scan strictness capture) where
  -- refused
  pub scan_err : {refusal : Refusal} → answer ≡ Err refusal → (scan strictness capture).verdict ≡ Err refusal
  unfolding scan_of turned_down
  scan_err h = ap verdict_of (sym e ∙ ap scan_of h)

  -- or found
  module _ {found : Accepted} (h : answer ≡ Ok found) where
    pub scan_ok : (scan strictness capture).verdict ≡ Ok tt
    unfolding scan_of
    scan_ok = ap verdict_of (sym e ∙ ap scan_of h)

    pub scan_map : (scan strictness capture).map ≡ found.map
    unfolding scan_of
    scan_map = ap (λ (s : Scan). s.map) (sym e ∙ ap scan_of h)

    pub scan_madt : madt_found strictness capture ≡ madt_bytes capture found.madt
    unfolding madt_found scan_of
    scan_madt = ap (λ (s : Scan). madt_bytes capture s.madt) (sym e ∙ ap scan_of h)

-- the MADT is the one that was found
pub found_madt : (strictness : Strictness) (capture : List ℕ) {t : Tables} → survey strictness capture ≡ Ok t
    → (scan strictness capture).verdict ≡ Ok tt → madt_found strictness capture ≡ madt_bytes capture t.madt
unfolding madt_found turned_down accepted
found_madt strictness capture {t} h sound =
    let kept = sym (unless-told turned_down verdict_of (λ r. refl) _ (accepted t (walk_of capture t).found.map) refl) ∙ sym (ap verdict_of (scan_found strictness capture h)) ∙ sound in
    ap (λ (s : Scan). madt_bytes capture s.madt) (scan_found strictness capture h ∙ unless_sound turned_down _ _ kept)

-- where no rule after the walk is broken, the map keeps its rules, if no kind has too many
pub rules_kept : (capture : List ℕ) (t : Tables) → let found = (walk_of capture t).found in first_refusal (later_rules capture t) ≡ Ok tt → too_many found.map ≡ false
    → first_broken found.map found.places t.madt.place t.fadt.place ≡ Ok tt
unfolding first_refusal
rules_kept capture t h few = map_judged _ _ _ _ few ∙ (both_sound _ _ (both_sound _ _ h).1).1
