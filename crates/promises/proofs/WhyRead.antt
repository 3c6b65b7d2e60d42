-- A reading that answers: the capture is accepted, the answer counts its processors, the map is the scan's, and the list was long enough
-- and has the processors in front.
use Prim.Native.Nat.{ℕ}
use native.Mathlib.Omega.{arith}
use mathlib.Core.Bool.{Bool, true, false}
use mathlib.Core.List.{List}
use mathlib.Core.Path.{◌≡◌, refl, sym, ap, ◌∙◌}
use Rattle.words.specs.declared.Refusal.{Refusal}
use Rattle.words.proofs.Choices.{yes_if}
use Rattle.words.proofs.Verdicts.{unless-refused, unless_sound}
use Rattle.tables.specs.declared.Strictness.{Strictness}
use Rattle.words.specs.Rooms.{has_room, written, filled}
use Rattle.processors.specs.Listing.{processors, count}
use Rattle.reading.specs.Scan.{scan}
use Rattle.reading.specs.Reading.{without_map, madt_found, reading_of, list_after}
use Rattle.reading.specs.declared.Reading.{Reading}
use Rattle.reading.proofs.Laws.{answered_read, answered_60}
use Rattle.promises.specs.Captures.{Accepted}
use Rattle.std.specs.Prelude.{Result, Ok, Err}
use Rattle.words.specs.Refusals.{Verdict}

refused_read : {refusal : Refusal} {n : ℕ} {X : Type 0} → ◌≡◌ {A = Result ℕ Refusal} (Err refusal) (Ok n) → X
refused_read e = absurd (let o : ◌≡◌ {A = ℕ} 0 1 = cc in omega arith)

same_count : {a b : ℕ} → ◌≡◌ {A = Result ℕ Refusal} (Ok a) (Ok b) → a ≡ b
same_count e = cc

-- what it tells
pub record Why (strictness : Strictness) (capture list : List ℕ) (n : ℕ) : Type 0 where
  pub accepted : Accepted strictness capture
  pub counted : count (madt_found strictness capture) ≡ n
  pub map : (reading_of strictness capture list).map ≡ (scan strictness capture).map
  pub after : list_after strictness capture list ≡ written (processors (madt_found strictness capture)) list

pub why_read : (strictness : Strictness) (capture list : List ℕ) (n : ℕ) → (reading_of strictness capture list).answer ≡ Ok n → Why strictness capture list n
unfolding reading_of list_after filled without_map
why_read strictness capture list n h = by_verdict (scan strictness capture).verdict refl
  where
    table : List ℕ
    table = madt_found strictness capture

    answer_of : Reading → Result ℕ Refusal
    answer_of r = r.answer

    by_room : Accepted strictness capture → (b : Bool) → has_room (processors table) list ≡ b → Why strictness capture list n
    by_room accepted true room =
        let read = unless_sound without_map _ _ accepted ∙ answered_read table (scan strictness capture).map list room in
        record {
          accepted = accepted;
          counted = same_count (ap answer_of (sym read) ∙ h);
          map = ap (λ (r : Reading). r.map) read;
          after = unless_sound _ _ _ accepted ∙ yes_if _ _ _ room;
        }
    by_room accepted false short =
        refused_read (ap answer_of (sym (unless_sound without_map _ _ accepted ∙ answered_60 table (scan strictness capture).map list short)) ∙ h)

    by_verdict : (v : Verdict) → (scan strictness capture).verdict ≡ v → Why strictness capture list n
    by_verdict (Ok tt) e = by_room e (has_room (processors table) list) refl
    by_verdict (Err r) e = refused_read (ap answer_of (sym (unless-refused without_map _ _ e)) ∙ h)
