-- A refusal of the reading is the scan's, or 60 because the list has no room.
use Prim.Native.Nat.{ℕ}
use native.Mathlib.Omega.{arith}
use mathlib.Core.Path.{◌≡◌, refl, ◌∙◌, ap}
use mathlib.Core.Logic.{◌⊎◌, inl, inr}
use mathlib.Core.List.{List}
use mathlib.Core.Bool.{false}
use Rattle.words.specs.Refusals.{Verdict, refused, unless}
use Rattle.words.specs.declared.Refusal.{Refusal}
use Rattle.tables.specs.declared.Strictness.{Strictness}
use Rattle.words.specs.Rooms.{has_room}
use Rattle.processors.specs.Listing.{processors}
use Rattle.words.proofs.Choices.{if_cases}
use Rattle.reading.specs.Scan.{scan}
use Rattle.reading.specs.Reading.{without_map, answered, madt_found, reading_of}
use Rattle.reading.specs.declared.Reading.{Reading}
use Rattle.std.specs.Prelude.{Result, Ok, Err}

same_refusal : {q r : Refusal} → ◌≡◌ {A = Result ℕ Refusal} (Err q) (Err r) → q ≡ r
same_refusal e = cc

read_refused : {n : ℕ} {r : Refusal} {X : Type 0} → ◌≡◌ {A = Result ℕ Refusal} (Ok n) (Err r) → X
read_refused e = absurd (let o : ◌≡◌ {A = ℕ} 0 1 = cc in omega arith)

-- the scan refused; or it did not, and the list has no room
abbrev pub Why : Strictness → List ℕ → List ℕ → Refusal → Type 0
Why strictness capture list r =
    ((scan strictness capture).verdict ≡ Err r)
    ⊎ (((scan strictness capture).verdict ≡ Ok tt) × (refused 60 0 ≡ r)
    × (has_room (processors (madt_found strictness capture)) list ≡ false))

pub why_refused : (strictness : Strictness) (capture list : List ℕ) (r : Refusal) → (reading_of strictness capture list).answer ≡ Err r → Why strictness capture list r
unfolding reading_of unless without_map answered
why_refused strictness capture list r = go (scan strictness capture).verdict refl
  where
    go : (v : Verdict) → (scan strictness capture).verdict ≡ v → (unless without_map v (answered (madt_found strictness capture) (scan strictness capture).map list)).answer ≡ Err r → Why strictness capture list r
    go (Err q) e = λ h. inl (e ∙ ap Err (same_refusal h))
    go (Ok tt) e =
        if_cases (λ (x : Reading). x.answer ≡ Err r → Why strictness capture list r) _ _ _
        (λ room h. read_refused h)
        (λ room h. inr (e, same_refusal h, room))
