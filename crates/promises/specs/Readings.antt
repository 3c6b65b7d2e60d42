-- W-207 of document 02: "The ordinary reading shall take any revision of 1 or more. The map program and the C bench must keep the old
-- rule: give them a strict reading beside it. On revision 1 the two give equal answers." What is promised of the two beside each
-- other, and of 29; every other promise holds of both. Each statement stands alone; proofs/Readings.antt has a theorem for it.
use Rattle.std.specs.Prelude.{ℕ, ◌<◌, ◌≤◌, List, ◌⊎◌, ◌≡◌, Ok, Err}
use Rattle.words.specs.Refusals.{refused, refused_with, first_refusal}
use Rattle.words.specs.declared.Refusal.{Refusal}
use Rattle.tables.specs.Survey.{tables_of, rules_before_29}
use Rattle.tables.specs.Table.{revision}
use Rattle.tables.specs.declared.Strictness.{Strictness}
use Rattle.tables.specs.declared.Strictness.TheVariants.{Ordinary, Strict}
use Rattle.map_promises.specs.Clashing.{OnePlace, Exactly}
use Rattle.reading.specs.Scan.{scan}
use Rattle.reading.specs.Reading.{reading_of, list_after}
use Rattle.promises.specs.Captures.{Accepted}

-- where the MADT stands that a capture's tables name, and its revision; both mean something where no rule before 29 is broken
abbrev pub madt_place : List ℕ → ℕ
madt_place capture = (tables_of capture).madt.place

abbrev pub madt_revision : List ℕ → ℕ
madt_revision capture = revision capture (madt_place capture)

-- no rule before 29 is broken
abbrev pub KeepsTo28 : List ℕ → Type 0
KeepsTo28 capture = first_refusal (rules_before_29 capture) ≡ Ok tt

-- ---- the two beside each other
-- both find the same, or refuse the same; and whatever list is lent, answer, map and list afterwards are equal
pub record EqualAnswers (capture : List ℕ) : Type 0 where
  pub found : scan Ordinary capture ≡ scan Strict capture
  pub reading : (list : List ℕ) → reading_of Ordinary capture list ≡ reading_of Strict capture list
  pub list : (list : List ℕ) → list_after Ordinary capture list ≡ list_after Strict capture list

-- "On revision 1 the two give equal answers", refusals too
abbrev pub EqualOnRevision1 : List ℕ → Type 0
EqualOnRevision1 capture = madt_revision capture ≡ 1 → EqualAnswers capture

-- what the strict reading accepts, the ordinary one answers the same
abbrev pub StrictIsOrdinary : List ℕ → Type 0
StrictIsOrdinary capture = Accepted Strict capture → EqualAnswers capture

-- where they differ, the strict one refuses 29 at the MADT, since its revision is newer
pub record Differ (capture : List ℕ) : Type 0 where
  pub before : KeepsTo28 capture
  pub newer : 1 < madt_revision capture
  pub strict : (scan Strict capture).verdict ≡ Err (refused 29 (madt_place capture))

abbrev pub DifferBy29 : List ℕ → Type 0
DifferBy29 capture = EqualAnswers capture ⊎ Differ capture

-- 1 to 28 come first in both, and are told alike
abbrev pub AlikeTo28 : List ℕ → Type 0
AlikeTo28 capture =
    (r : Refusal) → r.number ≤ 28
    → ((scan Ordinary capture).verdict ≡ Err r → (scan Strict capture).verdict ≡ Err r)
    × ((scan Strict capture).verdict ≡ Err r → (scan Ordinary capture).verdict ≡ Err r)

-- ---- 29 by itself: "for revision 0 in the ordinary reading, for other than 1 in the strict one"
-- the revisions that each takes
abbrev pub Takes : Strictness → ℕ → Type 0
Takes Ordinary revision = 1 ≤ revision
Takes Strict revision = revision ≡ 1

abbrev pub Breaks29 : Strictness → List ℕ → Type 0
Breaks29 strictness capture = KeepsTo28 capture × (Takes strictness (madt_revision capture) → ⊥)

-- 29 is told exactly then, at the MADT: of what the capture is refused with, and of the reading's answer, whatever list it is lent
pub record TwentyNineExactly (strictness : Strictness) (capture : List ℕ) : Type 0 where
  pub scanned : Exactly (λ p q. (scan strictness capture).verdict ≡ Err (refused_with 29 p q)) (Breaks29 strictness capture)
      (OnePlace (λ p. p ≡ madt_place capture))
  pub read : (list : List ℕ)
      → Exactly (λ p q. (reading_of strictness capture list).answer ≡ Err (refused_with 29 p q)) (Breaks29 strictness capture)
      (OnePlace (λ p. p ≡ madt_place capture))
