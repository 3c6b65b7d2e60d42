-- W-201 of document 02: "A board has either HT or EIO", and 34 stands "after the walk and before 39, at the first structure that gives the
-- board both kinds or a second HT". proofs/OneKind.antt has a theorem for it.
use Rattle.std.specs.Prelude.{ℕ, ◌+◌, ◌≤◌, List, [], ◌∷◌, ◌++◌, ◌⊎◌, ◌≡◌, Ok, Err}
use Rattle.words.specs.Bytes.{byte_at}
use Rattle.words.specs.Refusals.{refused_with, first_refusal}
use Rattle.tables.specs.Survey.{survey_rules}
use Rattle.tables.specs.declared.Strictness.{Strictness}
use Rattle.madt.specs.Pieces.{Whole, pieces, structures}
use Rattle.madt.specs.Contents.{how_many}
use Rattle.madt.specs.Walk.{rules_in_turn}
use Rattle.map_promises.specs.Clashing.{OnePlace, Exactly}
use Rattle.reading.specs.Scan.{scan}
use Rattle.reading.specs.Reading.{reading_of}
use Rattle.promises.specs.Processors.{madt_of}
use Rattle.promises.specs.Readings.{madt_place}

-- the structures of a capture's MADT
abbrev pub structures_of : List ℕ → List Whole
structures_of capture = structures (pieces (madt_of capture) 44)

-- a structure gives the board both kinds, or a second HT: it is an HT, and an HT or an EIO stands before it; or an EIO, and an HT does
abbrev pub GivesBoth : List Whole → Whole → Type 0
GivesBoth before x =
    ((byte_at x.bytes 0 ≡ 19) × ((1 ≤ how_many 19 before) ⊎ (1 ≤ how_many 20 before)))
    ⊎ ((byte_at x.bytes 0 ≡ 20) × (1 ≤ how_many 19 before))

-- one of some structures does
pub record Mixed (all : List Whole) : Type 0 where
  pub before : List Whole
  pub x : Whole
  pub later : List Whole
  pub stands : all ≡ before ++ (x ∷ later)
  pub both : GivesBoth before x

-- none of those before it does, and it stands at p; the MADT stands at `base`
pub record NamesMixed (base : ℕ) (all : List Whole) (p : ℕ) : Type 0 where
  pub mixed : Mixed all
  pub first : (before later : List Whole) (y : Whole) → mixed.before ≡ before ++ (y ∷ later) → GivesBoth before y → ⊥
  pub at : p ≡ base + mixed.x.at

-- no rule before 34 is broken: 1 to 30, and those of the structures in turn
abbrev pub KeepsTo38InTurn : Strictness → List ℕ → Type 0
KeepsTo38InTurn strictness capture =
    first_refusal (survey_rules strictness capture ++ rules_in_turn (madt_place capture) [] (pieces (madt_of capture) 44)) ≡ Ok tt

-- and the board has both kinds, or two HT
abbrev pub Breaks34 : Strictness → List ℕ → Type 0
Breaks34 strictness capture = KeepsTo38InTurn strictness capture × Mixed (structures_of capture)

-- 34 is told exactly then, at the first such structure and with no second place: of what the capture is refused with, and of the reading's
-- answer, whatever list it is lent
pub record ThirtyFourExactly (strictness : Strictness) (capture : List ℕ) : Type 0 where
  pub scanned : Exactly (λ p q. (scan strictness capture).verdict ≡ Err (refused_with 34 p q)) (Breaks34 strictness capture)
      (OnePlace (NamesMixed (madt_place capture) (structures_of capture)))
  pub read : (list : List ℕ)
      → Exactly (λ p q. (reading_of strictness capture list).answer ≡ Err (refused_with 34 p q)) (Breaks34 strictness capture)
      (OnePlace (NamesMixed (madt_place capture) (structures_of capture)))
