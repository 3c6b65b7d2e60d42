-- Of what is told of bridges the walk takes what it needs for those of its MADT, and nothing else.
use Prim.Native.Nat.{ℕ}
use mathlib.Core.Path.{◌≡◌, refl, ap}
use mathlib.Core.Bool.{Bool, true, false}
use mathlib.Core.List.{List, [], ◌∷◌, map}
use Rattle.words.specs.Choice.{if}
use Rattle.words.specs.Lists.{those}
use Rattle.kinds.specs.Makers.{bio_of}
use Rattle.kinds.specs.declared.Bio.{Bio}
use Rattle.madt.specs.Pieces.{Whole, pieces, structures}
use Rattle.madt.specs.Rules.{is_type}
use Rattle.madt.specs.Contents.{of_type, made, bridge_of, map_of, found_in}
use Rattle.madt.specs.Walk.{walked}
use Rattle.map_promises.specs.Walks.{SamePins, OnlyItsBridges}

module _ (pins other : ℕ → ℕ) where
  -- a bridge of which both tell the same
  same_bridge : (s : List ℕ) → pins (bio_of s).node ≡ other (bio_of s).node → bridge_of pins s ≡ bridge_of other s
  unfolding bridge_of
  same_bridge s e = rw e

  same_made : (all : List Whole) → SamePins all pins other → made 22 (bridge_of pins) all ≡ made 22 (bridge_of other) all
  unfolding made of_type those if
  same_made [] h = refl
  same_made (x ∷ xs) h =
      go (is_type 22 x.bytes) refl
      (same_made xs (λ before later y e t. h (x ∷ before) later y (ap (λ (r : List Whole). x ∷ r) e) t))
    where
      go : (b : Bool) → is_type 22 x.bytes ≡ b → made 22 (bridge_of pins) xs ≡ made 22 (bridge_of other) xs
          → map (λ (y : Whole). bridge_of pins y.bytes) (if b (x ∷ of_type 22 xs) (of_type 22 xs))
          ≡ map (λ (y : Whole). bridge_of other y.bytes) (if b (x ∷ of_type 22 xs) (of_type 22 xs))
      go true t e = rw (same_bridge x.bytes (h [] xs x refl t)) (ap (λ (r : List Bio). bridge_of other x.bytes ∷ r) e)
      go false t e = e

-- THE PROMISE
pub only_its_bridges : (table : List ℕ) (base sci : ℕ) (pins other : ℕ → ℕ) → OnlyItsBridges table base sci pins other
unfolding walked found_in map_of
only_its_bridges table base sci pins other h = rw (same_made pins other (structures (pieces table 44)) h)
