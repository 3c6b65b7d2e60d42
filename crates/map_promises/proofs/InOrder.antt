-- The pieces of a table stand one behind the other, and inside the table.
use Prim.Native.Nat.{ℕ, zero, suc, ◌+◌, ◌<◌, ◌≤◌}
use native.Mathlib.Omega.{arith}
use mathlib.Core.Path.{◌≡◌, refl}
use mathlib.Core.List.{List, [], ◌∷◌}
use borrow.Author.Tests.{leb-false}
use lib.ListN.{length}
use Rattle.words.proofs.Choices.{passed}
use Rattle.tables.specs.Structures.{step_at}
use Rattle.tables.specs.declared.Step.{Step}
use Rattle.tables.specs.declared.Step.TheVariants.{End, Structure, Broken}
use Rattle.madt.specs.Pieces.{Piece, whole, cut, piece_at, pieces_from, pieces}
use Rattle.madt.proofs.Pieces.{step_inside}

-- every piece begins at `from` or behind it, behind those before it, and before `until`
abbrev pub InOrder : ℕ → ℕ → List Piece → Type 0
InOrder until from [] = from ≤ until
InOrder until from (cut at ∷ ps) = (from ≤ at) × (at < until)
InOrder until from (whole at s ∷ ps) = (from ≤ at) × (at < until) × InOrder until (suc at) ps

from_sooner : (until from to : ℕ) (ps : List Piece) → from ≤ to → InOrder until to ps → InOrder until from ps
from_sooner until from to [] l o = omega arith
from_sooner until from to (cut at ∷ ps) l o = (omega (arith, o.0), o.1)
from_sooner until from to (whole at s ∷ ps) l o = (omega (arith, o.0), o.1, o.2)

-- what breaks 31 begins before the table's end
broken_inside : (table : List ℕ) (at : ℕ) → step_at table at ≡ Broken → at < length table
unfolding step_at
broken_inside table at h = leb-false _ _ (passed _ _ _ _ h (λ e. let o : ◌≡◌ {A = ℕ} 0 1 = cc in omega arith)).0

module _ (table : List ℕ) (until : ℕ) (all : length table ≤ until) where
  in_order : (k from : ℕ) → from ≤ until → InOrder until from (pieces_from k table from)
  unfolding pieces_from piece_at
  in_order zero from l = l
  in_order (suc k) from l = go (step_at table from) refl (λ size m. in_order k (from + size) m)
    where
      go : (step : Step) → step_at table from ≡ step
          → ((size : ℕ) → from + size ≤ until → InOrder until (from + size) (pieces_from k table (from + size)))
          → InOrder until from (piece_at table from step (λ size. pieces_from k table (from + size)))
      go End e rest = l
      go Broken e rest = (omega arith, omega (arith, broken_inside table from e))
      go (Structure size) e rest =
          let i = step_inside table from size e in (
            omega arith,
            omega (arith, i.0),
            from_sooner until (suc from) (from + size) (pieces_from k table (from + size)) (omega (arith, i.1)) (rest size (omega (arith, i.2))),
          )

  pub pieces_in_order : (from : ℕ) → from ≤ until → InOrder until from (pieces table from)
  unfolding pieces
  pieces_in_order from l = in_order (length table) from l
