-- Document 01, "MADT: structures from 44 to the end", and refusal 31: a table, given by its own bytes, cut into its structures.
use Rattle.std.specs.Prelude.{ℕ, zero, suc, ◌+◌, List, [], ◌∷◌, length}
use Rattle.words.specs.Bytes.{part_at}
use Rattle.tables.specs.Structures.{step_at}
use Rattle.tables.specs.declared.Step.{Step}
use Rattle.tables.specs.declared.Step.TheVariants.{End, Structure, Broken}

-- a structure by its offset and its own bytes, or the offset of one that breaks 31, which is the last piece
pub data Piece : Type 0 where
  whole : ℕ → List ℕ → Piece
  cut : ℕ → Piece

-- what the step at an offset cuts off, and the pieces behind a structure of some length
unfoldable pub piece_at : List ℕ → ℕ → Step → (ℕ → List Piece) → List Piece
piece_at table at End later = []
piece_at table at Broken later = cut at ∷ []
piece_at table at (Structure size) later = whole at (part_at table at size) ∷ later size

-- at most k pieces from an offset on
unfoldable pub pieces_from : ℕ → List ℕ → ℕ → List Piece
pieces_from zero table at = []
pieces_from (suc k) table at = piece_at table at (step_at table at) (λ size. pieces_from k table (at + size))

-- all pieces from an offset on: a table has no more of them than bytes
unfoldable pub pieces : List ℕ → ℕ → List Piece
pieces table at = pieces_from (length table) table at

-- a whole structure: its offset in the table, and its own bytes
pub record Whole : Type 0 where
  pub at : ℕ
  pub bytes : List ℕ

-- the whole structures before the first cut one
unfoldable pub structures : List Piece → List Whole
structures [] = []
structures (cut at ∷ pieces) = []
structures (whole at s ∷ pieces) = record { at = at; bytes = s } ∷ structures pieces
