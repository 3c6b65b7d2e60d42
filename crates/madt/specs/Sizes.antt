-- A shortcut of the program, and no line of document 01: the length that a step finds, by which loops go from structure to
-- structure. That loops so go through the pieces of a table is proved in proofs/Pieces.
use Rattle.std.specs.Prelude.{ℕ, Option, Some, None}
use Rattle.tables.specs.declared.Step.{Step}
use Rattle.tables.specs.declared.Step.TheVariants.{End, Structure, Broken}

-- the length of the structure that a step finds, if it finds one
unfoldable pub size_of : Step → Option ℕ
size_of End = None
size_of Broken = None
size_of (Structure size) = Some size
