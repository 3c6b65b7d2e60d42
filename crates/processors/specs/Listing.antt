-- Document 01, "What comes back": "The processor list is lent as 32-bit numbers: UID and physical ID of each enabled CORE, in
-- table order, and the count; entries past 2 × count stay."
use Rattle.std.specs.Prelude.{ℕ, List, [], ◌∷◌, Result, Ok, Err, map, length}
use Rattle.words.specs.Choice.{if}
use Rattle.words.specs.Rooms.{has_room}
use Rattle.words.specs.declared.NoRoom.{NoRoom}
use Rattle.kinds.specs.Makers.{core_of}
use Rattle.kinds.specs.declared.makers.Core.{Core}
use Rattle.madt.specs.Pieces.{Whole, pieces, structures}
use Rattle.madt.specs.Contents.{enabled_cores}
use Rattle.processors.specs.declared.Processor.{Processor}

-- "each enabled CORE, in table order", of the MADT with some bytes
abbrev pub cores_of : List ℕ → List Whole
cores_of table = enabled_cores (structures (pieces table 44))

-- the processor that a CORE stands for
abbrev pub ids_of : Core → Processor
ids_of core = record { uid = core.uid; id = core.id }

-- the processors that some CORE stand for
abbrev pub listed : List Whole → List Processor
listed cores = map (λ x. ids_of (core_of x.bytes)) cores

-- "as 32-bit numbers: UID and physical ID of each"
unfoldable pub numbers_of : List Processor → List ℕ
numbers_of [] = []
numbers_of (p ∷ ps) = p.uid ∷ p.id ∷ numbers_of ps

-- the processor list of the MADT with some bytes, "and the count"
unfoldable pub processors : List ℕ → List ℕ
processors table = numbers_of (listed (cores_of table))

unfoldable pub count : List ℕ → ℕ
count table = length (cores_of table)

-- what comes of filling a list with the entries of some processors: how many these are, or that it has no room
unfoldable pub filling : {A : Type 0} → List A → ℕ → List A → Result ℕ NoRoom
filling entries processors list = if (has_room entries list) (Ok processors) (Err (record {}))
