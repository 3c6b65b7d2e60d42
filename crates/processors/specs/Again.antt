-- A shortcut of the program, and no line of document 01: the walk notes where the enabled CORE stand, and their IDs are read from the table
-- again. That no answer changes by it is proved in proofs/ReadAgain.
use Rattle.std.specs.Prelude.{ℕ, ◌+◌, List, Option, Some, None, map, ◌≡◌, get_or}
use Rattle.words.specs.Bytes.{number_at}
use Rattle.madt.specs.Contents.{offsets_of}
use Rattle.processors.specs.Listing.{cores_of, listed}
use Rattle.processors.specs.Repeats.{first_repeating}
use Rattle.processors.specs.declared.Processor.{Processor}

-- the processor whose CORE stands at an offset of a table: "UID 3, physical ID 7"
unfoldable pub processor_at : List ℕ → ℕ → Processor
processor_at table at = record { uid = number_at 4 table (at + 3); id = number_at 4 table (at + 7) }

abbrev pub processors_at : List ℕ → List ℕ → List Processor
processors_at table offsets = map (processor_at table) offsets

-- the first offset whose processor shares an ID with one before it, if there is one
unfoldable pub repeat_at : List ℕ → List ℕ → Option ℕ
repeat_at table offsets = first_repeating (λ k. Some (get_or offsets k 0)) None (processors_at table offsets)

-- the enabled CORE of a table stand at some offsets, and read from there they are its processors
abbrev pub Standing : List ℕ → List ℕ → Type 0
Standing table offsets = (offsets ≡ offsets_of (cores_of table)) × (processors_at table offsets ≡ listed (cores_of table))
