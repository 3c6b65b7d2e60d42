-- Document 01, "MADT structures" and refusal 31: structures that say their own length, in a table given by its own bytes. The
-- SRAT's and the PPTT's "are walked as the MADT's are".
use Rattle.std.specs.Prelude.{ℕ, ◌+◌, Bool, ◌||◌, List, leb, ltb, length}
use Rattle.words.specs.Bytes.{byte_at}
use Rattle.words.specs.Choice.{if}
use Rattle.tables.specs.declared.Step.{Step}
use Rattle.tables.specs.declared.Step.TheVariants.{End, Structure, Broken}

-- "Type at 0, length at 1"
unfoldable pub structure_length : List ℕ → ℕ → ℕ
structure_length table at = byte_at table (at + 1)

-- 31: "only 1 byte left, length under 2, or past the end"
unfoldable pub broken_at : List ℕ → ℕ → Bool
broken_at table at =
    ltb (length table) (at + 2) || ltb (structure_length table at) 2 || ltb (length table) (at + structure_length table at)

-- what stands at an offset: the table's end, a structure of some length, or one that breaks 31
unfoldable pub step_at : List ℕ → ℕ → Step
step_at table at = if (leb (length table) at) End (if (broken_at table at) Broken (Structure (structure_length table at)))
