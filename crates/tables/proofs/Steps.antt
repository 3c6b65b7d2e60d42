-- The stepper's answers, by the numbers that it looks at.
use mathlib.Core.List.{List}
use mathlib.Core.Path.{◌≡◌, refl}
use Prim.Native.Nat.{ℕ, ◌+◌, ◌≤◌, ◌<◌}
use lib.ListN.{length}
use borrow.Author.Tests.{le-leb, lt-leb, lt-ltb, le-ltb}
use Rattle.words.specs.Bytes.{byte_at}
use Rattle.words.proofs.Choices.{yes_if, no_if}
use Rattle.tables.specs.Structures.{structure_length, broken_at, step_at}
use Rattle.tables.specs.declared.Step.TheVariants.{End, Structure, Broken}

pub step_end : (table : List ℕ) (at : ℕ) → length table ≤ at → step_at table at ≡ End
unfolding step_at
step_end table at h = yes_if _ _ _ (le-leb (length table) at h)

module _ (table : List ℕ) (at : ℕ) (more : at < length table) where
  pub step_one_byte : length table < at + 2 → step_at table at ≡ Broken
  unfolding step_at broken_at
  step_one_byte h = no_if _ _ _ (lt-leb (length table) at more) (yes_if _ _ _ (rw (lt-ltb (length table) (at + 2) h)))

  pub step_too_short : at + 2 ≤ length table → byte_at table (at + 1) < 2 → step_at table at ≡ Broken
  unfolding step_at broken_at structure_length
  step_too_short room h =
      no_if _ _ _ (lt-leb (length table) at more)
      (yes_if _ _ _ (rw (le-ltb (length table) (at + 2) room, lt-ltb (byte_at table (at + 1)) 2 h)))

  pub step_past_end : at + 2 ≤ length table → 2 ≤ byte_at table (at + 1) → length table < at + byte_at table (at + 1) → step_at table at ≡ Broken
  unfolding step_at broken_at structure_length
  step_past_end room low h =
      no_if _ _ _ (lt-leb (length table) at more)
      (yes_if _ _ _
      (rw (le-ltb (length table) (at + 2) room, le-ltb (byte_at table (at + 1)) 2 low, lt-ltb (length table) (at + byte_at table (at + 1)) h)))

  pub step_structure : at + 2 ≤ length table → 2 ≤ byte_at table (at + 1) → at + byte_at table (at + 1) ≤ length table
      → step_at table at ≡ Structure (byte_at table (at + 1))
  unfolding step_at broken_at structure_length
  step_structure room low fits =
      no_if _ _ _ (lt-leb (length table) at more)
      (no_if _ _ _
      (rw (le-ltb (length table) (at + 2) room, le-ltb (byte_at table (at + 1)) 2 low, le-ltb (length table) (at + byte_at table (at + 1)) fits))
      refl)
