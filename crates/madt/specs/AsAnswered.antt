-- A shortcut of the program, and no line of document 01: the walk as the program answers it, what is found or the refusal alone. It is
-- `walked` of Walk without what stands beside a refusal: proofs/Accepted, so that no answer changes.
use Rattle.std.specs.Prelude.{ℕ, List, Result, Ok, Err}
use Rattle.words.specs.Refusals.{unless, first_refusal}
use Rattle.words.specs.declared.Refusal.{Refusal}
use Rattle.madt.specs.Pieces.{pieces, structures}
use Rattle.madt.specs.Contents.{found_in}
use Rattle.madt.specs.Walk.{walk_rules}
use Rattle.madt.specs.declared.Found.{Found}

unfoldable pub walk : List ℕ → ℕ → ℕ → (ℕ → ℕ) → Result Found Refusal
walk table base sci pins = unless Err (first_refusal (walk_rules table base)) (Ok (found_in base sci pins (structures (pieces table 44))))
