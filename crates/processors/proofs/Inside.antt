-- The CORE that repeats an ID stands inside the table.
use mathlib.Core.Path.{◌≡◌, refl, ◌∙◌}
use mathlib.Core.List.{List, [], ◌∷◌}
use Prim.Native.Nat.{ℕ, zero, suc, ◌+◌, ◌<◌}
use Rattle.std.proofs.Common.{Some, None}
use Rattle.std.proofs.lemmas.Option.{none-some, same_Some}
use native.Mathlib.Nat.{zero-add}
use native.Mathlib.Omega.{arith}
use lib.ListN.{length}
use Rattle.words.specs.Bytes.{part_at}
use Rattle.words.specs.Lists.{those, numbers_below}
use Rattle.words.proofs.Choices.{if_cases}
use Rattle.words.proofs.Searches.{search_found}
use Rattle.words.proofs.Those.{length-map}
use Rattle.tables.specs.Structures.{step_at}
use Rattle.tables.specs.declared.Step.{Step}
use Rattle.tables.specs.declared.Step.TheVariants.{End, Structure, Broken}
use Rattle.madt.specs.Pieces.{Piece, Whole, piece_at, pieces_from, pieces, structures}
use Rattle.madt.proofs.Pieces.{step_inside}
use Rattle.madt.specs.Contents.{enabled_cores}
use Rattle.processors.specs.Listing.{cores_of, listed}
use Rattle.processors.specs.Repeats.{first_repeating, offset_of, first_repeat}

-- each of some structures begins before the table's end
abbrev AllInside : List ℕ → List Whole → Type 0
AllInside table cores = (k : ℕ) → k < length cores → offset_of cores k < length table

none_inside : (table : List ℕ) → AllInside table []
none_inside table k l = absurd (omega arith)

one_inside : (table : List ℕ) (x : Whole) (later : List Whole) → x.at < length table → AllInside table later → AllInside table (x ∷ later)
one_inside table x later here rest zero l = here
one_inside table x later here rest (suc k) l = rest k (omega arith)

cores_at : (table : List ℕ) (at : ℕ) (step : Step) (later : ℕ → List Piece) → step_at table at ≡ step
    → ((size : ℕ) → AllInside table (enabled_cores (structures (later size)))) → AllInside table (enabled_cores (structures (piece_at table at step later)))
unfolding enabled_cores structures those piece_at
cores_at table at End later e rest = none_inside table
cores_at table at Broken later e rest = none_inside table
cores_at table at (Structure size) later e rest =
    if_cases (AllInside table) _ _ _
    (λ t. one_inside table (record { at = at; bytes = part_at table at size }) (enabled_cores (structures (later size))) (step_inside table at size e).0 (rest size))
    (λ t. rest size)

cores_from : (n : ℕ) (table : List ℕ) (at : ℕ) → AllInside table (enabled_cores (structures (pieces_from n table at)))
unfolding enabled_cores structures those pieces_from
cores_from zero table at = none_inside table
cores_from (suc n) table at = cores_at table at (step_at table at) _ refl (λ size. cores_from n table (at + size))

cores_inside : (table : List ℕ) → AllInside table (cores_of table)
unfolding pieces
cores_inside table = cores_from (length table) table 44

pub repeat_inside : (table : List ℕ) (at : ℕ) → first_repeat table ≡ Some at → at < length table
unfolding first_repeat first_repeating numbers_below
repeat_inside table at h =
    let cores = cores_of table in
    let hit = search_found _ _ None (Some at) 0 (length (listed cores)) (length cores) (zero-add _ ∙ length-map _ cores) h (none-some at) in
    let same = same_Some _ _ hit.told in
    rw (← same) (cores_inside table hit.at hit.counted)
