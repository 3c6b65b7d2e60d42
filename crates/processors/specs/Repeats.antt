-- Document 01's rule on different UIDs and different physical IDs, which by W-203 of document 02 "binds enabled entries only", and
-- refusal 39: "CORE repeats an ID of an earlier one"; "the place is the later one's; the first in table order is named".
use Rattle.std.specs.Prelude.{ℕ, Bool, true, false, ◌||◌, List, Option, Some, None, eqb, length, get_or, take}
use Rattle.words.specs.Lists.{first, numbers_below}
use Rattle.madt.specs.Pieces.{Whole}
use Rattle.madt.specs.Contents.{offsets_of}
use Rattle.processors.specs.Listing.{cores_of, listed}
use Rattle.processors.specs.declared.Processor.{Processor}

-- ---- of any list of processors
-- two of them share an ID: UIDs are compared with UIDs, physical IDs with physical IDs
abbrev pub share_id : Processor → Processor → Bool
share_id p q = eqb p.uid q.uid || eqb p.id q.id

-- p shares an ID with one of some others
unfoldable pub shares_with_one : List Processor → Processor → Bool
shares_with_one others p = first (share_id p) (λ q. true) false others

-- past a list's end there is no processor
abbrev pub no_processor : Processor
no_processor = record { uid = 0; id = 0 }

-- processor k of a list shares an ID with one before it
unfoldable pub repeats_id : List Processor → ℕ → Bool
repeats_id list k = shares_with_one (take k list) (get_or list k no_processor)

-- what is told of the first that does, by the number of those before it
unfoldable pub first_repeating : {R : Type 0} → (ℕ → R) → R → List Processor → R
first_repeating told none list = first (repeats_id list) told none (numbers_below (length list))

-- ---- "39 compares enabled entries alone"
-- where structure k of some stands in the table
abbrev pub offset_of : List Whole → ℕ → ℕ
offset_of structures k = get_or (offsets_of structures) k 0

-- the offset of the first enabled CORE of the MADT with some bytes that shares an ID with an earlier enabled one, if there is one
unfoldable pub first_repeat : List ℕ → Option ℕ
first_repeat table =
    let cores = cores_of table in
    first_repeating (λ k. Some (offset_of cores k)) None (listed cores)
