-- W-212 of document 02: how many inputs bridges have. "Capture version 2 carries it: four pairs of bytes at 18 (hardware ID, number
-- of inputs 1 to 64; a pair with number 0 is empty and its ID is free)". And refusal 7.
use Rattle.std.specs.Prelude.{ℕ, ◌+◌, ◌*◌, Bool, not, ◌&&◌, ◌||◌, List, map, find, Option, eqb, ltb, take, get_or}
use Rattle.std.specs.Option.{option_map, is_some, unwrap_or}
use Rattle.words.specs.Bytes.{byte_at}
use Rattle.words.specs.Choice.{if}
use Rattle.words.specs.Lists.{numbers_below}
use Rattle.words.specs.Refusals.{Verdict, rule}
use Rattle.capture.specs.Fields.{version}
use Rattle.capture.specs.declared.pairs.Pair.{Pair}

-- ---- the pairs
-- "four pairs of bytes at 18": the place of pair k
abbrev pub pair_place : ℕ → ℕ
pair_place k = 18 + 2 * k

-- "(hardware ID, number of inputs ..)"
unfoldable pub pair_at : List ℕ → ℕ → Pair
pair_at capture k = record { id = byte_at capture (pair_place k); pins = byte_at capture (pair_place k + 1) }

-- an empty pair
abbrev pub no_pair : Pair
no_pair = record { id = 0; pins = 0 }

-- those of a capture; where it is not of version 2 they are empty
unfoldable pub pairs_of : List ℕ → List Pair
pairs_of capture = map (λ k. if (eqb (version capture) 2) (pair_at capture k) no_pair) (numbers_below 4)

-- ---- how many inputs
-- "a pair with number 0 is empty": any other tells of the bridges with its hardware ID
unfoldable pub tells_of : ℕ → Pair → Bool
tells_of id pair = not (eqb pair.pins 0) && eqb pair.id id

-- the number of the first pair that does, if one does
abbrev pub told_of : ℕ → List Pair → Option ℕ
told_of id pairs = option_map (λ pair. pair.pins) (find (tells_of id) pairs)

-- "A BIO without a pair, or of a version 1 capture, has 64."
unfoldable pub pins_of : List Pair → ℕ → ℕ
pins_of pairs id = unwrap_or (told_of id pairs) 64

-- ---- 7: "at the pair for a number over 64 or an ID given twice in pairs that are not empty"
unfoldable pub pair_broken : List Pair → ℕ → Bool
pair_broken pairs k =
    let pair = get_or pairs k no_pair in
    ltb 64 pair.pins || (not (eqb pair.pins 0) && is_some (told_of pair.id (take k pairs)))

-- the pairs in turn
unfoldable pub pair_rules : List ℕ → List Verdict
pair_rules capture = map (λ k. rule (pair_broken (pairs_of capture) k) 7 (pair_place k)) (numbers_below 4)
