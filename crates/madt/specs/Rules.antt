-- Document 01, "MADT structures" and "Refusals in order", 32 to 38, with 36 split into 71 to 78 by W-202 of document 02, and 34 moved
-- behind all of them by W-201: the rules for one structure, whose own bytes are s.
use Rattle.std.specs.Prelude.{ℕ, Bool, false, not, ◌&&◌, ◌||◌, List, [], ◌∷◌, eqb, leb, Option, None, Some, Ok, Err}
use Rattle.std.specs.Option.{option_map_or}
use Rattle.words.specs.Bytes.{byte_at}
use Rattle.words.specs.Choice.{if}
use Rattle.words.specs.Lists.{every}
use Rattle.words.specs.Refusals.{Verdict, refused, rule}
use Rattle.kinds.specs.Makers.{reserved_flags, core_of, lio_of, ht_of, eio_of, msi_of, bio_of, lpc_of}
use Rattle.kinds.specs.Ranges.{cascade_fits, node_fits, nodes_fit, count_fits, end_fits, base_fits, input_fits, byte_fits, halves_fit, bit_in_both}

-- "Type at 0": the structure is of the kind with a type number
unfoldable pub is_type : ℕ → List ℕ → Bool
is_type number s = eqb (byte_at s 0) number

-- one of eight, by the type of a structure; the last is for "types other than 17 to 23"
abbrev pub by_type : {A : Type 0} → List ℕ → A → A → A → A → A → A → A → A → A
by_type s core lio ht eio msi bio lpc other =
    if (is_type 17 s) core
    (if (is_type 18 s) lio
    (if (is_type 19 s) ht
    (if (is_type 20 s) eio
    (if (is_type 21 s) msi
    (if (is_type 22 s) bio
    (if (is_type 23 s) lpc
    other))))))

-- the rules speak of known types: "Types other than 17 to 23 are passed over"
unfoldable pub is_known : List ℕ → Bool
is_known s = leb 17 (byte_at s 0) && leb (byte_at s 0) 23

-- the length of each kind; none for a type that is passed over
unfoldable pub length_of : List ℕ → Option ℕ
length_of s = by_type s (Some 15) (Some 23) (Some 21) (Some 13) (Some 19) (Some 17) (Some 15) None

-- 32: "length of a known type", at 1
unfoldable pub wrong_length : List ℕ → Bool
wrong_length s = option_map_or (λ length. not (eqb (byte_at s 1) length)) (length_of s) false

-- 33: "version at 2, which is 1"
unfoldable pub wrong_version : List ℕ → Bool
wrong_version s = is_known s && not (eqb (byte_at s 2) 1)

-- 35: "reserved CORE flags"
unfoldable pub wrong_flags : List ℕ → Bool
wrong_flags s = is_type 17 s && reserved_flags (core_of s)

-- 71: "cascade of EIO or LIO": "of EIO and of a used LIO half 2 to 9"
unfoldable pub wrong_cascade : List ℕ → Bool
wrong_cascade s = is_type 18 s && not (halves_fit (lio_of s)) || is_type 20 s && not (cascade_fits (eio_of s).cascade)

-- 72: "node or hardware ID": "0 to 63"
unfoldable pub wrong_node : List ℕ → Bool
wrong_node s = is_type 20 s && not (node_fits (eio_of s).node) || is_type 22 s && not (node_fits (bio_of s).node)

-- 73: "node map": "not 0"
unfoldable pub wrong_nodes : List ℕ → Bool
wrong_nodes s = is_type 20 s && not (nodes_fit (eio_of s).nodes)

-- 74: "MSI count": "at least 1"
unfoldable pub wrong_count : List ℕ → Bool
wrong_count s = is_type 21 s && not (count_fits (msi_of s).count)

-- 75: "MSI end": "start + count at most 256"
unfoldable pub wrong_end : List ℕ → Bool
wrong_end s = is_type 21 s && not (end_fits (msi_of s).start (msi_of s).count)

-- 76: "GSI base": "64 to 65,472"
unfoldable pub wrong_base : List ℕ → Bool
wrong_base s = is_type 22 s && not (base_fits (bio_of s).base)

-- 77: "LPC cascade": "0 to 63"
unfoldable pub wrong_input : List ℕ → Bool
wrong_input s = is_type 23 s && not (input_fits (lpc_of s).cascade)

-- 78: "HT byte": each names a LIO input, "0 to 31"
unfoldable pub wrong_byte : List ℕ → Bool
wrong_byte s = is_type 19 s && not (every byte_fits (ht_of s).bytes)

-- 37: "a bit in both LIO masks"
unfoldable pub shared_bit : List ℕ → Bool
shared_bit s = is_type 18 s && bit_in_both (lio_of s)

-- 38: "one too many of its kind", of which so many stand before it: "At most 256 CORE, 1 LIO, 4 EIO, 4 BIO, 4 MSI, 1 LPC" (of a second HT
-- 34 speaks)
unfoldable pub one_too_many : ℕ → List ℕ → Bool
one_too_many before s =
    by_type s (leb 256 before) (leb 1 before) false (leb 4 before) (leb 4 before) (leb 4 before) (leb 1 before) false

-- their order, of a structure at a place, after so many of its kind: "36 isn't given again, and 71 to 78 take its place in the
-- order"
unfoldable pub structure_rules : ℕ → ℕ → List ℕ → List Verdict
structure_rules place before s =
    rule (wrong_length s) 32 place
    ∷ rule (wrong_version s) 33 place
    ∷ rule (wrong_flags s) 35 place
    ∷ rule (wrong_cascade s) 71 place
    ∷ rule (wrong_node s) 72 place
    ∷ rule (wrong_nodes s) 73 place
    ∷ rule (wrong_count s) 74 place
    ∷ rule (wrong_end s) 75 place
    ∷ rule (wrong_base s) 76 place
    ∷ rule (wrong_input s) 77 place
    ∷ rule (wrong_byte s) 78 place
    ∷ rule (shared_bit s) 37 place
    ∷ rule (one_too_many before s) 38 place
    ∷ []

-- the same by the number of the rule that is broken, or none
abbrev pub refused_by : Option ℕ → ℕ → Verdict
refused_by None place = Ok tt
refused_by (Some number) place = Err (refused number place)
