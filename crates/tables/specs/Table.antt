-- Document 01, "Tables": a table that an address field names, and refusals 20 to 22. They hold for every table.
use Rattle.std.specs.Prelude.{ℕ, ◌+◌, Bool, not, ◌||◌, List, [], ◌∷◌, eqb, ltb, Result, Ok, Err}
use Rattle.words.specs.Bytes.{byte_at, number_at, part_at, byte_sum}
use Rattle.words.specs.Refusals.{Verdict, rule, unless, first_refusal}
use Rattle.capture.specs.Presence.{Stretch, is_present, place_of, located}
use Rattle.tables.specs.declared.Table.{Table}
use Rattle.words.specs.declared.Refusal.{Refusal}

-- "body from 36": the size of the header
abbrev pub header_size : ℕ
header_size = 36

-- "signature at 0"
unfoldable pub signature : List ℕ → ℕ → ℕ
signature capture place = number_at 4 capture place

-- "length at 4"
unfoldable pub table_length : List ℕ → ℕ → ℕ
table_length capture place = number_at 4 capture (place + 4)

-- "revision at 8"
unfoldable pub revision : List ℕ → ℕ → ℕ
revision capture place = byte_at capture (place + 8)

-- the 64-bit address in a field, the header there, and the table with that header
unfoldable pub address_at : List ℕ → ℕ → ℕ
address_at capture field = number_at 8 capture field

unfoldable pub header_at : List ℕ → ℕ → Stretch
header_at capture field = located capture (address_at capture field) header_size

unfoldable pub table_named : List ℕ → ℕ → Table
table_named capture field =
    let place = place_of (header_at capture field) in
    record { place = place; length = table_length capture place }

-- 21: "length under 36 or not all present"
unfoldable pub cut_short : List ℕ → ℕ → ℕ → Bool
cut_short capture address place =
    ltb (table_length capture place) header_size || not (is_present (located capture address (table_length capture place)))

-- 22: "its bytes sum to 0 modulo 256"
unfoldable pub wrong_sum : List ℕ → ℕ → Bool
wrong_sum capture place = not (eqb (byte_sum (part_at capture place (table_length capture place))) 0)

-- 20: "36-byte header not present", at the address field; then 21 and 22, at the table
unfoldable pub table_rules : List ℕ → ℕ → List Verdict
table_rules capture field =
    let place = place_of (header_at capture field) in
    rule (not (is_present (header_at capture field))) 20 field
    ∷ rule (cut_short capture (address_at capture field) place) 21 place
    ∷ rule (wrong_sum capture place) 22 place
    ∷ []

-- the table that a field names, unless it is refused
unfoldable pub table_at : List ℕ → ℕ → Result Table Refusal
table_at capture field = unless Err (first_refusal (table_rules capture field)) (Ok (table_named capture field))
