-- Document 01, "Tables", the XSDT and its entries: refusals 23 to 25, then 20 to 22 of each entry in turn.
use Rattle.std.specs.Prelude.{ℕ, ◌+◌, ◌-◌, ◌*◌, ◌/◌, ◌%◌, Bool, not, ◌||◌, List, [], ◌∷◌, eqb, ltb}
use Prim.Native.Char.{code}
use Rattle.words.specs.Bytes.{spelled}
use Rattle.words.specs.Lists.{in_each, numbers_below}
use Rattle.words.specs.Refusals.{Verdict, rule}
use Rattle.tables.specs.Table.{header_size, signature, revision, table_rules}
use Rattle.tables.specs.declared.Table.{Table}

unfoldable pub xsdt_signature : ℕ
xsdt_signature = spelled (code "X" ∷ code "S" ∷ code "D" ∷ code "T" ∷ [])

-- 23: its signature
unfoldable pub not_xsdt : List ℕ → Table → Bool
not_xsdt capture xsdt = not (eqb (signature capture xsdt.place) xsdt_signature)

-- 24: "revision 1"
unfoldable pub wrong_xsdt_revision : List ℕ → Table → Bool
wrong_xsdt_revision capture xsdt = not (eqb (revision capture xsdt.place) 1)

-- "body of 64-bit addresses": how many there are
unfoldable pub entry_count : Table → ℕ
entry_count xsdt = (xsdt.length - header_size) / 8

-- 25: "body no multiple of 8 or over 32"; it holds "0 to 32" addresses
unfoldable pub wrong_body : Table → Bool
wrong_body xsdt = not (eqb ((xsdt.length - header_size) % 8) 0) || ltb 32 (entry_count xsdt)

-- the order of refusals 23 to 25
unfoldable pub xsdt_rules : List ℕ → Table → List Verdict
xsdt_rules capture xsdt =
    rule (not_xsdt capture xsdt) 23 xsdt.place
    ∷ rule (wrong_xsdt_revision capture xsdt) 24 xsdt.place
    ∷ rule (wrong_body xsdt) 25 xsdt.place
    ∷ []

-- the place of an entry's address field
unfoldable pub entry_field : Table → ℕ → ℕ
entry_field xsdt entry = xsdt.place + header_size + 8 * entry

-- the entries, by their number
unfoldable pub entries : Table → List ℕ
entries xsdt = numbers_below (entry_count xsdt)

-- "its entries in turn, each through 20 to 22"
unfoldable pub entry_rules : List ℕ → Table → List Verdict
entry_rules capture xsdt = in_each (λ entry. table_rules capture (entry_field xsdt entry)) (entries xsdt)
