-- The finder: which entries of the XSDT name a table with a signature. Entries are counted, and not tables: a table that two
-- entries name is named twice.
use Rattle.std.specs.Prelude.{ℕ, ◌+◌, ◌-◌, Bool, ◌&&◌, List, eqb, Option, Some, None}
use Rattle.words.specs.Lists.{first, numbers_from}
use Rattle.capture.specs.Presence.{is_present, place_of}
use Rattle.tables.specs.Table.{header_at, signature}
use Rattle.tables.specs.Xsdt.{entry_count, entry_field}
use Rattle.tables.specs.declared.Table.{Table}

-- an entry names a table with the signature
unfoldable pub names : List ℕ → Table → ℕ → ℕ → Bool
names capture xsdt letters entry =
    let header = header_at capture (entry_field xsdt entry) in
    is_present header && eqb (signature capture (place_of header)) letters

-- the first entry, from one on, that names such a table
unfoldable pub named_from : List ℕ → Table → ℕ → ℕ → Option ℕ
named_from capture xsdt letters from =
    first (names capture xsdt letters) Some None (numbers_from from (entry_count xsdt - from))

-- the first entry of all that does
unfoldable pub first_named : List ℕ → Table → ℕ → Option ℕ
first_named capture xsdt letters = named_from capture xsdt letters 0

-- the next one after an entry
unfoldable pub named_after : List ℕ → Table → ℕ → Option ℕ → Option ℕ
named_after capture xsdt letters None = None
named_after capture xsdt letters (Some entry) = named_from capture xsdt letters (entry + 1)

-- the second entry of all that does
unfoldable pub second_named : List ℕ → Table → ℕ → Option ℕ
second_named capture xsdt letters = named_after capture xsdt letters (first_named capture xsdt letters)
