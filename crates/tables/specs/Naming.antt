-- A shortcut of the program, and no line of document 01: what the finder finds of a signature, gathered by one loop that looks at
-- each entry of the XSDT once. It is what Finder and Survey say: proofs/Naming, so that no answer changes.
use Rattle.std.specs.Prelude.{ℕ, Bool, not, List, Some, None, is_none}
use Rattle.std.specs.Option.{option_map}
use Rattle.words.specs.Choice.{if}
use Rattle.tables.specs.Finder.{first_named, second_named}
use Rattle.tables.specs.Table.{table_named}
use Rattle.tables.specs.Xsdt.{entry_field}
use Rattle.tables.specs.declared.Table.{Table}
use Rattle.tables.specs.declared.Named.{Named}

-- the table of the first entry that names one with the signature, and the second entry that names one
unfoldable pub named : List ℕ → Table → ℕ → Named
named capture xsdt letters =
    record {
      first = option_map (λ entry. table_named capture (entry_field xsdt entry)) (first_named capture xsdt letters);
      second = second_named capture xsdt letters;
    }

-- what is known of a signature before any entry was looked at
unfoldable pub not_named : Named
not_named = record { first = None; second = None }

-- and after one entry more, whose table has the signature or not
unfoldable pub one_more : Named → Bool → Table → ℕ → Named
one_more known signed table entry =
    if (not signed) known
    (if (is_none known.first) (record { first = Some table; second = None })
    (if (is_none known.second) (record { first = known.first; second = Some entry })
    known))
