-- Document 01, "Tables" and "Refusals in order": the MADT, the FADT and the SCI number of a capture, or the first refusal of
-- 1 to 30. How strict a reading is, is handed in.
use Rattle.std.specs.Prelude.{ℕ, ◌+◌, Bool, not, ◌||◌, List, [], ◌∷◌, ◌++◌, eqb, leb, ltb, Result, Option, Ok, Err, Some, None, is_none}
use Prim.Native.Char.{code}
use Rattle.words.specs.Bytes.{number_at, spelled}
use Rattle.words.specs.Choice.{if}
use Rattle.words.specs.Refusals.{Verdict, refused, rule, unless, first_refusal}
use Rattle.capture.specs.Rules.{container_rules}
use Rattle.capture.specs.Presence.{presence_rules, rsdp_place}
use Rattle.tables.specs.Rsdp.{rsdp_rules, xsdt_field}
use Rattle.tables.specs.Table.{revision, table_named, table_rules}
use Rattle.tables.specs.Xsdt.{entry_field, xsdt_rules, entry_rules}
use Rattle.tables.specs.Finder.{first_named, second_named}
use Rattle.tables.specs.declared.Table.{Table}
use Rattle.tables.specs.declared.Tables.{Tables}
use Rattle.tables.specs.declared.Strictness.{Strictness}
use Rattle.tables.specs.declared.Strictness.TheVariants.{Ordinary, Strict}
use Rattle.words.specs.declared.Refusal.{Refusal}

-- the signatures of MADT and FADT: "exactly one is `APIC`, exactly one is `FACP`"
unfoldable pub apic : ℕ
apic = spelled (code "A" ∷ code "P" ∷ code "I" ∷ code "C" ∷ [])

unfoldable pub facp : ℕ
facp = spelled (code "F" ∷ code "A" ∷ code "C" ∷ code "P" ∷ [])

-- the earlier of two entries
unfoldable pub earlier : Option ℕ → Option ℕ → Option ℕ
earlier None other = other
earlier (Some entry) None = Some entry
earlier (Some entry) (Some other) = if (leb entry other) (Some entry) (Some other)

-- 27: "a second MADT or FADT (the first such)", at its address field
unfoldable pub second_rule : Table → Option ℕ → Verdict
second_rule xsdt None = Ok tt
second_rule xsdt (Some entry) = Err (refused 27 (entry_field xsdt entry))

-- 26: "no MADT or no FADT", at the XSDT; then 27
unfoldable pub name_rules : List ℕ → Table → List Verdict
name_rules capture xsdt =
    rule (is_none (first_named capture xsdt apic) || is_none (first_named capture xsdt facp)) 26 xsdt.place
    ∷ second_rule xsdt (earlier (second_named capture xsdt apic) (second_named capture xsdt facp))
    ∷ []

-- 28: "MADT under 44, then FADT under 48"
unfoldable pub length_rules : Table → Table → List Verdict
length_rules madt fadt =
    rule (ltb madt.length 44) 28 madt.place
    ∷ rule (ltb fadt.length 48) 28 fadt.place
    ∷ []

-- 29, by W-207 of document 02: "for revision 0 in the ordinary reading, for other than 1 in the strict one", which keeps document
-- 01's "MADT: revision 1". The two readings differ here alone.
unfoldable pub wrong_madt_revision : Strictness → ℕ → Bool
wrong_madt_revision Ordinary revision = eqb revision 0
wrong_madt_revision Strict revision = not (eqb revision 1)

-- 30: "flags at 40 zero", of 32 bits
unfoldable pub wrong_flags : List ℕ → Table → Bool
wrong_flags capture madt = not (eqb (number_at 4 capture (madt.place + 40)) 0)

-- 29 and 30, at the MADT
unfoldable pub madt_field_rules : Strictness → List ℕ → Table → List Verdict
madt_field_rules strictness capture madt =
    rule (wrong_madt_revision strictness (revision capture madt.place)) 29 madt.place
    ∷ rule (wrong_flags capture madt) 30 madt.place
    ∷ []

-- what is left to ask where MADT and FADT are found: 28 to 30
unfoldable pub body_rules : Strictness → List ℕ → Table → Table → List Verdict
body_rules strictness capture madt fadt = length_rules madt fadt ++ madt_field_rules strictness capture madt

-- "SCI_INT is the 16 bits at 46"
unfoldable pub sci_number : List ℕ → Table → ℕ
sci_number capture fadt = number_at 2 capture (fadt.place + 46)

-- what the layers above read from
unfoldable pub with_sci : List ℕ → Table → Table → Tables
with_sci capture madt fadt = record { madt = madt; fadt = fadt; sci = sci_number capture fadt }

-- the table that an entry names
unfoldable pub table_of_entry : List ℕ → Table → Option ℕ → Table
table_of_entry capture xsdt None = record { place = 0; length = 0 }
table_of_entry capture xsdt (Some entry) = table_named capture (entry_field xsdt entry)

unfoldable pub madt_of : List ℕ → Table → Table
madt_of capture xsdt = table_of_entry capture xsdt (first_named capture xsdt apic)

unfoldable pub fadt_of : List ℕ → Table → Table
fadt_of capture xsdt = table_of_entry capture xsdt (first_named capture xsdt facp)

unfoldable pub tables_from : List ℕ → Table → Tables
tables_from capture xsdt = with_sci capture (madt_of capture xsdt) (fadt_of capture xsdt)

-- the XSDT that the RSDP of a capture names, and the tables found from there
unfoldable pub xsdt_of : List ℕ → Table
xsdt_of capture = table_named capture (xsdt_field (rsdp_place capture))

unfoldable pub tables_of : List ℕ → Tables
tables_of capture = tables_from capture (xsdt_of capture)

-- the order of refusals 1 to 28, the same in both readings: "the XSDT goes through 20 to 25, then its entries in turn, each through 20
-- to 22. 26 and 27 come after all entries". What stands nowhere has place 0: a rule that looks at a place comes after the rule that the
-- thing is there.
unfoldable pub rules_before_29 : List ℕ → List Verdict
rules_before_29 capture =
    let rsdp = rsdp_place capture in
    let xsdt = xsdt_of capture in
    container_rules capture  -- 1 to 7
    ++ (presence_rules capture  -- 10
    ++ (rsdp_rules capture rsdp  -- 11 to 14
    ++ (table_rules capture (xsdt_field rsdp)  -- 20 to 22 of the XSDT
    ++ (xsdt_rules capture xsdt  -- 23 to 25
    ++ (entry_rules capture xsdt  -- 20 to 22 of each entry
    ++ (name_rules capture xsdt  -- 26, 27
    ++ length_rules (madt_of capture xsdt) (fadt_of capture xsdt)))))))  -- 28

-- and of 1 to 30, by how strict the reading is
unfoldable pub survey_rules : Strictness → List ℕ → List Verdict
survey_rules strictness capture = rules_before_29 capture ++ madt_field_rules strictness capture (madt_of capture (xsdt_of capture))

unfoldable pub survey : Strictness → List ℕ → Result Tables Refusal
survey strictness capture = unless Err (first_refusal (survey_rules strictness capture)) (Ok (tables_of capture))
