-- Document 01, "Refusals in order": the order of all rules up to 54, and what is found where none is broken. How strict the reading is
-- (W-207 of document 02) is handed on to 29.
use Rattle.std.specs.Prelude.{ℕ, ◌+◌, List, ◌∷◌, ◌++◌, Option, Some, None, eqb, Ok, Err}
use Rattle.words.specs.Bytes.{part_at}
use Rattle.words.specs.Refusals.{Verdict, refused, rule, unless, first_refusal}
use Rattle.words.specs.declared.Refusal.{Refusal}
use Rattle.capture.specs.Pairs.{pairs_of, pins_of}
use Rattle.tables.specs.Survey.{tables_of, survey_rules}
use Rattle.tables.specs.declared.Strictness.{Strictness}
use Rattle.tables.specs.declared.Table.{Table}
use Rattle.tables.specs.declared.Tables.{Tables}
use Rattle.lines.specs.Says.{says}
use Rattle.lines.specs.Rules.{rules_to_45, rules_from_51}
use Rattle.lines.specs.declared.Map.{Map}
use Rattle.madt.specs.Contents.{nothing}
use Rattle.madt.specs.Walk.{walk_rules, Walked, walked}
use Rattle.processors.specs.Listing.{count}
use Rattle.processors.specs.Repeats.{first_repeat}
use Rattle.reading.specs.declared.Scan.{Scan}

-- the MADT's own bytes
unfoldable pub madt_bytes : List ℕ → Table → List ℕ
madt_bytes capture madt = part_at capture madt.place madt.length

-- the walk of the MADT of the tables that were found
abbrev pub walk_of : List ℕ → Tables → Walked
walk_of capture t = walked (madt_bytes capture t.madt) t.madt.place t.sci (pins_of (pairs_of capture))

-- "no map": the fixed empty one
unfoldable pub empty_map : Map
empty_map = (nothing 0).map

-- a refusal comes with no map and no MADT
unfoldable pub turned_down : Refusal → Scan
turned_down refusal = record { verdict = Err refusal; madt = record { place = 0; length = 0 }; map = empty_map }

-- 39: "CORE repeats an ID of an earlier one", at the later
unfoldable pub repeat_rule : ℕ → Option ℕ → Verdict
repeat_rule base None = Ok tt
repeat_rule base (Some offset) = Err (refused 39 (base + offset))

-- 40: "no enabled CORE", at the MADT
unfoldable pub processor_rule : ℕ → ℕ → Verdict
processor_rule base processors = rule (eqb processors 0) 40 base

-- ---- the order of all rules
-- 31 to 38 and 71 to 78 of the structures in turn, then 34; then 39 and 40 of the processors, "39 after all structures"; then 40 to 45 of
-- the map
unfoldable pub madt_rules : List ℕ → Tables → List Verdict
madt_rules capture t =
    let table = madt_bytes capture t.madt in
    let found = (walk_of capture t).found in
    walk_rules table t.madt.place
    ++ (repeat_rule t.madt.place (first_repeat table)
    ∷ processor_rule t.madt.place (count table)
    ∷ rules_to_45 (says found.map) found.places t.madt.place)

-- 51 to 54 of the map
unfoldable pub line_rules : List ℕ → Tables → List Verdict
line_rules capture t =
    let found = (walk_of capture t).found in
    rules_from_51 (says found.map) found.places t.fadt.place

-- all rules that come before 51: first 1 to 30, which crates/tables/specs/Survey lists
unfoldable pub rules_before_51 : Strictness → List ℕ → List Verdict
rules_before_51 strictness capture = survey_rules strictness capture ++ madt_rules capture (tables_of capture)

-- all rules up to 54
unfoldable pub all_rules : Strictness → List ℕ → List Verdict
all_rules strictness capture = rules_before_51 strictness capture ++ line_rules capture (tables_of capture)

-- ---- what is found where none of them is broken
unfoldable pub accepted : Tables → Map → Scan
accepted t map = record { verdict = Ok tt; madt = t.madt; map = map }

unfoldable pub scan : Strictness → List ℕ → Scan
scan strictness capture =
    let t = tables_of capture in
    unless turned_down (first_refusal (all_rules strictness capture)) (accepted t (walk_of capture t).found.map)
