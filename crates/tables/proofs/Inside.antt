-- The tables of an accepted answer lie inside the capture: the theorem `tables_inside`.
use mathlib.Core.Bool.{false, not, true≢false}
use mathlib.Core.List.{List}
use mathlib.Core.Path.{◌≡◌, refl, sym, ap, ◌∙◌}
use Prim.Native.Nat.{ℕ, ◌+◌, ◌≤◌, ◌<◌}
use native.Mathlib.Omega.{arith}
use lib.Dec.{ltb}
use lib.ListN.{length}
use borrow.Author.Tests.{ltb-false, not-false}
use Rattle.words.specs.Refusals.{Verdict, first_refusal}
use Rattle.words.proofs.Tests.{neither_left, neither_right}
use Rattle.words.proofs.Verdicts.{unless-told, unless_sound, first_sound, joined_kept}
use Rattle.capture.specs.Rules.{container_rules, verdict}
use Rattle.capture.specs.Presence.{is_present, place_of, located, presence_rules, rsdp_place}
use Rattle.capture.proofs.Within.{Sound, within, behind, present_at}
use Rattle.capture.proofs.Apart.{one_place}
use Rattle.tables.specs.Rsdp.{rsdp_rules, xsdt_field}
use Rattle.tables.specs.Table.{header_size, address_at, header_at, table_named, table_length, cut_short, table_rules}
use Rattle.tables.specs.Xsdt.{entry_field, entry_rules, xsdt_rules}
use Rattle.tables.specs.Finder.{first_named}
use Rattle.tables.specs.Survey.{apic, facp, name_rules, length_rules, with_sci, table_of_entry, madt_of, fadt_of, tables_from, xsdt_of, tables_of, rules_before_29, survey_rules, survey}
use Rattle.tables.specs.declared.Table.{Table}
use Rattle.tables.specs.declared.Tables.{Tables}
use Rattle.tables.specs.declared.Strictness.{Strictness}
use Rattle.tables.proofs.Laws.{table_kept, entries_kept, named_counted}
use Rattle.std.specs.Prelude.{Result, Option, Ok, Err, Some, None, is_none}
use Rattle.words.specs.declared.Refusal.{Refusal}

-- a table of a capture that is whole and has a body
pub record Lies (capture : List ℕ) (table : Table) (least : ℕ) : Type 0 where
  pub behind : 0 < table.place
  pub inside : table.place + table.length ≤ length capture
  pub long : least ≤ table.length

-- a table that a field names and no rule refuses stands behind the container's header, and ends inside the capture
pub named_inside : (capture : List ℕ) (field : ℕ) → Sound capture → first_refusal (table_rules capture field) ≡ Ok tt
    → Lies capture (table_named capture field) 36
unfolding table_named header_at cut_short
named_inside capture field sound h =
    let kept = table_kept capture field h in
    let address = address_at capture field in
    let place = place_of (header_at capture field) in
    let size = table_length capture place in
    let long = ltb-false size header_size (neither_left _ (not (is_present (located capture address size))) kept.1) in
    let there = present_at (located capture address size) (not-false _ (neither_right (ltb size header_size) _ kept.1)) in
    let same = one_place capture sound address header_size size place _ (omega arith) (omega arith) kept.0 there in
    let ends = within capture address size _ sound there in
    record { behind = omega (arith, behind capture address header_size place kept.0); inside = omega arith; long = long }

-- so does a table that the finder finds, where no entry was refused
found_inside : (capture : List ℕ) (xsdt : Table) (letters : ℕ) → Sound capture → first_refusal (entry_rules capture xsdt) ≡ Ok tt
    → is_none (first_named capture xsdt letters) ≡ false → Lies capture (table_of_entry capture xsdt (first_named capture xsdt letters)) 36
unfolding table_of_entry
found_inside capture xsdt letters sound through = go (first_named capture xsdt letters) refl
  where
    go : (e : Option ℕ) → first_named capture xsdt letters ≡ e → is_none e ≡ false → Lies capture (table_of_entry capture xsdt e) 36
    go None h some = absurd (true≢false some)
    go (Some entry) h some =
        named_inside capture (entry_field xsdt entry) sound
        (entries_kept capture xsdt entry through (named_counted capture xsdt letters entry h))

-- and where 26 is kept, both MADT and FADT are found
pub both_inside : (capture : List ℕ) (xsdt : Table) → Sound capture → first_refusal (entry_rules capture xsdt) ≡ Ok tt
    → first_refusal (name_rules capture xsdt) ≡ Ok tt → Lies capture (madt_of capture xsdt) 36 × Lies capture (fadt_of capture xsdt) 36
unfolding name_rules madt_of fadt_of
both_inside capture xsdt sound through h =
    let some = (first_sound _ 26 _ _ h).0 in (
      found_inside capture xsdt apic sound through (neither_left _ (is_none (first_named capture xsdt facp)) some),
      found_inside capture xsdt facp sound through (neither_right (is_none (first_named capture xsdt apic)) _ some),
    )

long_enough : (madt fadt : Table) → first_refusal (length_rules madt fadt) ≡ Ok tt → (44 ≤ madt.length) × (48 ≤ fadt.length)
unfolding length_rules
long_enough madt fadt h =
    let first = first_sound _ 28 _ _ h in
    (ltb-false madt.length 44 first.0, ltb-false fadt.length 48 (first_sound _ 28 _ _ first.1).0)

-- what the answer tells of the rules
abbrev said : Result Tables Refusal → Verdict
said (Ok t) = Ok tt
said (Err refusal) = Err refusal

pub survey-told : (strictness : Strictness) (capture : List ℕ) {s : Result Tables Refusal} → survey strictness capture ≡ s
    → first_refusal (survey_rules strictness capture) ≡ said s
unfolding survey
survey-told strictness capture h = sym (unless-told Err said (λ r. refl) _ _ refl) ∙ ap said h

pub survey-is : (strictness : Strictness) (capture : List ℕ) {t : Tables} → survey strictness capture ≡ Ok t → tables_of capture ≡ t
unfolding survey
survey-is strictness capture {t} h =
    let found : Ok (tables_of capture) ≡ Ok t = sym (unless_sound Err _ _ (survey-told strictness capture h)) ∙ h in
    cc

-- what was found, from the XSDT on
pub record Accepted (capture : List ℕ) (t : Tables) : Type 0 where
  pub sound : Sound capture
  pub madt : Lies capture t.madt 44
  pub fadt : Lies capture t.fadt 48

-- where no rule before 29 is broken, the MADT has its 44 bytes, the FADT its 48, and both lie wholly inside the capture
pub kept_inside : (capture : List ℕ) → first_refusal (rules_before_29 capture) ≡ Ok tt → Accepted capture (tables_of capture)
unfolding verdict rules_before_29 tables_of tables_from with_sci
kept_inside capture kept =
    let xsdt = xsdt_of capture in
    let container = joined_kept (container_rules capture) _ kept in
    let present = joined_kept (presence_rules capture) _ container.1 in
    let rsdp = joined_kept (rsdp_rules capture (rsdp_place capture)) _ present.1 in
    let table = joined_kept (table_rules capture (xsdt_field (rsdp_place capture))) _ rsdp.1 in
    let index = joined_kept (xsdt_rules capture xsdt) _ table.1 in
    let entries = joined_kept (entry_rules capture xsdt) _ index.1 in
    let names = joined_kept (name_rules capture xsdt) _ entries.1 in
    let lie = both_inside capture xsdt container.0 entries.0 names.0 in
    let long = long_enough (madt_of capture xsdt) (fadt_of capture xsdt) names.1 in
    record {
      sound = container.0;
      madt = record { behind = lie.0.behind; inside = lie.0.inside; long = long.0 };
      fadt = record { behind = lie.1.behind; inside = lie.1.inside; long = long.1 };
    }

-- so it is with the tables of an accepted answer, of either reading
pub tables_inside : (strictness : Strictness) (capture : List ℕ) (t : Tables) → survey strictness capture ≡ Ok t → Accepted capture t
unfolding survey_rules
tables_inside strictness capture t h =
    rw (← survey-is strictness capture h)
    (kept_inside capture (joined_kept (rules_before_29 capture) _ (survey-told strictness capture h)).0)
