-- Laws of the tables' definitions: what each answer is, by what was found.
use mathlib.Core.Bool.{false, not}
use mathlib.Core.List.{List, ◌++◌, append_assoc}
use mathlib.Core.Path.{◌≡◌, refl, sym, ap, ◌∙◌}
use Prim.Native.Nat.{ℕ, ◌-◌, ◌<◌}
use native.Mathlib.Omega.{arith}
use lib.Dec.{eqb}
use borrow.Author.Tests.{not-false}
use Rattle.words.specs.Refusals.{Verdict, unless, first_refusal}
use Rattle.words.specs.declared.Refusal.{Refusal}
use Rattle.words.specs.Lists.{numbers_below}
use Rattle.words.proofs.Searches.{search_found}
use Rattle.words.proofs.Verdicts.{unless-told, unless_sound, first_sound, joined-refused, joined_sound, each_kept}
use Rattle.capture.specs.Rules.{container_rules}
use Rattle.capture.specs.Presence.{Present, is_present, place_of, presence_rules, rsdp_place, rsdp}
use Rattle.capture.proofs.Within.{present_at, root_told, rsdp-at}
use Rattle.tables.specs.Rsdp.{rsdp_rules, xsdt_field}
use Rattle.tables.specs.Table.{address_at, signature, header_at, table_named, cut_short, table_rules, table_at}
use Rattle.tables.specs.Xsdt.{entry_count, entries, entry_field, xsdt_rules, entry_rules}
use Rattle.tables.specs.Finder.{names, named_from, first_named}
use Rattle.tables.specs.Survey.{name_rules, length_rules, wrong_madt_revision, madt_field_rules, body_rules, madt_of, fadt_of, tables_from, xsdt_of, tables_of, rules_before_29, survey_rules, survey}
use Rattle.tables.specs.declared.Table.{Table}
use Rattle.tables.specs.declared.Strictness.{Strictness}
use Rattle.tables.specs.declared.Strictness.TheVariants.{Ordinary, Strict}
use Rattle.std.specs.Prelude.{Result, Ok, Err, Some, None}

-- a table that no rule refuses is present and whole
pub table_kept : (capture : List ℕ) (field : ℕ) → first_refusal (table_rules capture field) ≡ Ok tt
    → let place = place_of (header_at capture field) in
    (header_at capture field ≡ Present place) × (cut_short capture (address_at capture field) place ≡ false)
unfolding table_rules
table_kept capture field h =
    let there = first_sound _ 20 field _ h in
    (present_at (header_at capture field) (not-false _ there.0), (first_sound _ 21 _ _ there.1).0)

-- what the answer for a table tells of its rules
abbrev said : Result Table Refusal → Verdict
said (Ok table) = Ok tt
said (Err refusal) = Err refusal

pub table_told : (capture : List ℕ) (field : ℕ) {c : Result Table Refusal} → table_at capture field ≡ c → first_refusal (table_rules capture field) ≡ said c
unfolding table_at
table_told capture field h = sym (unless-told Err said (λ r. refl) _ _ refl) ∙ ap said h

-- a table that went through is the one that the field names
pub table_is : (capture : List ℕ) (field : ℕ) {table : Table} → table_at capture field ≡ Ok table → table_named capture field ≡ table
unfolding table_at
table_is capture field {table} h =
    let is : Ok (table_named capture field) ≡ Ok table = sym (unless_sound Err _ _ (table_told capture field h)) ∙ h in
    cc

-- where no entry was refused, each went through
pub entries_kept : (capture : List ℕ) (xsdt : Table) (k : ℕ) → first_refusal (entry_rules capture xsdt) ≡ Ok tt → k < entry_count xsdt
    → first_refusal (table_rules capture (entry_field xsdt k)) ≡ Ok tt
unfolding entry_rules entries numbers_below
entries_kept capture xsdt k h counted =
    each_kept (λ (j : ℕ). table_rules capture (entry_field xsdt j)) 0 (entry_count xsdt) k h (omega arith) (omega arith)

-- an entry that names a table with the signature
pub names_present : (capture : List ℕ) (xsdt : Table) (letters entry : ℕ) {place : ℕ} → header_at capture (entry_field xsdt entry) ≡ Present place
    → names capture xsdt letters entry ≡ eqb (signature capture place) letters
unfolding names is_present place_of
names_present capture xsdt letters entry h = rw h

-- what the finder finds is one of the entries
pub named_counted : (capture : List ℕ) (xsdt : Table) (letters entry : ℕ) → first_named capture xsdt letters ≡ Some entry → entry < entry_count xsdt
unfolding first_named named_from
named_counted capture xsdt letters entry h =
    let s =
    search_found (names capture xsdt letters) Some None (Some entry) 0 (entry_count xsdt - 0) (entry_count xsdt) (omega arith) h
    (λ e. let z : ◌≡◌ {A = ℕ} 0 1 = cc in omega arith)
    in
    let there : s.at ≡ entry = (let told = s.told in cc) in
    let below = s.counted in
    omega arith

-- lists of rules behind each other, the same from another end
regroup : (a b c d e f g h last : List Verdict)
    → (a ++ (b ++ (c ++ (d ++ (e ++ (f ++ (g ++ h))))))) ++ last ≡ (a ++ b) ++ (c ++ (d ++ (e ++ (f ++ (g ++ (h ++ last))))))
regroup a b c d e f g h last =
    rw (append_assoc a b, append_assoc a, append_assoc b, append_assoc c, append_assoc d, append_assoc e, append_assoc f, append_assoc g) refl

-- the survey, by the answer for the RSDP
module _ (strictness : Strictness) (capture : List ℕ) where
  abbrev from_rsdp : ℕ → List Verdict
  from_rsdp place =
      let xsdt = table_named capture (xsdt_field place) in
      rsdp_rules capture place
      ++ (table_rules capture (xsdt_field place)
      ++ (xsdt_rules capture xsdt
      ++ (entry_rules capture xsdt ++ (name_rules capture xsdt ++ body_rules strictness capture (madt_of capture xsdt) (fadt_of capture xsdt)))))

  rules_split : survey_rules strictness capture ≡ (container_rules capture ++ presence_rules capture) ++ from_rsdp (rsdp_place capture)
  unfolding survey_rules rules_before_29 body_rules xsdt_of
  rules_split =
      let rsdp = rsdp_place capture in
      let xsdt = xsdt_of capture in
      regroup (container_rules capture) (presence_rules capture) (rsdp_rules capture rsdp) (table_rules capture (xsdt_field rsdp)) (xsdt_rules capture xsdt)
      (entry_rules capture xsdt) (name_rules capture xsdt) (length_rules (madt_of capture xsdt) (fadt_of capture xsdt))
      (madt_field_rules strictness capture (madt_of capture xsdt))

  survey_split : survey strictness capture
      ≡ unless Err (first_refusal ((container_rules capture ++ presence_rules capture) ++ from_rsdp (rsdp_place capture))) (Ok (tables_of capture))
  unfolding survey
  survey_split = ap (λ (rules : List Verdict). unless Err (first_refusal rules) (Ok (tables_of capture))) rules_split

  pub survey-refused : {refusal : Refusal} → rsdp capture ≡ Err refusal → survey strictness capture ≡ Err refusal
  survey-refused h = survey_split ∙ joined-refused _ (container_rules capture ++ presence_rules capture) _ _ (root_told capture h)

  pub survey-at : {place : ℕ} → rsdp capture ≡ Ok place
      → survey strictness capture ≡ unless Err (first_refusal (from_rsdp place)) (Ok (tables_from capture (table_named capture (xsdt_field place))))
  unfolding tables_of xsdt_of
  survey-at {place} h =
      survey_split ∙ joined_sound _ (container_rules capture ++ presence_rules capture) _ _ (root_told capture h)
      ∙ ap (λ (p : ℕ). unless Err (first_refusal (from_rsdp p)) (Ok (tables_from capture (table_named capture (xsdt_field p)))))
      (rsdp-at capture place h)

-- 29, in either reading
pub revision_ordinary : (strictness : Strictness) (revision : ℕ) → strictness ≡ Ordinary → wrong_madt_revision strictness revision ≡ eqb revision 0
unfolding wrong_madt_revision
revision_ordinary strictness revision h = rw h

pub revision_strict : (strictness : Strictness) (revision : ℕ) → strictness ≡ Strict → wrong_madt_revision strictness revision ≡ not (eqb revision 1)
unfolding wrong_madt_revision
revision_strict strictness revision h = rw h
