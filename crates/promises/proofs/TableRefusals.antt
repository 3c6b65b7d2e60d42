-- Refusals 11 to 30: of the RSDP, of a table by its address field, of the XSDT and its entries, of MADT and FADT.
use Prim.Native.Nat.{ℕ, ◌+◌, ◌-◌, ◌<◌, ◌≤◌}
use native.Mathlib.Omega.{arith}
use mathlib.Core.Path.{◌≡◌, refl}
use mathlib.Core.List.{List, ◌++◌}
use lib.Dec.{leb}
use lib.ListN.{length}
use borrow.Author.Tests.{not-false}
use Rattle.words.specs.Lists.{numbers_below}
use Rattle.words.specs.Refusals.{Verdict, first_refusal}
use Rattle.words.proofs.Choices.{if_cases}
use Rattle.capture.specs.Fields.{rsdp_address}
use Rattle.capture.specs.Rules.{container_rules, verdict}
use Rattle.capture.specs.Presence.{place_of, rsdp_size, presence_rules, rsdp_place}
use Rattle.capture.proofs.Within.{Sound, within, behind, present_at, rsdp_there}
use Rattle.tables.specs.Rsdp.{rsdp_rules, xsdt_field}
use Rattle.tables.specs.Table.{header_size, address_at, header_at, table_rules}
use Rattle.tables.specs.Xsdt.{entry_count, entry_field, entries, xsdt_rules, entry_rules}
use Rattle.tables.specs.Finder.{names, named_from, first_named, named_after, second_named}
use Rattle.tables.specs.Survey.{apic, facp, earlier, second_rule, name_rules, length_rules, madt_field_rules, with_sci, madt_of, fadt_of, tables_from, xsdt_of, tables_of, rules_before_29, survey_rules, survey}
use Rattle.tables.specs.declared.Table.{Table}
use Rattle.tables.proofs.Inside.{Lies, named_inside, both_inside, kept_inside, tables_inside, survey-told as told-by}
use Rattle.tables.specs.declared.Strictness.{Strictness}
use Rattle.promises.proofs.Told.{OfTheRules, Told, is_of_capture, is_of_tables, is_before_29, is_29_or_30, is_to_30, told_left, told_right, Inside, tell, none_told, more_told, rule_told, joined-told, each-told, search_told}
use Rattle.promises.proofs.CaptureRefusals.{container_told, presence_told}
use Rattle.std.specs.Prelude.{Result, Option, Ok, Err, Some, None}
use Rattle.words.specs.declared.Refusal.{Refusal}
use Rattle.tables.specs.declared.Tables.{Tables}

-- a table that lies inside the capture stands there
pub stands : {capture : List ℕ} {table : Table} {least : ℕ} → Lies capture table least → 0 < least → Inside capture table.place
stands l some = (l.behind, omega (arith, l.inside, l.long))

-- ---- 11 to 14
rsdp-rules-told : (capture : List ℕ) (place : ℕ) → Inside capture place → Told is_of_tables capture (first_refusal (rsdp_rules capture place))
unfolding rsdp_rules
rsdp-rules-told capture place l =
    rule_told is_of_tables capture _ 11 place _ (tell is_of_tables capture 11 place (refl, refl, refl, refl) l)
    (λ t. rule_told is_of_tables capture _ 12 place _ (tell is_of_tables capture 12 place (refl, refl, refl, refl) l)
    (λ t. rule_told is_of_tables capture _ 13 place _ (tell is_of_tables capture 13 place (refl, refl, refl, refl) l)
    (λ t. rule_told is_of_tables capture _ 14 place _ (tell is_of_tables capture 14 place (refl, refl, refl, refl) l)
    (λ t. none_told is_of_tables capture))))

-- ---- 20 to 22
table_told : (capture : List ℕ) (field : ℕ) → Sound capture → Inside capture field → Told is_of_tables capture (first_refusal (table_rules capture field))
unfolding table_rules header_at
table_told capture field sound l =
    let place = place_of (header_at capture field) in
    rule_told is_of_tables capture _ 20 field _ (tell is_of_tables capture 20 field (refl, refl, refl, refl) l)
    (λ t.
    let there = present_at (header_at capture field) (not-false _ t) in
    let ends = within capture (address_at capture field) header_size place sound there in
    let at : Inside capture place = (omega (arith, behind capture (address_at capture field) header_size place there), omega arith) in
    rule_told is_of_tables capture _ 21 place _ (tell is_of_tables capture 21 place (refl, refl, refl, refl) at)
    (λ t. rule_told is_of_tables capture _ 22 place _ (tell is_of_tables capture 22 place (refl, refl, refl, refl) at)
    (λ t. none_told is_of_tables capture)))

-- ---- the XSDT and its entries
module _ (capture : List ℕ) (sound : Sound capture) (xsdt : Table) (lies : Lies capture xsdt 36) where
  -- an entry's address field is inside the XSDT
  field_at : (entry : ℕ) → entry < entry_count xsdt → Inside capture (entry_field xsdt entry)
  unfolding entry_count entry_field
  field_at entry h = (omega arith, omega (arith, lies.inside, lies.long))

  -- 23 to 25
  xsdt_rules_told : Told is_of_tables capture (first_refusal (xsdt_rules capture xsdt))
  unfolding xsdt_rules
  xsdt_rules_told =
      let at = stands lies (omega arith) in
      rule_told is_of_tables capture _ 23 _ _ (tell is_of_tables capture 23 xsdt.place (refl, refl, refl, refl) at)
      (λ t. rule_told is_of_tables capture _ 24 _ _ (tell is_of_tables capture 24 xsdt.place (refl, refl, refl, refl) at)
      (λ t. rule_told is_of_tables capture _ 25 _ _ (tell is_of_tables capture 25 xsdt.place (refl, refl, refl, refl) at)
      (λ t. none_told is_of_tables capture)))

  -- 20 to 22 of each entry
  entries-told : Told is_of_tables capture (first_refusal (entry_rules capture xsdt))
  unfolding entry_rules entries numbers_below
  entries-told =
      each-told is_of_tables capture (λ (k : ℕ). table_rules capture (entry_field xsdt k)) 0 (entry_count xsdt)
      (λ k l h. table_told capture (entry_field xsdt k) sound (field_at k (omega arith)))

  -- what the finder finds is one of the entries
  abbrev Counted : Option ℕ → Type 0
  Counted None = 0 < 1
  Counted (Some entry) = entry < entry_count xsdt

  from_counted : (letters from : ℕ) → Counted (named_from capture xsdt letters from)
  unfolding named_from
  from_counted letters from =
      search_told Counted (names capture xsdt letters) Some None from (entry_count xsdt - from) (λ i l h t. omega arith) (omega arith)

  second_counted : (letters : ℕ) → Counted (second_named capture xsdt letters)
  unfolding second_named named_after
  second_counted letters = go (first_named capture xsdt letters)
    where
      go : (e : Option ℕ) → Counted (named_after capture xsdt letters e)
      go None = omega arith
      go (Some entry) = from_counted letters (entry + 1)

  earlier_counted : (e f : Option ℕ) → Counted e → Counted f → Counted (earlier e f)
  unfolding earlier
  earlier_counted None f p q = q
  earlier_counted (Some entry) None p q = p
  earlier_counted (Some entry) (Some other) p q = if_cases Counted (leb entry other) _ _ (λ t. p) (λ t. q)

  -- 27
  second_told : (e : Option ℕ) → Counted e → Told is_of_tables capture (second_rule xsdt e)
  unfolding second_rule
  second_told None p = omega arith
  second_told (Some entry) p = tell is_of_tables capture 27 (entry_field xsdt entry) (refl, refl, refl, refl) (field_at entry p)

  -- 26 and 27
  names-told : Told is_of_tables capture (first_refusal (name_rules capture xsdt))
  unfolding name_rules
  names-told =
      rule_told is_of_tables capture _ 26 _ _ (tell is_of_tables capture 26 xsdt.place (refl, refl, refl, refl) (stands lies (omega arith)))
      (λ t. more_told is_of_tables capture _ _
      (second_told _
      (earlier_counted (second_named capture xsdt apic) (second_named capture xsdt facp) (second_counted apic) (second_counted facp)))
      (λ t. none_told is_of_tables capture))

-- 28
lengths-told : (capture : List ℕ) (madt fadt : Table) → Inside capture madt.place → Inside capture fadt.place
    → Told is_of_tables capture (first_refusal (length_rules madt fadt))
unfolding length_rules
lengths-told capture madt fadt m f =
    rule_told is_of_tables capture _ 28 _ _ (tell is_of_tables capture 28 madt.place (refl, refl, refl, refl) m)
    (λ t. rule_told is_of_tables capture _ 28 _ _ (tell is_of_tables capture 28 fadt.place (refl, refl, refl, refl) f)
    (λ t. none_told is_of_tables capture))

-- 29 and 30
pub fields_told : (strictness : Strictness) (capture : List ℕ) (madt : Table) → Inside capture madt.place
    → Told is_29_or_30 capture (first_refusal (madt_field_rules strictness capture madt))
unfolding madt_field_rules
fields_told strictness capture madt m =
    rule_told is_29_or_30 capture _ 29 _ _ (tell is_29_or_30 capture 29 madt.place (refl, refl, refl, refl) m)
    (λ t. rule_told is_29_or_30 capture _ 30 _ _ (tell is_29_or_30 capture 30 madt.place (refl, refl, refl, refl) m)
    (λ t. none_told is_29_or_30 capture))

-- ---- all of them in turn
rsdp_inside : (capture : List ℕ) → Sound capture → first_refusal (presence_rules capture) ≡ Ok tt
    → (0 < rsdp_place capture) × (rsdp_place capture + rsdp_size ≤ length capture)
rsdp_inside capture sound h =
    let there = rsdp_there capture h in
    (omega (arith, behind capture (rsdp_address capture) rsdp_size (rsdp_place capture) there), within capture (rsdp_address capture) rsdp_size (rsdp_place capture) sound there)

-- the rules that come after those of the capture, up to 28
abbrev pub rules_from_10 : List ℕ → List Verdict
rules_from_10 capture =
    let rsdp = rsdp_place capture in
    let xsdt = xsdt_of capture in
    presence_rules capture
    ++ (rsdp_rules capture rsdp
    ++ (table_rules capture (xsdt_field rsdp)
    ++ (xsdt_rules capture xsdt
    ++ (entry_rules capture xsdt ++ (name_rules capture xsdt ++ length_rules (madt_of capture xsdt) (fadt_of capture xsdt))))))

-- 10 to 28
pub from_10_told : (capture : List ℕ) → Sound capture → Told is_of_tables capture (first_refusal (rules_from_10 capture))
unfolding xsdt_of xsdt_field
from_10_told capture sound =
    let rsdp = rsdp_place capture in
    let xsdt = xsdt_of capture in
    joined-told is_of_tables capture (presence_rules capture) _ (presence_told capture sound)
    (λ present.
    let at = rsdp_inside capture sound present in
    joined-told is_of_tables capture (rsdp_rules capture rsdp) _ (rsdp-rules-told capture rsdp (at.0, omega (arith, at.1)))
    (λ h. joined-told is_of_tables capture (table_rules capture (xsdt_field rsdp)) _
    (table_told capture (xsdt_field rsdp) sound (omega arith, omega (arith, at.1)))
    (λ whole.
    let lies = named_inside capture (xsdt_field rsdp) sound whole in
    joined-told is_of_tables capture (xsdt_rules capture xsdt) _ (xsdt_rules_told capture sound xsdt lies)
    (λ h. joined-told is_of_tables capture (entry_rules capture xsdt) _ (entries-told capture sound xsdt lies)
    (λ through. joined-told is_of_tables capture (name_rules capture xsdt) _ (names-told capture sound xsdt lies)
    (λ names.
    let both = both_inside capture xsdt sound through names in
    lengths-told capture (madt_of capture xsdt) (fadt_of capture xsdt) (stands both.0 (omega arith)) (stands both.1 (omega arith))))))))

-- 1 to 28
pub before_29_told : (capture : List ℕ) → Told is_before_29 capture (first_refusal (rules_before_29 capture))
unfolding rules_before_29 verdict
before_29_told capture =
    joined-told is_before_29 capture (container_rules capture) (rules_from_10 capture)
    (told_left is_of_capture is_of_tables capture (first_refusal (container_rules capture)) (container_told capture))
    (λ sound. told_right is_of_capture is_of_tables capture (first_refusal (rules_from_10 capture)) (from_10_told capture sound))

-- 1 to 30
rules-told : (strictness : Strictness) (capture : List ℕ) → Told is_to_30 capture (first_refusal (survey_rules strictness capture))
unfolding survey_rules tables_of tables_from with_sci
rules-told strictness capture =
    let madt = madt_of capture (xsdt_of capture) in
    joined-told is_to_30 capture (rules_before_29 capture) _
    (told_left is_before_29 is_29_or_30 capture (first_refusal (rules_before_29 capture)) (before_29_told capture))
    (λ kept. told_right is_before_29 is_29_or_30 capture (first_refusal (madt_field_rules strictness capture madt))
    (fields_told strictness capture madt (stands (kept_inside capture kept).madt (omega arith))))

abbrev pub SurveyTold : List ℕ → Result Tables Refusal → Type 0
SurveyTold capture (Ok t) = Inside capture t.madt.place × Inside capture t.fadt.place
SurveyTold capture (Err r) = OfTheRules is_to_30 capture r

pub survey-told : (strictness : Strictness) (capture : List ℕ) → SurveyTold capture (survey strictness capture)
survey-told strictness capture = go (survey strictness capture) refl
  where
    go : (s : Result Tables Refusal) → survey strictness capture ≡ s → SurveyTold capture s
    go (Err r) e = rw (told-by strictness capture e) at (rules-told strictness capture)
    go (Ok t) e =
        let l = tables_inside strictness capture t e in
        (stands l.madt (omega arith), stands l.fadt (omega arith))
