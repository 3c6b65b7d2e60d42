-- When 10, 20 and 21 are told, and what a table is, by bytes of memory: a theorem for each statement of specs/Memory.
use Prim.Native.Nat.{ℕ, ◌+◌, ◌≤◌, ◌<◌}
use native.Mathlib.Omega.{arith}
use mathlib.Core.Bool.{Bool, true, false, not, ◌||◌, or-true, true≢false}
use mathlib.Core.List.{List}
use mathlib.Core.Logic.{◌⊎◌, inl, inr}
use mathlib.Core.Path.{◌≡◌, refl, sym, ap, ◌∙◌}
use lib.Dec.{ltb}
use borrow.Author.Tests.{ltb-true, ltb-false, lt-ltb, not-false}
use Rattle.words.specs.Choice.{if}
use Rattle.words.specs.Refusals.{refused, unless, first_refusal}
use Rattle.words.specs.declared.Refusal.{Refusal}
use Rattle.words.proofs.Tests.{neither_left, neither_right}
use Rattle.words.proofs.Verdicts.{joined_sound}
use Rattle.capture.specs.Fields.{rsdp_address}
use Rattle.capture.specs.Rules.{container_rules, verdict}
use Rattle.capture.specs.Presence.{Stretch, Present, Absent, is_present, place_of, located, rsdp_size, rsdp_stretch, presence_rules, rsdp_place, rsdp}
use Rattle.capture.proofs.Within.{Sound, present_at}
use Rattle.capture.proofs.Apart.{bytes_in_order, first_byte, one_byte, one_place}
use Rattle.capture.proofs.Memory.{absent_misses, present_exactly}
use Rattle.tables.specs.Table.{header_size, address_at, header_at, table_length, table_named, cut_short, wrong_sum, table_rules, table_at}
use Rattle.tables.specs.declared.Table.{Table}
use Rattle.tables.proofs.Laws.{table_kept, table_told, table_is}
use Rattle.promises.specs.Memory.{Lacks, TenExactly, TwentyExactly, CutShort, TwentyOneExactly, TablesAreMemory}
use Rattle.std.specs.Prelude.{Ok, Err}

module _ (capture : List ℕ) (sound : Sound capture) where
  -- a stretch that lacks a byte is absent
  lacking : (address size : ℕ) → Lacks capture address size → located capture address size ≡ Absent
  lacking address size l = go (located capture address size) refl
    where
      go : (s : Stretch) → located capture address size ≡ s → located capture address size ≡ Absent
      go Absent e = e
      go (Present place) e =
          let s = bytes_in_order capture address size place e l.0 l.1 in
          absurd (true≢false (sym s.has ∙ l.2 s.segment s.counted))

  -- ---- 10
  ten_absent : located capture (rsdp_address capture) rsdp_size ≡ Absent → rsdp capture ≡ Err (refused 10 10)
  unfolding rsdp verdict presence_rules rsdp_stretch is_present first_refusal unless if
  ten_absent h = joined_sound _ (container_rules capture) _ _ sound ∙ rw h

  ten_present : (place : ℕ) → located capture (rsdp_address capture) rsdp_size ≡ Present place → rsdp capture ≡ Ok place
  unfolding rsdp verdict presence_rules rsdp_place rsdp_stretch is_present place_of first_refusal unless if
  ten_present place h = joined_sound _ (container_rules capture) _ _ sound ∙ rw h

  pub ten_exactly : TenExactly capture
  ten_exactly = (λ told. go told (located capture (rsdp_address capture) rsdp_size) refl, λ l. ten_absent (lacking (rsdp_address capture) rsdp_size l))
    where
      go : rsdp capture ≡ Err (refused 10 10) → (s : Stretch) → located capture (rsdp_address capture) rsdp_size ≡ s
          → Lacks capture (rsdp_address capture) rsdp_size
      go told Absent e = absent_misses capture sound (rsdp_address capture) rsdp_size (omega arith) e
      go told (Present place) e =
          let other : Ok place ≡ Err (refused 10 10) = sym (ten_present place e) ∙ told in
          absurd (let z : ◌≡◌ {A = ℕ} 0 1 = cc in omega arith)

  -- ---- 20 and 21, of the table that a field names
  at_absent : (field : ℕ) → located capture (address_at capture field) header_size ≡ Absent → table_at capture field ≡ Err (refused 20 field)
  unfolding table_at table_rules header_at is_present first_refusal unless if
  at_absent field h = rw h

  at_cut : (field place : ℕ) → located capture (address_at capture field) header_size ≡ Present place
      → cut_short capture (address_at capture field) place ≡ true → table_at capture field ≡ Err (refused 21 place)
  unfolding table_at table_rules header_at is_present place_of first_refusal unless if
  at_cut field place h cut = rw (h, cut)

  -- what is told of it, and why
  data Way (field : ℕ) : Type 0 where
    absent : located capture (address_at capture field) header_size ≡ Absent → table_at capture field ≡ Err (refused 20 field) → Way field
    cut : (place : ℕ) → located capture (address_at capture field) header_size ≡ Present place
        → cut_short capture (address_at capture field) place ≡ true → table_at capture field ≡ Err (refused 21 place) → Way field
    unsummed : (place : ℕ) → table_at capture field ≡ Err (refused 22 place) → Way field
    taken : (table : Table) → table_at capture field ≡ Ok table → Way field

  way : (field : ℕ) → Way field
  unfolding table_at table_rules header_at is_present place_of first_refusal unless if
  way field = by (located capture (address_at capture field) header_size) refl
    where
      by_sum : (place : ℕ) → located capture (address_at capture field) header_size ≡ Present place
          → cut_short capture (address_at capture field) place ≡ false → (b : Bool) → wrong_sum capture place ≡ b → Way field
      by_sum place e whole true wrong = unsummed place (rw (e, whole, wrong))
      by_sum place e whole false right = taken (table_named capture field) (rw (e, whole, right))

      by_length : (place : ℕ) → located capture (address_at capture field) header_size ≡ Present place → (b : Bool)
          → cut_short capture (address_at capture field) place ≡ b → Way field
      by_length place e true short = cut place e short (at_cut field place e short)
      by_length place e false whole = by_sum place e whole (wrong_sum capture place) refl

      by : (s : Stretch) → located capture (address_at capture field) header_size ≡ s → Way field
      by Absent e = absent e (at_absent field e)
      by (Present place) e = by_length place e (cut_short capture (address_at capture field) place) refl

  -- one number and one place is told, and none of a table that is taken
  one_told : (field : ℕ) {n m p q : ℕ} → table_at capture field ≡ Err (refused n p) → table_at capture field ≡ Err (refused m q) → (n ≡ m) × (p ≡ q)
  one_told field {n} {m} {p} {q} h g =
      let told : Err (refused n p) ≡ Err (refused m q) = sym h ∙ g in
      let same : refused n p ≡ refused m q = cc in
      (ap (λ (r : Refusal). r.number) same, ap (λ (r : Refusal). r.place) same)

  not-told : (field : ℕ) {n p : ℕ} {table : Table} → table_at capture field ≡ Ok table → table_at capture field ≡ Err (refused n p) → ⊥
  not-told field h g =
      let same = sym h ∙ g in
      let z : ◌≡◌ {A = ℕ} 0 1 = cc in
      omega arith

  pub twenty_exactly : TwentyExactly capture
  twenty_exactly field = (λ told. go told (way field), λ l. at_absent field (lacking (address_at capture field) header_size l))
    where
      go : table_at capture field ≡ Err (refused 20 field) → Way field → Lacks capture (address_at capture field) header_size
      go told (absent e t) = absent_misses capture sound (address_at capture field) header_size (omega arith) e
      go told (cut place e c t) = absurd (omega (arith, (one_told field t told).0))
      go told (unsummed place t) = absurd (omega (arith, (one_told field t told).0))
      go told (taken table t) = absurd (not-told field t told)

  -- 21 by the table's length: it is under 36, or the table lacks a byte
  short_or_lacking : (address place : ℕ) → cut_short capture address place ≡ true
      → (table_length capture place < header_size) ⊎ Lacks capture address (table_length capture place)
  unfolding cut_short is_present
  short_or_lacking address place = by (ltb (table_length capture place) header_size) refl
    where
      gone : 0 < table_length capture place → (s : Stretch) → located capture address (table_length capture place) ≡ s
          → not (is_present (located capture address (table_length capture place))) ≡ true → Lacks capture address (table_length capture place)
      gone some Absent e h = absent_misses capture sound address (table_length capture place) some e
      gone some (Present p) e h = absurd (true≢false (sym h ∙ rw e))

      by : (b : Bool) → ltb (table_length capture place) header_size ≡ b
          → (ltb (table_length capture place) header_size || not (is_present (located capture address (table_length capture place)))) ≡ true
          → (table_length capture place < header_size) ⊎ Lacks capture address (table_length capture place)
      by true e h = inl (ltb-true _ _ e)
      by false e h =
          let long : header_size ≤ table_length capture place = ltb-false _ _ e in
          inr (gone (omega arith) (located capture address (table_length capture place)) refl (rw e at h))

  cut_by : (address place : ℕ) → (table_length capture place < header_size) ⊎ Lacks capture address (table_length capture place)
      → cut_short capture address place ≡ true
  unfolding cut_short is_present
  cut_by address place (inl short) = rw (lt-ltb _ _ short)
  cut_by address place (inr l) = rw (lacking address (table_length capture place) l) (or-true (ltb (table_length capture place) header_size))

  pub twenty_one_exactly : TwentyOneExactly capture
  twenty_one_exactly field place = (λ told. go told (way field), back)
    where
      go : table_at capture field ≡ Err (refused 21 place) → Way field → CutShort capture field place
      go told (absent e t) = absurd (omega (arith, (one_told field t told).0))
      go told (cut p e c t) =
          let same = (one_told field t told).1 in
          rw (← same)
          (record {
            header = λ k inside. (p + k, bytes_in_order capture (address_at capture field) header_size p e k inside);
            there = first_byte capture (address_at capture field) header_size p (omega arith) e;
            short = short_or_lacking (address_at capture field) p c;
          })
      go told (unsummed p t) = absurd (omega (arith, (one_told field t told).0))
      go told (taken table t) = absurd (not-told field t told)

      back : CutShort capture field place → table_at capture field ≡ Err (refused 21 place)
      back c =
          let address = address_at capture field in
          let there = present_at (located capture address header_size) ((present_exactly capture sound address header_size (omega arith)).1 c.header) in
          let same = one_byte capture sound address _ place (first_byte capture address header_size _ (omega arith) there) c.there in
          at_cut field place (there ∙ ap Present same) (cut_by address place c.short)

  pub tables_are_memory : TablesAreMemory capture
  unfolding table_named header_at cut_short
  tables_are_memory field table h k inside =
      let address = address_at capture field in
      let place = place_of (located capture address header_size) in
      let size = table_length capture place in
      let named = table_is capture field h in
      let kept = table_kept capture field (table_told capture field h) in
      let long = ltb-false size header_size (neither_left _ (not (is_present (located capture address size))) kept.1) in
      let there = present_at (located capture address size) (not-false _ (neither_right (ltb size header_size) _ kept.1)) in
      let same = one_place capture sound address header_size size place _ (omega arith) (omega arith) kept.0 there in
      rw (← named) (bytes_in_order capture address size place (there ∙ ap Present (sym same)) k (rw (← named) at inside))
