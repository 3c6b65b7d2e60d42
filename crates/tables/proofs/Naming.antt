-- What the loop over the XSDT's entries knows of a signature leads to what the finder finds: one law for every signature.
use mathlib.Core.Bool.{Bool, true, false, ◌||◌}
use mathlib.Core.List.{List}
use mathlib.Core.Path.{◌≡◌, refl, sym, ap, ◌∙◌}
use Prim.Native.Nat.{ℕ, ◌+◌, ◌-◌, ◌≤◌, ◌<◌}
use native.Mathlib.Nat.{sub-zero}
use lib.Dec.{eqb}
use Rattle.words.specs.Choice.{if}
use Rattle.words.specs.Lists.{first, numbers_from, numbers_below}
use Rattle.words.proofs.Searches.{next_number, no_number}
use Rattle.words.specs.Refusals.{Verdict, refused, unless, first_refusal}
use Rattle.words.proofs.Verdicts.{Asking, unless-told, unless_sound, first_alone, first_broken_lem, first_kept}
use Rattle.tables.specs.Table.{signature, header_at, table_named, table_rules, table_at}
use Rattle.tables.specs.Xsdt.{entry_count, entry_field, entries, entry_rules}
use Rattle.tables.specs.Finder.{names, named_from, first_named, named_after, second_named}
use Rattle.tables.specs.Survey.{apic, facp, earlier, second_rule, name_rules, table_of_entry, madt_of, fadt_of}
use Rattle.tables.specs.Naming.{named, not_named, one_more}
use Rattle.tables.specs.declared.Table.{Table}
use Rattle.tables.specs.declared.Named.{Named}
use Rattle.capture.specs.Presence.{Present}
use Rattle.tables.proofs.Laws.{table_kept, table_told, table_is, names_present}
use Rattle.std.specs.Prelude.{Result, Option, Ok, Err, Some, None, is_none}
use Rattle.std.specs.Option.{option_map}
use Rattle.std.proofs.lemmas.Option.{none-some}
use Rattle.words.specs.declared.Refusal.{Refusal}

-- an entry that is known, or else a later one
unfoldable pub or_else : Option ℕ → Option ℕ → Option ℕ
or_else None later = later
or_else (Some entry) later = Some entry

none_else : (entry : Option ℕ) → or_else entry None ≡ entry
unfolding or_else
none_else None = refl
none_else (Some entry) = refl

module _ (capture : List ℕ) (xsdt : Table) (letters : ℕ) where
  -- what will be known in the end: by the first entry that is known, all that is known, and the next entry that names such a table
  unfoldable pub ending : Option Table → Named → Option ℕ → Named
  ending None known None = known
  ending None known (Some entry) =
      record { first = Some (table_named capture (entry_field xsdt entry)); second = named_from capture xsdt letters (entry + 1) }
  ending (Some table) known next = record { first = known.first; second = or_else known.second next }

  -- what is known before an entry leads to what the finder finds
  pub record Noting (known : Named) (entry : ℕ) : Type 0 where
    pub gives : ending known.first known (named_from capture xsdt letters entry) ≡ named capture xsdt letters

  -- the finder, one entry on and at the end
  next_named : (entry : ℕ) → entry < entry_count xsdt
      → named_from capture xsdt letters entry ≡ if (names capture xsdt letters entry) (Some entry) (named_from capture xsdt letters (entry + 1))
  unfolding named_from first if
  next_named entry h = rw (next_number (entry_count xsdt) entry h)

  no_named : (entry : ℕ) → entry_count xsdt ≤ entry → named_from capture xsdt letters entry ≡ None
  unfolding named_from first if
  no_named entry h = rw (no_number (entry_count xsdt) entry h)

  pub note_start : {known : Named} → known ≡ not_named → Noting known 0
  unfolding ending named not_named first_named second_named named_after
  note_start {known} h = record { gives = rw h (go (named_from capture xsdt letters 0) refl) }
    where
      go : (e : Option ℕ) → named_from capture xsdt letters 0 ≡ e → ending not_named.first not_named (named_from capture xsdt letters 0) ≡ named capture xsdt letters
      go None e = rw e
      go (Some entry) e = rw e

  pub note_end : {known : Named} {entry : ℕ} → Noting known entry → entry_count xsdt ≤ entry → known ≡ named capture xsdt letters
  unfolding ending
  note_end {known} {entry} s h = sym (go known.first) ∙ (rw (no_named entry h) at s.gives)
    where
      go : (f : Option Table) → ending f known None ≡ known
      go None = refl
      go (Some first) = ap (λ (e : Option ℕ). record { first = known.first; second = e }) (none_else known.second)

  -- one entry more
  note_next : {known : Named} {entry : ℕ} (signed : Bool) (table : Table) → Noting known entry → entry < entry_count xsdt
      → names capture xsdt letters entry ≡ signed → table_named capture (entry_field xsdt entry) ≡ table
      → Noting (one_more known signed table entry) (entry + 1)
  unfolding ending or_else one_more if
  note_next {known} {entry} signed table s counted told stands =
      record { gives = go signed known.first known.second told refl refl ∙ s.gives }
    where
      go : (b : Bool) (f : Option Table) (g : Option ℕ) → names capture xsdt letters entry ≡ b → known.first ≡ f → known.second ≡ g
          → ending (one_more known b table entry).first (one_more known b table entry) (named_from capture xsdt letters (entry + 1))
          ≡ ending known.first known (named_from capture xsdt letters entry)
      go false f g n e d = rw (next_named entry counted, n)
      go true None g n e d = rw (next_named entry counted, n, e, stands)
      go true (Some first) None n e d = rw (next_named entry counted, n, e, d)
      go true (Some first) (Some second) n e d = rw (next_named entry counted, n, e, d)

  -- and so after an entry that was not refused, in the loop's own terms
  pub note_checked : {known later : Named} {entry : ℕ} (table : Table) → Noting known entry → entry < entry_count xsdt
      → table_at capture (entry_field xsdt entry) ≡ Ok table
      → later ≡ one_more known (eqb (signature capture table.place) letters) table entry → Noting later (entry + 1)
  unfolding table_named
  note_checked {known} {later} {entry} table s counted is told =
      let field = entry_field xsdt entry in
      let stands = table_is capture field is in
      let there : header_at capture field ≡ Present table.place = (table_kept capture field (table_told capture field is)).0 ∙ ap (λ (t : Table). Present t.place) stands in
      rw told (note_next (eqb (signature capture table.place) letters) table s counted (names_present capture xsdt letters entry there) stands)

-- the entries' rules in turn, before the first entry
pub ask_start : (capture : List ℕ) (xsdt : Table) {n : ℕ} → n ≡ entry_count xsdt
    → Asking (λ entry. table_rules capture (entry_field xsdt entry)) (first_refusal (entry_rules capture xsdt)) (numbers_from 0 (n - 0))
unfolding entry_rules entries numbers_below
ask_start capture xsdt e = record { gives = rw (sub-zero, e) }

-- what the loop's answer tells of the entries' rules, and what it names
abbrev Both : Type 0
Both = Result (Named × Named) Refusal

abbrev said : Both → Verdict
said (Ok (madt, fadt)) = Ok tt
said (Err refusal) = Err refusal

abbrev both : List ℕ → Table → Both
both capture xsdt = Ok (named capture xsdt apic, named capture xsdt facp)

module _ (capture : List ℕ) (xsdt : Table) (v : Verdict) {answer : Both} (h : unless Err v (both capture xsdt) ≡ answer) where
  pub names-told : v ≡ said answer
  names-told = sym (unless-told Err said (λ r. refl) v _ refl) ∙ ap said h

pub are_told : (capture : List ℕ) (xsdt : Table) (v : Verdict) {madt fadt : Named}
    → unless Err v (both capture xsdt) ≡ Ok (madt, fadt) → (madt ≡ named capture xsdt apic) × (fadt ≡ named capture xsdt facp)
are_told capture xsdt v {madt} {fadt} h =
    let are : both capture xsdt ≡ Ok (madt, fadt) = sym (unless_sound Err v _ (names-told capture xsdt v h)) ∙ h in
    let same : ◌≡◌ {A = Named × Named} (named capture xsdt apic, named capture xsdt facp) (madt, fadt) = cc in
    (sym (ap (λ (n : Named × Named). n.0) same), sym (ap (λ (n : Named × Named). n.1) same))

-- of a signature that no entry's table has, no table is known, and else the table of the first such entry
is_none-mapped : {A B : Type 0} (f : A → B) (o : Option A) → is_none (option_map f o) ≡ is_none o
is_none-mapped f None = refl
is_none-mapped f (Some x) = refl

first_table : (capture : List ℕ) (xsdt : Table) (o : Option ℕ) {table : Table}
    → option_map (λ entry. table_named capture (entry_field xsdt entry)) o ≡ Some table → table ≡ table_of_entry capture xsdt o
unfolding table_of_entry
first_table capture xsdt None h = absurd (none-some _ h)
first_table capture xsdt (Some entry) h = cc

-- refusals 26 and 27, and the tables, by what the entries say of both signatures
module _ (capture : List ℕ) (xsdt : Table) {madt fadt : Named} (m : madt ≡ named capture xsdt apic) (f : fadt ≡ named capture xsdt facp) where
  -- whether one of the two is missing
  missing : (is_none madt.first || is_none fadt.first) ≡ (is_none (first_named capture xsdt apic) || is_none (first_named capture xsdt facp))
  unfolding named
  missing = rw (m, f, is_none-mapped, is_none-mapped) refl

  pub names_26 : (is_none madt.first || is_none fadt.first) ≡ true → first_refusal (name_rules capture xsdt) ≡ Err (refused 26 xsdt.place)
  unfolding name_rules
  names_26 h = first_broken_lem _ 26 _ _ (sym missing ∙ h)

  pub names_27 : (is_none madt.first || is_none fadt.first) ≡ false → {verdict : Verdict}
      → second_rule xsdt (earlier madt.second fadt.second) ≡ verdict → first_refusal (name_rules capture xsdt) ≡ verdict
  unfolding name_rules named
  names_27 h {verdict} e = first_kept _ 26 _ _ (sym missing ∙ h) (first_alone _ ∙ (rw (m, f) at e))

  pub names_tables : {a b : Table} → madt.first ≡ Some a → fadt.first ≡ Some b → (a ≡ madt_of capture xsdt) × (b ≡ fadt_of capture xsdt)
  unfolding named madt_of fadt_of
  names_tables x y = (first_table capture xsdt _ (rw m at x), first_table capture xsdt _ (rw f at y))
