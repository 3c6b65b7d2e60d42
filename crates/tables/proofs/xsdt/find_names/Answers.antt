-- `tables::find_names` gives the refusal of the first entry that has one; where none has, what it knows in the end is what the
-- finder finds.
use Rattle.std.proofs.Common.{◌≡◌, ℕ, ◌<◌, ◌≤◌, ap, refl, ◌∙◌, rules}
use Rattle.words.specs.Refusals.{unless}
use lib.Dec.{eqb}
use Rattle.words.specs.Bytes.{spelled}
use Rattle.words.proofs.Searches.{next_number, no_number}
use Rattle.words.proofs.Verdicts.{ask_refused, ask_kept, ask_over}
use Rattle.tables.specs.Table.{table_at}
use Rattle.tables.specs.Xsdt.{entry_count, entry_field}
use Rattle.tables.specs.Survey.{apic, facp}
use Rattle.tables.specs.Naming.{one_more}
use Rattle.tables.proofs.Laws.{table_told}
use Rattle.tables.proofs.Naming.{note_start, note_checked, note_end, ask_start}
use Rattle.tables.proofs.xsdt.find_names.Goals as goal
use Rattle.std.specs.Prelude.{Ok, Err}

pub loop-entry-init : goal.loop-entry-init
loop-entry-init c = (ask_start _ _ refl, note_start _ _ _ c.not_named-madt.ensures, note_start _ _ _ c.not_named-fadt.ensures)

pub returns-in_err-table : goal.returns-in_err-table
unfolding unless
returns-in_err-table c =
    let is : table_at c.args.capture.bytes.now (entry_field c.args.xsdt c.loop-entry.entry) ≡ Err c.in_err-table.field-0.0 = search rules in
    let known = c.loop-entry.invariant in
    let counted : c.loop-entry.entry < entry_count c.args.xsdt = search rules in
    rw (ask_refused known.0 (next_number _ _ counted) (table_told _ _ is)) search rules

pub loop-entry-preserved : goal.loop-entry-preserved
unfolding apic facp spelled
loop-entry-preserved c =
    let table = c.in_ok-table.table in
    let known = c.loop-entry.invariant in
    let signed = c.signature_of-letters.ensures in
    let is : table_at c.args.capture.bytes.now (entry_field c.args.xsdt c.loop-entry.entry) ≡ Ok table = search rules in
    let counted : c.loop-entry.entry < entry_count c.args.xsdt = search rules in (
      ask_kept known.0 (next_number _ _ counted) (table_told _ _ is),
      note_checked _ _ apic table known.1 counted is (c.noted-madt.ensures ∙ ap (λ (n : ℕ). one_more c.loop-entry.madt (eqb n apic) table c.loop-entry.entry) signed),
      note_checked _ _ facp table known.2 counted is (c.noted-fadt.ensures ∙ ap (λ (n : ℕ). one_more c.loop-entry.fadt (eqb n facp) table c.loop-entry.entry) signed),
    )

pub returns : goal.returns
unfolding unless
returns c =
    let known = c.loop-entry.invariant in
    let over : entry_count c.args.xsdt ≤ c.loop-entry.entry = search rules in
    rw (ask_over known.0 (no_number _ _ over), ← note_end _ _ _ known.1 over, ← note_end _ _ _ known.2 over) refl
