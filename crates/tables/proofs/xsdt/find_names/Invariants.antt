-- `tables::find_names` gives the refusal of the first entry that has one; where none has, what it knows in the end is what the
-- finder finds.
use Prim.Native.Nat.{ℕ, ◌-◌}
use Rattle.words.specs.Lists.{numbers_from}
use Rattle.words.specs.Refusals.{first_refusal}
use Rattle.words.proofs.Verdicts.{Asking}
use Rattle.tables.specs.Table.{table_rules}
use Rattle.tables.specs.Xsdt.{entry_count, entry_field, entry_rules}
use Rattle.tables.specs.Survey.{apic, facp}
use Rattle.tables.proofs.Naming.{Noting}
use Rattle.tables.proofs.xsdt.find_names.Given as goal

abbrev pub invariant-loop-entry : goal.invariant-loop-entry
invariant-loop-entry l =
    Asking (λ (k : ℕ). table_rules l.capture.bytes.now (entry_field l.xsdt k)) (first_refusal (entry_rules l.capture.bytes.now l.xsdt)) (numbers_from l.entry (entry_count l.xsdt - l.entry))
    × Noting l.capture.bytes.now l.xsdt apic l.madt l.entry
    × Noting l.capture.bytes.now l.xsdt facp l.fadt l.entry
