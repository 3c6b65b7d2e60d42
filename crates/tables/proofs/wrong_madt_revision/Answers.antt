-- `tables::wrong_madt_revision` is refusal 29, by the reading's strictness.
use mathlib.Core.Path.{sym}
use Rattle.tables.proofs.Laws.{revision_ordinary, revision_strict}
use Rattle.tables.proofs.wrong_madt_revision.Goals as goal

pub returns-in-Ordinary : goal.returns-in-Ordinary
returns-in-Ordinary c = sym (revision_ordinary _ _ c.in-Ordinary.is)

pub returns-in-Strict : goal.returns-in-Strict
returns-in-Strict c = sym (revision_strict _ _ c.in-Strict.is)
