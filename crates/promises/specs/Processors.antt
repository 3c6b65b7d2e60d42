-- Document 01's rule on different UIDs and different physical IDs, which by W-203 of document 02 "binds enabled entries only": what is
-- promised of 39 and of the lists that come back, in either reading. Each statement stands alone; proofs/Processors.antt has a theorem
-- for it.
use Rattle.std.specs.Prelude.{ℕ, ◌+◌, ◌*◌, ◌<◌, ◌≤◌, List, ◌++◌, ◌⊎◌, ◌≡◌, get_or, Ok, Err}
use Rattle.words.specs.Refusals.{refused_with, first_refusal}
use Rattle.tables.specs.Survey.{tables_of, survey_rules}
use Rattle.tables.specs.declared.Strictness.{Strictness}
use Rattle.madt.specs.Walk.{walk_rules}
use Rattle.processors.specs.Listing.{cores_of, processors, count}
use Rattle.processors.specs.Repeats.{offset_of}
use Rattle.map_promises.specs.Clashing.{OnePlace, Exactly}
use Rattle.reading.specs.Scan.{madt_bytes, scan}
use Rattle.reading.specs.Reading.{madt_found, reading_of, list_after}
use Rattle.promises.specs.Captures.{Accepted}
use Rattle.promises.specs.Readings.{madt_place}

-- ---- "UID and physical ID of each enabled CORE, in table order": of processor k in a list of numbers
abbrev pub uid_of : List ℕ → ℕ → ℕ
uid_of list k = get_or list (2 * k) 0

abbrev pub id_of : List ℕ → ℕ → ℕ
id_of list k = get_or list (2 * k + 1) 0

-- two of them share a UID or a physical ID
abbrev pub Share : List ℕ → ℕ → ℕ → Type 0
Share list i k = (uid_of list i ≡ uid_of list k) ⊎ (id_of list i ≡ id_of list k)

-- "repeats an ID of an earlier one": one of the first n does
abbrev pub Repeats : List ℕ → ℕ → ℕ → Type 0
Repeats list n k = (k < n) × (i : ℕ) × (i < k) × Share list i k

-- ---- 39
-- the bytes of the MADT that a capture's tables name; they mean something where no rule before 29 is broken
abbrev pub madt_of : List ℕ → List ℕ
madt_of capture = madt_bytes capture (tables_of capture).madt

-- no rule before 39 is broken: 1 to 30, and those of the structures
abbrev pub KeepsTo38 : Strictness → List ℕ → Type 0
KeepsTo38 strictness capture = first_refusal (survey_rules strictness capture ++ walk_rules (madt_of capture) (madt_place capture)) ≡ Ok tt

-- and the processor list repeats a UID or a physical ID
abbrev pub Breaks39 : Strictness → List ℕ → Type 0
Breaks39 strictness capture = KeepsTo38 strictness capture × (k : ℕ) × Repeats (processors (madt_of capture)) (count (madt_of capture)) k

-- "the place is the later one's; the first in table order is named": p is where the CORE of the first processor stands that does; the
-- MADT stands at `base`
pub record NamesRepeat (table : List ℕ) (base p : ℕ) : Type 0 where
  pub k : ℕ
  pub repeats : Repeats (processors table) (count table) k
  pub first : (j : ℕ) → Repeats (processors table) (count table) j → k ≤ j
  pub at : p ≡ base + offset_of (cores_of table) k

-- 39 is told exactly then, there, and with no second place: of what the capture is refused with, and of the reading's answer, whatever
-- list it is lent
pub record ThirtyNineExactly (strictness : Strictness) (capture : List ℕ) : Type 0 where
  pub scanned : Exactly (λ p q. (scan strictness capture).verdict ≡ Err (refused_with 39 p q)) (Breaks39 strictness capture)
      (OnePlace (NamesRepeat (madt_of capture) (madt_place capture)))
  pub read : (list : List ℕ)
      → Exactly (λ p q. (reading_of strictness capture list).answer ≡ Err (refused_with 39 p q)) (Breaks39 strictness capture)
      (OnePlace (NamesRepeat (madt_of capture) (madt_place capture)))

-- ---- the lists that come back
-- the first n processors of a list have "different UIDs and different physical IDs"
pub record AllDiffer (list : List ℕ) (n : ℕ) : Type 0 where
  pub uids : (i k : ℕ) → i < k → k < n → uid_of list i ≡ uid_of list k → ⊥
  pub ids : (i k : ℕ) → i < k → k < n → id_of list i ≡ id_of list k → ⊥

-- so do those of every accepted capture,
abbrev pub AcceptedDiffer : Strictness → List ℕ → Type 0
AcceptedDiffer strictness capture =
    Accepted strictness capture → AllDiffer (processors (madt_found strictness capture)) (count (madt_found strictness capture))

-- and those of a list that was lent and filled
abbrev pub ReadDiffer : Strictness → List ℕ → List ℕ → Type 0
ReadDiffer strictness capture list =
    (n : ℕ) → (reading_of strictness capture list).answer ≡ Ok n → AllDiffer (list_after strictness capture list) n
