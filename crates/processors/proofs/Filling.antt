-- The entries of processors one behind the other, as they are written, and what comes of filling a list.
use mathlib.Core.Path.{◌≡◌, refl, sym, ap, ◌∙◌}
use Rattle.std.proofs.Common.{Result, Ok, Err, length-append}
use Rattle.std.proofs.Math.Nat.{div-lt_iff_lt-mul, le-div_iff_mul-le}
use mathlib.Core.Bool.{true, false}
use mathlib.Core.List.{List, [], ◌∷◌}
use Prim.Native.Nat.{ℕ, ◌+◌, ◌*◌, ◌/◌, ◌≤◌, ◌<◌}
use native.Mathlib.Numerals.{add-one}
use native.Mathlib.Omega.{arith}
use borrow.Author.Tests.{le-leb, lt-leb}
use lib.ListN.{length, drop, get_or, drop_of_length-le}
use lib.Seq.{drop-cons}
use Rattle.words.proofs.Choices.{yes_if, no_if, if_cases}
use Rattle.words.proofs.Rooms.{Next}
use Rattle.words.proofs.Those.{length-map}
use Rattle.kinds.specs.Makers.{core_of}
use Rattle.madt.specs.Pieces.{Whole}
use Rattle.words.specs.Rooms.{has_room, written, filled}
use Rattle.words.specs.declared.NoRoom.{NoRoom}
use Rattle.processors.specs.Listing.{cores_of, ids_of, listed, numbers_of, processors, count, filling}
use Rattle.processors.specs.Spelling.{Spelling, plainly}
use Rattle.processors.specs.Repeats.{no_processor}
use Rattle.processors.specs.Again.{processor_at, processors_at}
use Rattle.processors.specs.declared.Processor.{Processor}
use Rattle.processors.proofs.ReadAgain.{read_at}

-- the numbers of one processor
abbrev pub two : Processor → List ℕ
two p = p.uid ∷ p.id ∷ []

-- ---- in either spelling
module _ {A : Type 0} {g : List ℕ → List A} {entry : ℕ} (spelling : Spelling g entry) where
  pub entry_each : (ps : List Processor) → length (g (numbers_of ps)) ≡ entry * length ps
  unfolding numbers_of
  entry_each [] = rw spelling.none (omega arith)
  entry_each (p ∷ ps) =
      rw (spelling.joined (two p) (numbers_of ps), length-append, spelling.each p.uid p.id, entry_each ps) (omega arith)

  -- how long the entries are, against what a list has place for
  module _ (table offsets : List ℕ) where
    entries_length : length (g (numbers_of (processors_at table offsets))) ≡ length offsets * entry
    entries_length = rw (entry_each (processors_at table offsets), length-map (processor_at table) offsets) (omega arith)

    pub too_long : {n : ℕ} → n / entry < length offsets → n < length (g (numbers_of (processors_at table offsets)))
    too_long h = rw entries_length ((div-lt_iff_lt-mul spelling.some).0 h)

    pub short_enough : {n : ℕ} → length offsets ≤ n / entry → length (g (numbers_of (processors_at table offsets))) ≤ n
    short_enough h = rw entries_length ((le-div_iff_mul-le spelling.some).0 h)

  -- what is left to write once the CORE at k offsets are written
  module _ (table offsets : List ℕ) (k : ℕ) where
    pub none_left : length offsets ≤ k → g (numbers_of (drop k (processors_at table offsets))) ≡ []
    unfolding numbers_of
    none_left h = rw (drop_of_length-le (processors_at table offsets) {i = k} (omega (arith, length-map (processor_at table) offsets))) spelling.none

    pub one_left : k < length offsets → {p : Processor} → p ≡ processor_at table (get_or offsets k 0)
        → Next entry (g (numbers_of (drop k (processors_at table offsets)))) (g (two p)) (g (numbers_of (drop (k + 1) (processors_at table offsets))))
    unfolding numbers_of
    one_left more {p} e =
        let ps = processors_at table offsets in
        let many = length-map (processor_at table) offsets in
        let at_hand : drop k ps ≡ p ∷ drop (k + 1) ps = rw (e, read_at table offsets k more, add-one) (drop-cons ps k no_processor (omega arith)) in
        record { split = rw at_hand (spelling.joined (two p) (numbers_of (drop (k + 1) ps))); size = spelling.each p.uid p.id }

-- two numbers for each enabled CORE
pub twice_all : (table : List ℕ) → length (processors table) ≡ 2 * count table
unfolding processors count
twice_all table =
    entry_each plainly (listed (cores_of table)) ∙ ap (λ (n : ℕ). 2 * n) (length-map (λ (x : Whole). ids_of (core_of x.bytes)) (cores_of table))

-- ---- a list that is too short, and one that has room
module _ {A : Type 0} (entries list : List A) where
  pub too_short : (n : ℕ) → length list < length entries → (Err (record {}) ≡ filling entries n list) × (list ≡ filled entries list)
  unfolding has_room filling filled
  too_short n h =
      let no = lt-leb (length entries) (length list) h in
      (sym (no_if _ _ _ no refl), sym (no_if _ _ _ no refl))

  pub enough_room : (n : ℕ) {m : ℕ} {list' : List A} → length entries ≤ length list → m ≡ n → list' ≡ written entries list
      → (Ok m ≡ filling entries n list) × (list' ≡ filled entries list)
  unfolding has_room filling filled
  enough_room n h k e =
      let yes = le-leb (length entries) (length list) h in
      (ap Ok k ∙ sym (yes_if _ _ _ yes), e ∙ sym (yes_if _ _ _ yes))

-- ---- what the answer tells of the room
module _ {A : Type 0} (entries list : List A) (n : ℕ) where
  pub no_room_told : {none : NoRoom} → filling entries n list ≡ Err none → has_room entries list ≡ false
  unfolding filling
  no_room_told {none} =
      if_cases (λ (f : Result ℕ NoRoom). f ≡ Err none → has_room entries list ≡ false) (has_room entries list) _ _
      (λ b e. absurd (let o : ◌≡◌ {A = ℕ} 0 1 = cc in omega arith)) (λ b e. b)

  pub whole_told : {m : ℕ} → filling entries n list ≡ Ok m → (has_room entries list ≡ true) × (m ≡ n)
  unfolding filling
  whole_told {m} =
      if_cases (λ (f : Result ℕ NoRoom). f ≡ Ok m → (has_room entries list ≡ true) × (m ≡ n)) (has_room entries list) _ _
      (λ b e. (b, cc)) (λ b e. absurd (let o : ◌≡◌ {A = ℕ} 0 1 = cc in omega arith))
