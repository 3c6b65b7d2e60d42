-- The three laws of `pieces`, by which every loop over a table's structures is proved: at the table's end, where a structure
-- is cut, and behind a whole one. Loops go by the size of the structure at an offset, if there is one.
use mathlib.Core.Path.{◌≡◌, refl, sym, ap, ◌∙◌}
use mathlib.Core.Bool.{Bool, true, false, ◌||◌}
use mathlib.Core.List.{List, [], ◌∷◌}
use Prim.Native.Nat.{ℕ, zero, suc, ◌+◌, ◌≤◌, ◌<◌}
use native.Mathlib.Omega.{arith}
use lib.Dec.{ltb}
use lib.ListN.{length}
use borrow.Author.Tests.{leb-false, ltb-false, lt-leb}
use Rattle.std.specs.Prelude.{Option, Some, None}
use Rattle.std.proofs.lemmas.Option.{none-some}
use Rattle.words.specs.Bytes.{byte_at, part_at}
use Rattle.words.specs.Choice.{if}
use Rattle.words.proofs.Choices.{passed, no_if}
use Rattle.words.proofs.Tests.{neither_left, neither_right}
use Rattle.tables.specs.Structures.{structure_length, broken_at, step_at}
use Rattle.tables.specs.declared.Step.{Step}
use Rattle.tables.specs.declared.Step.TheVariants.{End, Structure, Broken}
use Rattle.tables.proofs.Steps.{step_end}
use Rattle.madt.specs.Pieces.{Piece, whole, cut, piece_at, pieces_from, pieces}
use Rattle.madt.specs.Sizes.{size_of}

abbrev pub size_at : List ℕ → ℕ → Option ℕ
size_at table at = size_of (step_at table at)

not_end : {size : ℕ} → ◌≡◌ {A = Step} End (Structure size) → ⊥
not_end e = let o : ◌≡◌ {A = ℕ} 0 1 = cc in omega arith

not_broken : {size : ℕ} → ◌≡◌ {A = Step} Broken (Structure size) → ⊥
not_broken e = let o : ◌≡◌ {A = ℕ} 0 1 = cc in omega arith

same_size : {a b : ℕ} → ◌≡◌ {A = Step} (Structure a) (Structure b) → a ≡ b
same_size e = cc

-- what a structure tells of its size: it begins before the table's end, has two bytes, and ends by the table's end
pub step_inside : (table : List ℕ) (at size : ℕ) → step_at table at ≡ Structure size
    → (at < length table) × (2 ≤ size) × (at + size ≤ length table)
unfolding step_at broken_at
step_inside table at size h =
    let more = passed _ _ _ _ h not_end in
    let whole = passed _ _ _ _ more.1 not_broken in
    let e : structure_length table at ≡ size = same_size whole.1 in
    let short = ltb (length table) (at + 2) in
    let low = ltb (structure_length table at) 2 in
    let past = ltb (length table) (at + structure_length table at) in
    let least : 2 ≤ structure_length table at = ltb-false _ _ (neither_right short low (neither_left (short || low) past whole.0)) in
    let fits : at + structure_length table at ≤ length table = ltb-false _ _ (neither_right (short || low) past whole.0) in
    (leb-false _ _ more.0, rw (← e) least, rw (← e) fits)

-- it is the structure's own length byte
pub step_length : (table : List ℕ) (at size : ℕ) → step_at table at ≡ Structure size → byte_at table (at + 1) ≡ size
unfolding step_at structure_length
step_length table at size h = same_size (passed _ _ _ _ (passed _ _ _ _ h not_end).1 not_broken).1

-- a piece depends on what comes later only behind a structure
same_later : (table : List ℕ) (at : ℕ) (step : Step) (f g : ℕ → List Piece) → ((size : ℕ) → step ≡ Structure size → f size ≡ g size)
    → piece_at table at step f ≡ piece_at table at step g
unfolding piece_at
same_later table at End f g h = refl
same_later table at Broken f g h = refl
same_later table at (Structure size) f g h = ap (λ (r : List Piece). whole at (part_at table at size) ∷ r) (h size refl)

-- at the table's end there is no piece
none_left : (k : ℕ) (table : List ℕ) (at : ℕ) → length table ≤ at → pieces_from k table at ≡ []
unfolding pieces_from piece_at
none_left zero table at h = refl
none_left (suc k) table at h = rw (step_end table at h)

-- more pieces than there can be are enough
enough : (f g : ℕ) (table : List ℕ) (at : ℕ) → length table ≤ at + f → length table ≤ at + g
    → pieces_from f table at ≡ pieces_from g table at
unfolding pieces_from
enough zero zero table at h k = refl
enough zero (suc g) table at h k = sym (none_left (suc g) table at (omega arith))
enough (suc f) zero table at h k = none_left (suc f) table at (omega arith)
enough (suc f) (suc g) table at h k =
    same_later table at (step_at table at) _ _
    (λ size e. let inside = step_inside table at size e in let low = inside.1 in enough f g table (at + size) (omega arith) (omega arith))

-- the pieces from an offset on, by the step there
pieces_step : (table : List ℕ) (at : ℕ) → pieces table at ≡ piece_at table at (step_at table at) (λ size. pieces table (at + size))
unfolding pieces pieces_from
pieces_step table at = enough (length table) (suc (length table)) table at (omega arith) (omega arith)

-- before the table's end there is no end
not_over : (broken : Bool) (size : ℕ) → if broken Broken (Structure size) ≡ End → ⊥
unfolding if
not_over true size e = let o : ◌≡◌ {A = ℕ} 0 1 = cc in omega arith
not_over false size e = let o : ◌≡◌ {A = ℕ} 0 1 = cc in omega arith

module _ (table : List ℕ) (at : ℕ) where
  -- the step that a size tells of
  size_broken : at < length table → size_at table at ≡ None → step_at table at ≡ Broken
  unfolding size_of step_at
  size_broken more h = go (step_at table at) refl h
    where
      go : (step : Step) → step_at table at ≡ step → size_of step ≡ None → step_at table at ≡ Broken
      go End e z = absurd (not_over _ _ (sym (no_if _ _ _ (lt-leb (length table) at more) refl) ∙ e))
      go Broken e z = e
      go (Structure size) e z = absurd (none-some size (sym z))

  size_structure : {size : ℕ} → size_at table at ≡ Some size → step_at table at ≡ Structure size
  unfolding size_of
  size_structure {size} h = go (step_at table at) refl h
    where
      go : (step : Step) → step_at table at ≡ step → size_of step ≡ Some size → step_at table at ≡ Structure size
      go End e z = absurd (none-some size z)
      go Broken e z = absurd (none-some size z)
      go (Structure n) e z = let o : n ≡ size = cc in rw (← o) e

  -- a size lies inside the table, and is not 0
  pub size_inside : {size : ℕ} → size_at table at ≡ Some size → (2 ≤ size) × (at + size ≤ length table)
  size_inside {size} h = let inside = step_inside table at size (size_structure h) in (inside.1, inside.2)

  pub pieces_end : length table ≤ at → pieces table at ≡ []
  unfolding pieces
  pieces_end h = none_left (length table) table at h

  pub pieces_cut : at < length table → size_at table at ≡ None → pieces table at ≡ cut at ∷ []
  unfolding piece_at
  pieces_cut more h = rw (size_broken more h) at (pieces_step table at)

  pub pieces_next : {size : ℕ} → size_at table at ≡ Some size → pieces table at ≡ whole at (part_at table at size) ∷ pieces table (at + size)
  unfolding piece_at
  pieces_next h = rw (size_structure h) at (pieces_step table at)
