-- A stretch that is present stands in the capture byte by byte. In a sound capture no two segments share a byte of memory, so that a
-- byte and a stretch have one place, and a run ends where no segment has the address.
use mathlib.Core.Bool.{true, false, ◌||◌}
use mathlib.Core.List.{List}
use mathlib.Core.Logic.{⊎_elim}
use mathlib.Core.Path.{◌≡◌, sym, ap, ◌∙◌}
use Prim.Native.Nat.{ℕ, zero, suc, ◌+◌, ◌≤◌, ◌<◌}
use native.Mathlib.Nat.{add-zero, eq-or-lt_of_le, le_of_suc-le-suc}
use native.Mathlib.Omega.{arith}
use borrow.Author.Tests.{ltb-false}
use Rattle.words.specs.Lists.{numbers_below}
use Rattle.words.specs.Refusals.{refused}
use Rattle.words.proofs.Order.{order}
use Rattle.words.proofs.Searches.{search_none}
use Rattle.words.proofs.Tests.{fails, neither_right}
use Rattle.words.proofs.Verdicts.{not_sound}
use Rattle.capture.specs.Fields.{segment_count, descriptor, segment_address, segment_end, has_address, segments}
use Rattle.capture.specs.Rules.{empty_segment, ends_past_memory, starts_early, end_before, segment_broken}
use Rattle.capture.specs.Presence.{Present, goes_on, run_end, place_in, located}
use Rattle.capture.specs.Memory.{Stands, OnePlace, BytesInOrder, Missing}
use Rattle.capture.proofs.Laws.{holds_start, holds_end, has_bounds, segments-first}
use Rattle.capture.proofs.Runs.{ended, covered, not_touching}
use Rattle.capture.proofs.Within.{Sound, sound_segments, located_held, held_place}
use Rattle.std.specs.Prelude.{Ok, Err}

-- byte k of a stretch stands k after its place
pub bytes_in_order : (capture : List ℕ) → BytesInOrder capture
unfolding place_in
bytes_in_order capture address size place h k some =
    let s = located_held capture address size place h in
    let start = holds_start capture address size s.at s.taken in
    let end = holds_end capture address size s.at s.taken in
    let c = covered capture (address + k) s.at s.counted (omega arith) (omega arith) in
    let there = held_place capture address size place s in
    let on : place_in capture (address + k) s.at ≡ place + k = omega arith in
    record { segment = c.at; counted = c.counted; has = c.has; there = c.place ∙ on }

pub first_byte : (capture : List ℕ) (address size place : ℕ) → 0 < size → located capture address size ≡ Present place → Stands capture address place
first_byte capture address size place some h = rw (add-zero address, add-zero place) at (bytes_in_order capture address size place h 0 some)

module _ (capture : List ℕ) (sound : Sound capture) where
  -- no segment of it is broken
  unbroken : (i : ℕ) → i < segment_count capture → segment_broken capture i ≡ false
  unfolding segments numbers_below
  unbroken i h =
      search_none (segment_broken capture) (λ (k : ℕ). Err (refused 6 (descriptor capture k))) (Ok tt)
      (Ok tt)
      0
      (segment_count capture)
      i
      (sym (segments-first capture) ∙ sound_segments capture sound)
      (λ k t e. not_sound e)
      (omega arith)
      (omega arith)

  -- each starts at or behind the end of the one before it
  next_start : (i : ℕ) → suc i < segment_count capture → segment_end capture i ≤ segment_address capture (suc i)
  unfolding segment_broken starts_early end_before
  next_start i h =
      ltb-false _ _
      (neither_right (empty_segment capture (suc i) || ends_past_memory capture (suc i)) _ (unbroken (suc i) h))

  -- and so behind the end of every earlier one
  in_order : (i j : ℕ) → i < j → j < segment_count capture → segment_end capture i ≤ segment_address capture j
  in_order i zero h counted = absurd (omega arith)
  in_order i (suc j) h counted =
      ⊎_elim (λ (e : i ≡ j). rw e (next_start j counted))
      (λ (l : i < j).
      let before = in_order i j l (omega arith) in
      let last = next_start j counted in
      omega arith)
      (eq-or-lt_of_le (le_of_suc-le-suc h))

  -- so one of them at most has an address
  pub one_segment : (address i j : ℕ) → i < segment_count capture → j < segment_count capture
      → has_address capture address i ≡ true → has_address capture address j ≡ true → i ≡ j
  one_segment address i j ci cj hi hj =
      let bi = has_bounds capture address i hi in
      let bj = has_bounds capture address j hj in
      ⊎_elim (λ (l : i < j). absurd (omega (arith, in_order i j l cj)))
      (λ r. ⊎_elim (λ (e : i ≡ j). e) (λ (l : j < i). absurd (omega (arith, in_order j i l ci))) r)
      (order i j)

  -- a byte of memory stands at one place
  pub one_byte : OnePlace capture
  one_byte address place other s t =
      sym s.there
      ∙ ap (place_in capture address) (one_segment address s.segment t.segment s.counted t.counted s.has t.has)
      ∙ t.there

  -- and so does a stretch of at least one, however much of it is asked for
  pub one_place : (address size other place elsewhere : ℕ) → 0 < size → 0 < other → located capture address size ≡ Present place
      → located capture address other ≡ Present elsewhere → place ≡ elsewhere
  one_place address size other place elsewhere s o h g =
      one_byte address place elsewhere (first_byte capture address size place s h) (first_byte capture address other elsewhere o g)

  -- no segment has the address at which one ends behind which none goes on
  end_missing : (m : ℕ) → m < segment_count capture → goes_on capture m ≡ false → Missing capture (segment_end capture m)
  end_missing m counted over j cj = fails (has_address capture (segment_end capture m) j) none
    where
      -- the next one, and so every later one, starts behind it
      next : suc m < segment_count capture → segment_end capture m < segment_address capture (suc m)
      next more =
          ⊎_elim (λ (e : segment_end capture m ≡ segment_address capture (suc m)). absurd (not_touching capture m (omega arith) over (sym e)))
          (λ (l : segment_end capture m < segment_address capture (suc m)). l)
          (eq-or-lt_of_le (next_start m more))

      later : m < j → segment_end capture m < segment_address capture j
      later l =
          ⊎_elim (λ (e : suc m ≡ j). rw (← e) (next (omega arith)))
          (λ (k : suc m < j). omega (arith, next (omega arith), in_order (suc m) j k cj))
          (eq-or-lt_of_le l)

      none : has_address capture (segment_end capture m) j ≡ true → ⊥
      none has =
          let b = has_bounds capture (segment_end capture m) j has in
          ⊎_elim (λ (l : m < j). omega (arith, later l))
          (λ r. ⊎_elim (λ (e : m ≡ j). let s : segment_end capture m ≡ segment_end capture j = rw e in omega arith) (λ (l : j < m). omega (arith, in_order j m l counted)) r)
          (order m j)

  -- so none has the address at which a run ends
  pub run_missing : (i : ℕ) → i < segment_count capture → Missing capture (run_end capture i)
  run_missing i counted =
      let e = ended capture i counted in
      rw e.ends (end_missing e.last e.counted e.over)
