-- Runs of touching segments, of any bytes: a run stands in the capture as it does in memory, so that each of its addresses lies in a
-- segment of it, at the place that the run's first segment tells, and all of it lies among the segments' bytes.
use mathlib.Core.Bool.{Bool, true, false, true≢false}
use mathlib.Core.List.{List}
use mathlib.Core.Path.{◌≡◌, refl, ap, sym, ◌∙◌}
use Prim.Native.Nat.{ℕ, zero, suc, ◌+◌, ◌-◌, ◌≤◌, ◌<◌}
use native.Mathlib.Numerals.{add-one}
use native.Mathlib.Omega.{arith}
use Rattle.std.proofs.Common.{add-zero}
use lib.Dec.{eqb, ltb}
use borrow.Author.Tests.{ltb-true, ltb-false, lt-ltb, eqb-true, eq-eqb, le-leb}
use Rattle.words.specs.Choice.{if}
use Rattle.words.specs.Lists.{first}
use Rattle.words.proofs.Searches.{next_number}
use Rattle.words.proofs.Tests.{fails, both_left, both_right}
use Rattle.capture.specs.Fields.{segment_count, segment_address, segment_length, segment_end, has_address, lengths}
use Rattle.capture.specs.Presence.{goes_on, run_end, place_in}
use Rattle.capture.proofs.Laws.{lengths_next, lengths_within, place_next}

module _ (capture : List ℕ) where
  -- behind a segment that goes on there is one, which starts at its end
  pub next_counted : (i : ℕ) → goes_on capture i ≡ true → i + 1 < segment_count capture
  unfolding goes_on
  next_counted i h = ltb-true _ _ (both_left _ (eqb (segment_address capture (i + 1)) (segment_end capture i)) h)

  pub next_touches : (i : ℕ) → goes_on capture i ≡ true → segment_address capture (i + 1) ≡ segment_end capture i
  unfolding goes_on
  next_touches i h = eqb-true _ _ (both_right (ltb (i + 1) (segment_count capture)) _ h)

  -- behind one that does not, there is none that does
  pub not_touching : (i : ℕ) → i + 1 < segment_count capture → goes_on capture i ≡ false → segment_address capture (suc i) ≡ segment_end capture i → ⊥
  unfolding goes_on
  not_touching i more h e =
      let on : goes_on capture i ≡ true = rw (lt-ltb (i + 1) (segment_count capture) more, add-one, eq-eqb (segment_address capture (suc i)) (segment_end capture i) e) in
      true≢false (sym on ∙ h)

  -- the run from such a segment on is that of the next; from any other it is the segment itself
  pub run_next : (i : ℕ) → goes_on capture i ≡ true → run_end capture i ≡ run_end capture (i + 1)
  unfolding run_end first if
  run_next i h =
      let more = next_counted i h in
      rw (next_number (segment_count capture) i (omega arith), h)

  pub run_last : (i : ℕ) → i < segment_count capture → goes_on capture i ≡ false → run_end capture i ≡ segment_end capture i
  unfolding run_end first if
  run_last i counted h = rw (next_number (segment_count capture) i counted, h)

  -- what holds where a run ends, and of a segment if it holds of the next that it goes on to, holds of all
  pub along : (P : ℕ → Type 0) → ((i : ℕ) → i < segment_count capture → goes_on capture i ≡ false → P i)
      → ((i : ℕ) → goes_on capture i ≡ true → P (i + 1) → P i) → (i : ℕ) → i < segment_count capture → P i
  along P ends goes i counted = from (segment_count capture) i (omega arith) counted
    where
      from : (left i : ℕ) → segment_count capture ≤ i + left → i < segment_count capture → P i
      from zero i enough counted = absurd (omega arith)
      from (suc left) i enough counted = go (goes_on capture i) refl (λ (h : i + 1 < segment_count capture). from left (i + 1) (omega arith) h)
        where
          go : (b : Bool) → goes_on capture i ≡ b → (i + 1 < segment_count capture → P (i + 1)) → P i
          go true h later = goes i h (later (next_counted i h))
          go false h later = ends i counted h

  -- a run ends with a segment that does not go on
  pub record Ended (i : ℕ) : Type 0 where
    pub last : ℕ
    pub counted : last < segment_count capture
    pub ends : run_end capture i ≡ segment_end capture last
    pub over : goes_on capture last ≡ false

  pub ended : (i : ℕ) → i < segment_count capture → Ended i
  ended =
      along Ended (λ i counted h. record { last = i; counted = counted; ends = run_last i counted h; over = h })
      (λ i h later. record { last = later.last; counted = later.counted; ends = run_next i h ∙ later.ends; over = later.over })

  -- it ends no earlier than its first segment
  pub run_reaches : (i : ℕ) → i < segment_count capture → segment_end capture i ≤ run_end capture i
  run_reaches =
      along (λ (i : ℕ). segment_end capture i ≤ run_end capture i) (λ i counted h. omega (arith, run_last i counted h))
      (λ i h later. omega (arith, later, run_next i h, next_touches i h))

  -- and its bytes lie among those of the segments
  pub run_fits : (i : ℕ) → i < segment_count capture
      → lengths capture i + run_end capture i ≤ lengths capture (segment_count capture) + segment_address capture i
  run_fits =
      along (λ (i : ℕ). lengths capture i + run_end capture i ≤ lengths capture (segment_count capture) + segment_address capture i)
      (λ i counted h. omega (arith, run_last i counted h, lengths_within capture i (segment_count capture) counted))
      (λ i h later. omega (arith, later, run_next i h, next_touches i h, lengths_next capture i))

  -- an address of a run from segment i on lies in a segment of it: at the same place, and with the same end of the run
  pub record Covered (address i : ℕ) : Type 0 where
    pub at : ℕ
    pub counted : at < segment_count capture
    pub has : has_address capture address at ≡ true
    pub place : place_in capture address at ≡ place_in capture address i
    pub run : run_end capture at ≡ run_end capture i

  pub had : (address i : ℕ) → segment_address capture i ≤ address → address < segment_end capture i → has_address capture address i ≡ true
  unfolding has_address
  had address i low high = rw (le-leb (segment_address capture i) address low, lt-ltb address (segment_end capture i) high)

  covers_itself : (address i : ℕ) → i < segment_count capture → segment_address capture i ≤ address → address < segment_end capture i → Covered address i
  covers_itself address i counted low high =
      record { at = i; counted = counted; has = had address i low high; place = refl; run = refl }

  -- the place of an address behind the end of a segment that goes on, from the next one
  place_on : (address i : ℕ) → goes_on capture i ≡ true → segment_end capture i ≤ address → place_in capture address (i + 1) ≡ place_in capture address i
  unfolding place_in
  place_on address i h behind = omega (arith, place_next capture i, next_touches i h)

  pub covered : (address i : ℕ) → i < segment_count capture → segment_address capture i ≤ address → address < run_end capture i → Covered address i
  covered address =
      along (λ (i : ℕ). segment_address capture i ≤ address → address < run_end capture i → Covered address i)
      (λ i counted h low high. covers_itself address i counted low (omega (arith, run_last i counted h)))
      (λ i h later low high. go i h later low high (ltb address (segment_end capture i)) refl)
    where
      go : (i : ℕ) → goes_on capture i ≡ true
          → (segment_address capture (i + 1) ≤ address → address < run_end capture (i + 1) → Covered address (i + 1))
          → segment_address capture i ≤ address → address < run_end capture i → (b : Bool) → ltb address (segment_end capture i) ≡ b → Covered address i
      go i h later low high true inside = covers_itself address i (omega (arith, next_counted i h)) low (ltb-true _ _ inside)
      go i h later low high false outside =
          let behind : segment_end capture i ≤ address = ltb-false _ _ outside in
          let c = later (omega (arith, next_touches i h)) (omega (arith, run_next i h)) in
          record {
            at = c.at;
            counted = c.counted;
            has = c.has;
            place = c.place ∙ place_on address i h behind;
            run = c.run ∙ sym (run_next i h);
          }

  -- going along a run from an address of segment i: over k segments behind it, `sum` bytes reach to the end of the last of them
  pub record Along (address i sum k : ℕ) : Type 0 where
    pub counted : i + k < segment_count capture
    pub here : address + sum ≡ segment_end capture (i + k)
    pub same : run_end capture (i + k) ≡ run_end capture i

  pub along_start : {address i sum : ℕ} → i < segment_count capture → address + sum ≡ segment_end capture i → Along address i sum 0
  along_start {address} {i} counted here =
      record { counted = omega arith; here = here ∙ ap (segment_end capture) (sym (add-zero i)); same = ap (run_end capture) (add-zero i) }

  module _ {address i sum k : ℕ} (a : Along address i sum k) where
    -- the next segment
    next : i + 1 + k ≡ i + k + 1
    next = omega arith

    -- it starts there: the run goes on
    pub along_on : i + 1 + k < segment_count capture → eqb (segment_address capture (i + 1 + k)) (address + sum) ≡ true
        → Along address i (sum + segment_length capture (i + 1 + k)) (k + 1)
    unfolding goes_on
    along_on more h =
        let more : i + k + 1 < segment_count capture = omega arith in
        let starts : segment_address capture (i + k + 1) ≡ address + sum = eqb-true _ _ (rw next at h) in
        let on : goes_on capture (i + k) ≡ true =
        rw (lt-ltb (i + k + 1) (segment_count capture) more, eq-eqb (segment_address capture (i + k + 1)) (segment_end capture (i + k)) (starts ∙ a.here))
        in
        let last : i + (k + 1) ≡ i + k + 1 = omega arith in
        rw next
        (record {
          counted = omega arith;
          here = rw last (omega (arith, a.here, starts));
          same = rw last (sym (run_next (i + k) on) ∙ a.same);
        })

    ends : goes_on capture (i + k) ≡ false → sum ≡ run_end capture i - address
    ends over = omega (arith, a.here, a.same, run_last (i + k) a.counted over)

    -- it does not, or there is none: the run ends
    pub along_gap : eqb (segment_address capture (i + 1 + k)) (address + sum) ≡ false → sum ≡ run_end capture i - address
    along_gap h =
        ends (fails (goes_on capture (i + k)) (λ on. true≢false (sym (eq-eqb _ _ (next_touches (i + k) on ∙ sym a.here)) ∙ (rw next at h))))

    pub along_end : segment_count capture ≤ i + 1 + k → sum ≡ run_end capture i - address
    along_end out = ends (fails (goes_on capture (i + k)) (λ on. omega (arith, next_counted (i + k) on)))
