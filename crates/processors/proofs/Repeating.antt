-- The two loops of the repeat check, over the processors that are read from some offsets: what holds at each turn of either, and a law
-- for each way that a turn can go.
use mathlib.Core.Path.{◌≡◌, refl, sym, ap, ◌∙◌}
use Rattle.std.proofs.Common.{Option, Some, None, slice_range}
use Rattle.std.proofs.lemmas.List.{take-map}
use mathlib.Core.Bool.{Bool, true, false, true≢false}
use mathlib.Core.List.{List, [], ◌∷◌, ◌++◌}
use mathlib.Core.Logic.{◌⊎◌, inl, inr}
use Prim.Native.Nat.{ℕ, ◌+◌, ◌-◌, ◌≤◌, ◌<◌}
use native.Mathlib.Nat.{sub-zero}
use native.Mathlib.Numerals.{add-one}
use native.Mathlib.Omega.{arith}
use borrow.Author.Tests.{ne_eqb}
use lib.ListN.{length, take, drop, get_or, drop_of_length-le}
use lib.Seq.{take-suc, drop-cons}
use Rattle.words.specs.Lists.{first, numbers_from, numbers_below}
use Rattle.words.proofs.Choices.{no_if, passed}
use Rattle.words.proofs.Searches.{Searching, search_hit, search_miss, search_over, next_number, no_number}
use Rattle.words.proofs.Those.{length-map}
use Rattle.processors.specs.Repeats.{share_id, shares_with_one, no_processor, repeats_id, first_repeating}
use Rattle.processors.specs.Again.{processor_at, processors_at, repeat_at}
use Rattle.processors.specs.declared.Processor.{Processor}
use Rattle.processors.proofs.ReadAgain.{read_at}
use Rattle.processors.specs.declared.repeats.Seen.{Seen}

-- ---- a processor beside others
-- one of a list in two parts
shares_in_two : (ps qs : List Processor) (p : Processor) → shares_with_one ps p ≡ false → shares_with_one qs p ≡ false → shares_with_one (ps ++ qs) p ≡ false
unfolding shares_with_one first
shares_in_two [] qs p e f = f
shares_in_two (o ∷ ps) qs p e f =
    let h = passed (share_id p o) true (shares_with_one ps p) false e true≢false in
    no_if _ _ _ h.0 (shares_in_two ps qs p h.1 f)

-- one with lower IDs
lower_not_shared : (p q : Processor) → q.uid < p.uid → q.id < p.id → shares_with_one (q ∷ []) p ≡ false
unfolding shares_with_one first
lower_not_shared p q u i = no_if _ _ _ (rw (ne_eqb p.uid q.uid (λ h. omega arith), ne_eqb p.id q.id (λ h. omega arith))) refl

-- ---- the inner loop: is there one among those from `before` on that shares an ID with p?
pub record Inner (table before : List ℕ) (p : Processor) (answer : Bool) (repeat : Option ℕ) (i : ℕ) : Type 0 where
  pub none : repeat ≡ None
  pub rest : Searching (share_id p) (λ (q : Processor). true) false answer (processors_at table (drop i before))

module _ {table before : List ℕ} {p : Processor} {answer : Bool} {repeat : Option ℕ} {i : ℕ} (inv : Inner table before p answer repeat i) where
  -- the one at hand is passed, or shares an ID
  module _ (more : i < length before) {q : Processor} (e : q ≡ processor_at table (get_or before i 0)) where
    at_hand : processors_at table (drop i before) ≡ q ∷ processors_at table (drop (i + 1) before)
    at_hand = rw (e, drop-cons before i 0 more, add-one) refl

    pub pass : share_id p q ≡ false → Inner table before p answer repeat (i + 1)
    pass h = record { none = inv.none; rest = search_miss inv.rest at_hand h }

    pub caught : share_id p q ≡ true → answer ≡ true
    caught h = sym (search_hit inv.rest at_hand h)

  -- none of them does
  lone : length before ≤ i → answer ≡ false
  lone l = sym (search_over inv.rest (rw (drop_of_length-le before {i = i} l) refl))

-- ---- the outer loop
-- whoever is above the IDs that were seen shares none with the first `later`
abbrev pub Above : List Processor → Seen → ℕ → Type 0
Above ps seen later = (p : Processor) → seen.uids ≤ p.uid → seen.ids ≤ p.id → shares_with_one (take later ps) p ≡ false

pub record Outer (table offsets : List ℕ) (repeat : Option ℕ) (seen : Seen) (later : ℕ) : Type 0 where
  pub none : repeat ≡ None
  pub above : Above (processors_at table offsets) seen later
  pub rest : Searching (repeats_id (processors_at table offsets)) (λ k. Some (get_or offsets k 0)) None (repeat_at table offsets)
      (numbers_from later (length offsets - later))

pub start : (table offsets : List ℕ) → Outer table offsets None (record { uids = 0; ids = 0 }) 0
unfolding repeat_at first_repeating numbers_below shares_with_one first
start table offsets =
    record { none = refl; above = λ p u i. refl; rest = record { gives = rw (sub-zero, length-map) refl } }

module _ {table offsets : List ℕ} {later : ℕ} {repeat : Option ℕ} {seen : Seen} (inv : Outer table offsets repeat seen later) where
  abbrev all : List Processor
  all = processors_at table offsets

  pub over : length offsets ≤ later → repeat ≡ repeat_at table offsets
  over h = inv.none ∙ search_over inv.rest (no_number (length offsets) later h)

  module _ (more : later < length offsets) {p : Processor} (e : p ≡ processor_at table (get_or offsets later 0)) where
    -- as many processors as offsets
    inside : later < length all
    inside = omega (arith, length-map (processor_at table) offsets)

    here : p ≡ get_or all later no_processor
    here = e ∙ read_at table offsets later more

    -- the search for one that shares an ID goes through all before it, or, where it is above them, through none
    pub enter : {from : ℕ} → (from ≡ 0) ⊎ ((from ≡ later) × (seen.uids ≤ p.uid) × (seen.ids ≤ p.id))
        → Inner table (slice_range offsets from later) p (shares_with_one (take later all) p) repeat 0
    unfolding shares_with_one first
    enter (inl f) = rw f (record { none = inv.none; rest = record { gives = rw (sub-zero, take-map) refl } })
    enter (inr f) =
        let nothing : later - later ≡ 0 = omega arith in
        rw f.0 (record { none = inv.none; rest = record { gives = rw nothing (sym (inv.above p f.1 f.2)) } })

    repeats_here : repeats_id all later ≡ shares_with_one (take later all) p
    unfolding repeats_id
    repeats_here = rw here

    pub leave : {repeat' : Option ℕ} {seen' : Seen} {before : List ℕ} {i : ℕ} → Inner table before p (shares_with_one (take later all) p) repeat' i
        → length before ≤ i → (p.uid < seen'.uids) × (p.id < seen'.ids) × (seen.uids ≤ seen'.uids) × (seen.ids ≤ seen'.ids)
        → Outer table offsets repeat' seen' (later + 1)
    leave i l o =
        let uid : p.uid < _ = o.0 in
        let id : p.id < _ = o.1 in
        rw add-one
        (record {
          none = i.none;
          above = λ q u v.
              rw (take-suc all later no_processor inside, ← here)
              (shares_in_two (take later all) (p ∷ []) q (inv.above q (omega arith) (omega arith)) (lower_not_shared q p (omega arith) (omega arith)));
          rest = rw (← add-one later) (search_miss inv.rest (next_number (length offsets) later more) (repeats_here ∙ lone i l));
        })

    pub named : {at : ℕ} → at ≡ get_or offsets later 0 → shares_with_one (take later all) p ≡ true → Some at ≡ repeat_at table offsets
    named a h = ap Some a ∙ search_hit inv.rest (next_number (length offsets) later more) (repeats_here ∙ h)
