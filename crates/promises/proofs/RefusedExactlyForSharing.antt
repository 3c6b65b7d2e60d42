-- A capture that breaks no earlier rule is refused with 41 to 45 or 51 to 53 exactly where two EIO, a BIO, the LPC, the HT, two sources or
-- two controllers of its map break that rule; and so is its reading.
use Prim.Native.Nat.{ℕ, ◌<◌}
use native.Mathlib.Omega.{arith}
use mathlib.Core.Path.{◌≡◌, sym, ◌∙◌, ap}
use mathlib.Core.Logic.{⊎_elim}
use mathlib.Core.List.{List}
use borrow.Author.Tests.{ne_eqb}
use lib.Dec.{eqb}
use Rattle.words.specs.Refusals.{refused_with, first_refusal}
use Rattle.words.specs.declared.Refusal.{Refusal}
use Rattle.words.proofs.Verdicts.{rule_sound, unless-refused, unless_sound, first-joined}
use Rattle.tables.specs.declared.Tables.{Tables}
use Rattle.capture.proofs.Pins.{pins_in_range}
use Rattle.tables.specs.declared.Strictness.{Strictness}
use Rattle.tables.proofs.Inside.{tables_inside}
use Rattle.lines.specs.Rules.{first_broken}
use Rattle.lines.specs.declared.Map.{Map}
use Rattle.lines.specs.declared.Places.{Places}
use Rattle.madt.specs.Walk.{walk_rules}
use Rattle.madt.proofs.Accepted.{walk_verdict}
use Rattle.processors.specs.Listing.{count}
use Rattle.map_promises.specs.Clashing.{KeepsTo40, KeepsTo42, KeepsTo43, KeepsTo44, KeepsTo45, RefusedWith, Exactly}
use Rattle.map_promises.specs.Walks.{WellKept}
use Rattle.map_promises.proofs.Clashing.{node_exactly, lone-exactly, bridge_exactly, wired-exactly, input_exactly, number_exactly, vector_exactly, core_exactly}
use Rattle.map_promises.proofs.WalkKeepsBooks.{walk_keeps_books}
use Rattle.reading.specs.Scan.{madt_bytes, walk_of, processor_rule, scan}
use Rattle.reading.specs.Reading.{without_map, reading_of}
use Rattle.reading.specs.declared.Reading.{Reading}
use Rattle.reading.proofs.Laws.{repeat_none, map_judged}
use Rattle.reading.proofs.Scanned.{found_verdict}
use Rattle.promises.specs.Captures.{NothingBefore41, NothingBefore43, NothingBefore44, NothingBefore45, NothingBefore51, RefusedExactlyForSharing, ReadRefusedExactlyForSharing}
use Rattle.promises.proofs.WhyRefused.{why_refused}
use Rattle.std.specs.Prelude.{Ok, Err}

-- 40: some processor is enabled
pub enabled : (base n : ℕ) → (n ≡ 0 → ⊥) → processor_rule base n ≡ Ok tt
unfolding processor_rule
enabled base n h = rule_sound (eqb n 0) 40 base (ne_eqb n 0 h)

module _ (strictness : Strictness) (capture : List ℕ) (t : Tables) where
  abbrev map : Map
  map = (walk_of capture t).found.map

  abbrev places : Places
  places = (walk_of capture t).found.places

  module _ (h : NothingBefore41 strictness capture t) where
    -- the walk keeps 71 to 78, 37, 38 and 34, and gives each structure a place of its own
    kept : WellKept map places
    kept =
        let sound = (tables_inside strictness capture t h.tables).sound in
        (walk_keeps_books (madt_bytes capture t.madt) t.madt.place t.sci _ (pins_in_range capture sound) h.structures).0

    to_40 : KeepsTo40 map t.madt.place
    to_40 = record { ranges = kept.ranges; r37 = kept.r37; r38 = kept.r38; r34 = kept.r34; r40 = h.r40 }

    -- the verdict is what the map breaks first
    of_map : (scan strictness capture).verdict ≡ first_broken map places t.madt.place t.fadt.place
    unfolding first_refusal
    of_map =
        found_verdict strictness capture h.tables
        ∙ first-joined (walk_rules _ _) _
        ∙ unless_sound _ _ _ (sym (walk_verdict _ _ _ _) ∙ h.structures)
        ∙ unless_sound _ _ _ (repeat_none t.madt.place _ h.r39)
        ∙ unless_sound _ _ _ (enabled t.madt.place (count (madt_bytes capture t.madt)) h.r40core)
        ∙ sym (map_judged map places t.madt.place t.fadt.place kept.r38)

    -- what is told of the map is told of the capture
    of_map_told : (n : ℕ) {broken : Type 0} {named : ℕ → ℕ → Type 0} → Exactly (RefusedWith map places t.madt.place t.fadt.place n) broken named
        → Exactly (λ p q. (scan strictness capture).verdict ≡ Err (refused_with n p q)) broken named
    of_map_told n e = ((λ p q r. e.0 p q (sym of_map ∙ r)), λ b. let w = e.1 b in (w.0, w.1, of_map ∙ w.2))

  to_42 : NothingBefore43 strictness capture t → KeepsTo42 map places t.madt.place
  to_42 h = record { to40 = to_40 h.to40; r41 = h.r41; r42 = h.r42 }

  to_43 : NothingBefore44 strictness capture t → KeepsTo43 map places t.madt.place
  to_43 h = record { to42 = to_42 h.to42; r43 = h.r43 }

  to_44 : NothingBefore45 strictness capture t → KeepsTo44 map places t.madt.place
  to_44 h = record { to43 = to_43 h.to43; r44 = h.r44 }

  to_45 : NothingBefore51 strictness capture t → KeepsTo45 map places t.madt.place
  to_45 h = record { to44 = to_44 h.to44; r45 = h.r45 }

-- THE PROMISES
pub refused_exactly_for_sharing : (strictness : Strictness) (capture : List ℕ) (t : Tables) → RefusedExactlyForSharing strictness capture t
refused_exactly_for_sharing strictness capture t =
    let m = (walk_of capture t).found.map in
    let p = (walk_of capture t).found.places in
    let madt = t.madt.place in
    let fadt = t.fadt.place in
    record {
      r41 = λ h. of_map_told strictness capture t h 41 (node_exactly m p madt fadt (kept strictness capture t h).placed (to_40 strictness capture t h));
      r42 = λ h. of_map_told strictness capture t h 42 (lone-exactly m p madt fadt (kept strictness capture t h).placed (to_40 strictness capture t h));
      r43 = λ h. of_map_told strictness capture t h.to40 43 (bridge_exactly m p madt fadt (to_42 strictness capture t h));
      r44 = λ h. of_map_told strictness capture t h.to42.to40 44 (wired-exactly m p madt fadt (to_43 strictness capture t h));
      r45 = λ h. of_map_told strictness capture t h.to43.to42.to40 45 (input_exactly m p madt fadt (to_44 strictness capture t h));
      r51 = λ h. let o = h.to44.to43.to42.to40 in
          of_map_told strictness capture t o 51 (number_exactly m p madt fadt (kept strictness capture t o).placed (to_45 strictness capture t h));
      r52 = λ h. let o = h.to44.to43.to42.to40 in
          of_map_told strictness capture t o 52 (vector_exactly m p madt fadt (kept strictness capture t o).placed (to_45 strictness capture t h));
      r53 = λ h. let o = h.to44.to43.to42.to40 in
          of_map_told strictness capture t o 53 (core_exactly m p madt fadt (kept strictness capture t o).placed (to_45 strictness capture t h));
    }

-- a refusal of the reading that is not 60 is the scan's
pub of_scan : (strictness : Strictness) (capture list : List ℕ) (n : ℕ) → n < 60 → {broken : Type 0} {at : ℕ → ℕ → Type 0}
    → Exactly (λ p q. (scan strictness capture).verdict ≡ Err (refused_with n p q)) broken at
    → Exactly (λ p q. (reading_of strictness capture list).answer ≡ Err (refused_with n p q)) broken at
unfolding reading_of without_map
of_scan strictness capture list n l e = (
  (λ p q r.
      ⊎_elim (e.0 p q) (λ w. absurd (let z : 60 ≡ n = ap (λ (r : Refusal). r.number) w.1 in omega arith)) (why_refused strictness capture list (refused_with n p q) r)),
  λ b. let w = e.1 b in (w.0, w.1, ap (λ (r : Reading). r.answer) (unless-refused _ _ _ w.2)),
)

pub read_refused_exactly_for_sharing : (strictness : Strictness) (capture list : List ℕ) (t : Tables) → ReadRefusedExactlyForSharing strictness capture list t
read_refused_exactly_for_sharing strictness capture list t =
    let s = refused_exactly_for_sharing strictness capture t in
    record {
      r41 = λ h. of_scan strictness capture list 41 (omega arith) (s.r41 h);
      r42 = λ h. of_scan strictness capture list 42 (omega arith) (s.r42 h);
      r43 = λ h. of_scan strictness capture list 43 (omega arith) (s.r43 h);
      r44 = λ h. of_scan strictness capture list 44 (omega arith) (s.r44 h);
      r45 = λ h. of_scan strictness capture list 45 (omega arith) (s.r45 h);
      r51 = λ h. of_scan strictness capture list 51 (omega arith) (s.r51 h);
      r52 = λ h. of_scan strictness capture list 52 (omega arith) (s.r52 h);
      r53 = λ h. of_scan strictness capture list 53 (omega arith) (s.r53 h);
    }
