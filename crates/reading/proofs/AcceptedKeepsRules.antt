-- The map of an accepted capture keeps the rules: 7 held its pairs to 64 inputs, the walk gave each of its structures a place of its own
-- and kept 71 to 78, 37, 38 and 34, no rule after the walk is broken with these places, and the places do not matter. So the C entries, which have
-- an accepted capture, ask the rules no second time. And its unused places hold 0.
use Prim.Native.Nat.{ℕ}
use mathlib.Core.Bool.{true}
use mathlib.Core.List.{List}
use mathlib.Core.Path.{◌≡◌}
use Rattle.words.proofs.Choices.{yes_if}
use Rattle.capture.specs.Pairs.{pairs_of, pins_of}
use Rattle.capture.proofs.Pins.{pins_in_range}
use Rattle.tables.specs.declared.Strictness.{Strictness}
use Rattle.tables.proofs.Inside.{tables_inside}
use Rattle.lines.specs.Says.{says}
use Rattle.lines.specs.Routes.{arrival}
use Rattle.lines.specs.Traces.{traced}
use Rattle.lines.specs.Rules.{keeps_rules}
use Rattle.lines.specs.Answers.{route_of, trace_of}
use Rattle.map_promises.specs.Walks.{Normal, WellKept}
use Rattle.map_promises.proofs.Places.{places_do_not_matter}
use Rattle.map_promises.proofs.WalkKeepsBooks.{walk_keeps_books}
use Rattle.reading.specs.Scan.{madt_bytes, walk_of, scan}
use Rattle.reading.proofs.Scanned.{Scanned, scanned, rules_kept}
use Rattle.std.specs.Prelude.{Ok}

-- the walk kept its books
books : {strictness : Strictness} (capture : List ℕ) (s : Scanned strictness capture) → WellKept (walk_of capture s.t).found.map (walk_of capture s.t).found.places
books {strictness} capture s =
    let sound = (tables_inside strictness capture s.t s.tables).sound in
    (walk_keeps_books (madt_bytes capture s.t.madt) s.t.madt.place s.t.sci (pins_of (pairs_of capture)) (pins_in_range capture sound) s.walk).0

-- its unused places hold 0
pub accepted_is_normal : (strictness : Strictness) (capture : List ℕ) → (scan strictness capture).verdict ≡ Ok tt → Normal (scan strictness capture).map
accepted_is_normal strictness capture h =
    let s = scanned strictness capture h in
    rw s.map (books capture s).normal

-- it keeps the rules
pub accepted_keeps_rules : (strictness : Strictness) (capture : List ℕ) → (scan strictness capture).verdict ≡ Ok tt → keeps_rules (scan strictness capture).map ≡ true
accepted_keeps_rules strictness capture h =
    let s = scanned strictness capture h in
    let t = s.t in
    let found = (walk_of capture t).found in
    let b = books capture s in
    rw s.map
    ((places_do_not_matter found.map found.places t.madt.place t.fadt.place b.placed).0 b.ranges b.r37 b.r34
    (rules_kept capture t s.rules b.r38))

-- a question to it has its answer without 61
module _ (strictness : Strictness) (capture : List ℕ) (h : (scan strictness capture).verdict ≡ Ok tt) where
  pub accepted_route : (number : ℕ) → route_of (scan strictness capture).map number ≡ Ok (arrival (says (scan strictness capture).map) number)
  unfolding route_of
  accepted_route number = yes_if _ _ _ (accepted_keeps_rules strictness capture h)

  pub accepted_trace : (vector number : ℕ) → trace_of (scan strictness capture).map vector number ≡ Ok (traced (says (scan strictness capture).map) vector number)
  unfolding trace_of
  accepted_trace vector number = yes_if _ _ _ (accepted_keeps_rules strictness capture h)
