-- "Each public call ends and either answers or refuses with a number and a place from our table. A refused call leaves the
-- processor list it was lent as it found it."
use Rattle.std.proofs.Common.{Option, Some, None}
use Prim.Native.Nat.{ℕ, ◌+◌, ◌≤◌}
use native.Mathlib.Omega.{arith}
use mathlib.Core.Path.{◌≡◌, refl, sym, ap, ◌∙◌}
use mathlib.Core.Logic.{inl, inr, ⊎_elim}
use mathlib.Core.List.{List, ◌∷◌, ◌++◌}
use mathlib.Core.Bool.{Bool, true, false, true≢false}
use lib.ListN.{length}
use Rattle.words.specs.declared.Refusal.{Refusal}
use Rattle.words.specs.Refusals.{Verdict, refused, first_refusal}
use Rattle.words.proofs.Choices.{no_if, if_cases}
use Rattle.words.proofs.Verdicts.{unless-refused, unless_sound}
use Rattle.capture.specs.Pairs.{pairs_of, pins_of}
use Rattle.tables.specs.Survey.{survey}
use Rattle.tables.specs.declared.Tables.{Tables}
use Rattle.tables.proofs.Inside.{Accepted as TablesInside, tables_inside}
use Rattle.tables.specs.declared.Strictness.{Strictness}
use Rattle.tables.specs.declared.Strictness.TheVariants.{Strict}
use Rattle.lines.specs.Says.{says}
use Rattle.lines.specs.Rules.{map_rules, keeps_rules}
use Rattle.lines.specs.Answers.{route_of, trace_of}
use Rattle.lines.specs.declared.Map.{Map}
use Rattle.madt.specs.Walk.{walk_rules}
use Rattle.madt.proofs.Accepted.{walk_verdict}
use Rattle.words.specs.Rooms.{filled}
use Rattle.processors.specs.Listing.{count}
use Rattle.processors.specs.Repeats.{first_repeat}
use Rattle.processors.proofs.Inside.{repeat_inside}
use Rattle.map_promises.proofs.AtOnce as at_once
use Rattle.map_promises.proofs.Logic.{same_refused}
use Rattle.map_promises.proofs.Owners.{two_refusals, refused-filling}
use Rattle.map_promises.proofs.RefusedExactly.{refused-exactly}
use Rattle.map_promises.proofs.WalkKeepsBooks.{walk_stands}
use Rattle.reading.specs.Scan.{madt_bytes, walk_of, turned_down, repeat_rule, processor_rule, scan}
use Rattle.reading.specs.Reading.{list_after}
use Rattle.reading.specs.Entries.{route_result, trace_result}
use Rattle.reading.proofs.Laws.{bytes_small, later_rules, scan-refused}
use Rattle.promises.specs.RefusalTable.{OfTheTable, ReadingRefusals, RefusedLeavesList, RouteRefusals, TraceRefusals, MapRefusals}
use Rattle.promises.proofs.AcceptedIsTrustworthy.{accepted_is_trustworthy}
use Rattle.promises.proofs.MapRefusals.{map-told}
use Rattle.reading.proofs.Scanned.{found_verdict}
use Rattle.promises.proofs.TableRefusals.{SurveyTold, survey-told}
use Rattle.promises.proofs.Told.{Told, is_of_structures, is39, is_from_40, is_to_30, is_after_38, is_after_30, is_not, told_left, told_right, told-not, Inside, tell, tell_none, more_told, joined-told}
use Rattle.promises.proofs.WhyRefused.{why_refused}
use Rattle.promises.proofs.WalkRefusals.{walked-told}
use Rattle.std.specs.Prelude.{Result, Ok, Err}

-- ---- 31 to 54, of tables that were found
abbrev pub rules_from_31 : List ℕ → Tables → List Verdict
rules_from_31 capture t = walk_rules (madt_bytes capture t.madt) t.madt.place ++ later_rules capture t

-- those behind 39
abbrev pub rules_from_40 : List ℕ → Tables → List Verdict
rules_from_40 capture t =
    let found = (walk_of capture t).found in
    processor_rule t.madt.place (count (madt_bytes capture t.madt))
    ∷ map_rules (says found.map) found.places t.madt.place t.fadt.place

module _ (capture : List ℕ) (t : Tables) (inside : TablesInside capture t) where
  abbrev table : List ℕ
  table = madt_bytes capture t.madt

  abbrev base : ℕ
  base = t.madt.place

  small : length table ≤ t.madt.length
  small = bytes_small capture t.madt

  -- of the structures
  pub walk_of-told : Told is_of_structures capture (walk_of capture t).verdict
  walk_of-told = walked-told capture base t.madt.length inside.madt.inside table t.sci _ inside.madt.long small

module _ (capture : List ℕ) (t : Tables) (inside : TablesInside capture t) (at : Inside capture t.madt.place × Inside capture t.fadt.place) where
  -- 39
  repeat_told : (r : Option ℕ) → first_repeat (madt_bytes capture t.madt) ≡ r → Told is39 capture (repeat_rule t.madt.place r)
  unfolding repeat_rule
  repeat_told None e = omega arith
  repeat_told (Some offset) e =
      let there = repeat_inside (madt_bytes capture t.madt) offset e in
      tell is39 capture 39 (t.madt.place + offset) (refl, refl, refl, refl)
      (omega (arith, at.0.0), omega (arith, there, small capture t inside, inside.madt.inside))

  -- 40, of the processors
  processors-told : Told is_from_40 capture (processor_rule t.madt.place (count (madt_bytes capture t.madt)))
  unfolding processor_rule
  processors-told = if_cases (Told is_from_40 capture) _ _ _ (λ z. tell is_from_40 capture 40 t.madt.place (refl, refl, refl, refl) at.0) (λ z. omega arith)

  -- 40 to 54
  pub after_39_told : (walk_of capture t).verdict ≡ Ok tt → Told is_from_40 capture (first_refusal (rules_from_40 capture t))
  after_39_told sound =
      more_told is_from_40 capture _ _ processors-told
      (λ z. map-told capture
      (walk_stands (madt_bytes capture t.madt) t.madt.place t.sci _ t.madt.length inside.madt.long (small capture t inside) sound)
      inside.madt.inside t.madt.place t.fadt.place at.0 at.1)

  pub rules-told : (walk_of capture t).verdict ≡ Ok tt → Told is_after_38 capture (first_refusal (later_rules capture t))
  rules-told sound =
      let repeat = first_repeat (madt_bytes capture t.madt) in
      more_told is_after_38 capture _ _ (told_left is39 is_from_40 capture (repeat_rule t.madt.place repeat) (repeat_told repeat refl))
      (λ z. told_right is39 is_from_40 capture (first_refusal (rules_from_40 capture t)) (after_39_told sound))

  -- all of them
  pub after_30_told : Told is_after_30 capture (first_refusal (rules_from_31 capture t))
  after_30_told =
      let structures = walk_rules (madt_bytes capture t.madt) t.madt.place in
      joined-told is_after_30 capture structures (later_rules capture t)
      (told_left is_of_structures is_after_38 capture (first_refusal structures)
      (rw (sym (walk_verdict (madt_bytes capture t.madt) t.madt.place t.sci (pins_of (pairs_of capture)))) (walk_of-told capture t inside)))
      (λ sound. told_right is_of_structures is_after_38 capture (first_refusal (later_rules capture t)) (rules-told (walk_verdict _ _ _ _ ∙ sound)))

-- ---- 1 to 54
scan-told : (strictness : Strictness) (capture : List ℕ) → Told (is_not 60) capture (scan strictness capture).verdict
unfolding turned_down
scan-told strictness capture = go (survey strictness capture) refl (survey-told strictness capture)
  where
    go : (s : Result Tables Refusal) → survey strictness capture ≡ s → SurveyTold capture s → Told (is_not 60) capture (scan strictness capture).verdict
    go (Err r) e told = rw (scan-refused strictness capture e) (told-not 60 is_to_30 refl capture (Err r) told)
    go (Ok t) e told =
        rw (found_verdict strictness capture e)
        (told-not 60 is_after_30 refl capture (first_refusal (rules_from_31 capture t))
        (after_30_told capture t (tables_inside strictness capture t e) told))

module _ (strictness : Strictness) (capture : List ℕ) (r : Refusal) (e : (scan strictness capture).verdict ≡ Err r) where
  pub of_scan : OfTheTable capture r
  of_scan = (rw e at (scan-told strictness capture)).0

  -- 60 is no refusal of the scan
  pub not_60 : r.number ≡ 60 → ⊥
  not_60 sixty = true≢false (sym (rw e at (scan-told strictness capture)).1 ∙ ap (is_not 60) sixty)

-- THE PROMISES
pub reading_refusals : (strictness : Strictness) (capture list : List ℕ) → ReadingRefusals strictness capture list
reading_refusals strictness capture list r h =
    ⊎_elim (of_scan strictness capture r) (λ w. rw (← w.1) (tell_none capture 60 (refl, refl, refl))) (why_refused strictness capture list r h)

pub refused_leaves_list : (strictness : Strictness) (capture list : List ℕ) → RefusedLeavesList strictness capture list
unfolding filled list_after
refused_leaves_list strictness capture list r h =
    ⊎_elim (λ w. unless-refused _ _ _ w) (λ w. unless_sound _ _ _ w.0 ∙ no_if _ _ _ w.2 refl) (why_refused strictness capture list r h)

pub route_refusals : (capture : List ℕ) (number : ℕ) → RouteRefusals capture number
unfolding route_result
route_refusals capture number = go (scan Strict capture).verdict refl
  where
    go : (v : Verdict) → (scan Strict capture).verdict ≡ v → RouteRefusals capture number
    go (Err r) e = inl (r, e, unless-refused _ _ _ e, of_scan Strict capture r e)
    go (Ok tt) e = inr (e, unless_sound _ _ _ e, (accepted_is_trustworthy Strict capture e).routes number)

pub trace_refusals : (capture : List ℕ) (vector number : ℕ) → TraceRefusals capture vector number
unfolding trace_result
trace_refusals capture vector number = go (scan Strict capture).verdict refl
  where
    go : (v : Verdict) → (scan Strict capture).verdict ≡ v → TraceRefusals capture vector number
    go (Err r) e = inl (r, e, unless-refused _ _ _ e, of_scan Strict capture r e)
    go (Ok tt) e = inr (e, unless_sound _ _ _ e, (accepted_is_trustworthy Strict capture e).traces vector number)

-- a route and a trace
abbrev SingleRefusals : Map → Type 0
SingleRefusals map =
    ((n : ℕ) (r : Refusal) → route_of map n ≡ Err r → r ≡ refused 61 0)
    × ((v n : ℕ) (r : Refusal) → trace_of map v n ≡ Err r → r ≡ refused 61 0)

single_refusals : (map : Map) → SingleRefusals map
single_refusals map = go (keeps_rules map) refl
  where
    go : (b : Bool) → keeps_rules map ≡ b → SingleRefusals map
    go true k = let never = (refused-exactly map).1 k in ((λ n r h. absurd (never.0 n r h)), λ v n r h. absurd (never.1 v n r h))
    go false k =
        let always = (refused-exactly map).0 k in
        ((λ n r h. sym (same_refused (sym (always.0 n) ∙ h))), λ v n r h. sym (same_refused (sym (always.1 v n) ∙ h)))

pub map_refusals : (map : Map) → MapRefusals map
map_refusals map =
    let single = single_refusals map in (
      single.0,
      single.1,
      at_once.two_refusals map,
      (λ r h. (refused-filling map r h).0),
      λ table n r h. ⊎_elim (λ w. inl w.1) (λ w. inr w.1) (two_refusals map table n r h),
    )
