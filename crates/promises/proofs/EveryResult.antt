-- Every result that the contract of a public call allows is an answer, or a refusal of the table that leaves what was lent.
use Prim.Native.Nat.{ℕ, zero, suc, ◌^◌, ◌<◌}
use native.Mathlib.Omega.{arith}
use mathlib.Core.Path.{◌≡◌, refl, sym, ◌∙◌, ap, subst}
use mathlib.Core.Logic.{inl, inr, ⊎_elim}
use mathlib.Core.List.{List}
use mathlib.Core.Bool.{true, false, true≢false}
use borrow.Author.Tests.{leb-false}
use lib.ListN.{length}
use Rattle.words.specs.Refusals.{refused}
use Rattle.words.specs.declared.Refusal.{Refusal}
use Rattle.words.proofs.Choices.{no_if, if_cases}
use Rattle.words.proofs.Verdicts.{unless-refused, unless_sound}
use Rattle.tables.specs.declared.Strictness.{Strictness}
use Rattle.tables.specs.declared.Strictness.TheVariants.{Ordinary, Strict}
use Rattle.lines.specs.Answers.{refusal_code, in_numbers, route_code, trace_code}
use Rattle.lines.specs.declared.Route.{Route}
use Rattle.lines.specs.declared.Route.TheVariants as routes
use Rattle.lines.specs.declared.Trace.{Trace}
use Rattle.lines.specs.declared.Trace.TheVariants as traces
use Rattle.words.specs.Rooms.{has_room, filled}
use Rattle.map_promises.specs.Statements.{RouteFits, TraceFits}
use Rattle.map_promises.proofs.AnswersFit.{answers_fit}
use Rattle.map_promises.proofs.AtOnce.{refused_leaves_answers}
use Rattle.map_promises.proofs.Owners.{refused-filling}
use Rattle.owners.specs.declared.Filling.{Filling}
use Rattle.reading.specs.Scan.{empty_map, turned_down, scan}
use Rattle.reading.specs.Reading.{without_map, madt_found, reading_of, list_after}
use Rattle.reading.specs.declared.Reading.{Reading}
use Rattle.reading.specs.declared.Scan.{Scan}
use Rattle.reading.proofs.AcceptedKeepsRules.{accepted_keeps_rules, accepted_route, accepted_trace}
use Rattle.reading.proofs.Laws.{answered_60}
use Rattle.reading.proofs.Scanned.{scan-verdict}
use Rattle.text.specs.Text.{outcome}
use Rattle.words.specs.declared.NoRoom.{NoRoom}
use Rattle.promises.specs.RefusalTable.{is_refusal_number, OfTheTable}
use Rattle.promises.specs.EveryResult.{OfTheList, RefusalBut, ScanRefuses, ReadRefuses, CReadRefuses, CRouteRefuses, CTraceRefuses, NoRoomLeaves, MapRouteRefuses, MapTraceRefuses, MapRouteEachRefuses, FillRefuses, LookUpRefuses}
use Rattle.promises.proofs.EveryRefusal.{of_scan, not_60, reading_refusals, refused_leaves_list, route_refusals, trace_refusals, map_refusals}
use Rattle.promises.proofs.ReadForC.{c_reading}
use Rattle.promises.proofs.Told.{tell_none}
use Rattle.promises.proofs.WhyRefused.{why_refused}
use Rattle.std.specs.Prelude.{Result, Ok, Err}

-- ---- no map beside a refusal
of_scan_no_map : (strictness : Strictness) (capture : List ℕ) (r : Refusal) → (scan strictness capture).verdict ≡ Err r → (scan strictness capture).map ≡ empty_map
unfolding scan turned_down
of_scan_no_map strictness capture r h = ap (λ (s : Scan). s.map) (unless-refused turned_down _ _ (sym (scan-verdict strictness capture) ∙ h))

of_read_no_map : (strictness : Strictness) (capture list : List ℕ) (r : Refusal) → (reading_of strictness capture list).answer ≡ Err r → (reading_of strictness capture list).map ≡ empty_map
unfolding reading_of without_map madt_found
of_read_no_map strictness capture list r h =
    ⊎_elim
    (λ w. ap (λ (q : Reading). q.map) (unless-refused _ _ _ w))
    (λ w. ap (λ (q : Reading). q.map) (unless_sound _ _ _ w.0 ∙ answered_60 _ _ list w.2))
    (why_refused strictness capture list r h)

-- ---- a refusal's number is 2^48 or more
above_0 : (n : ℕ) → is_refusal_number n ≡ true → 0 < n
above_0 zero h = absurd (true≢false (sym h))
above_0 (suc n) h = omega arith

coded : (Never : Refusal → Type 0) (capture : List ℕ) (result : ℕ) (r : Refusal) → result ≡ refusal_code r → OfTheTable capture r → (Never r → ⊥)
    → RefusalBut Never capture result
coded Never capture result r e o never = (omega (arith, e, above_0 r.number o.number), (r, e, o, never))

-- ---- an answer's is not
route_below : (t : Route) → RouteFits (Ok t) → route_code (Ok t) < 2 ^ 48
unfolding route_code in_numbers
route_below (routes.Arrives vector number) fits = omega (arith, fits.0, fits.1)
route_below routes.Unwired fits = omega arith
route_below routes.NoOwner fits = omega arith

trace_below : (t : Trace) → TraceFits (Ok t) → trace_code (Ok t) < 2 ^ 48
unfolding trace_code
trace_below traces.Nothing fits = omega arith
trace_below (traces.LioInput n) fits = omega (arith, fits)
trace_below (traces.BioInput n) fits = omega (arith, fits)
trace_below (traces.LpcCascade n) fits = omega (arith, fits)
trace_below (traces.MsiSlot node slot) fits = omega (arith, fits.0, fits.1)

-- ---- a room that is too short
whole_not : {n : ℕ} {X : Type 0} → ◌≡◌ {A = Result ℕ NoRoom} (Ok n) (Err (record {})) → X
whole_not e = absurd (let o : ◌≡◌ {A = ℕ} 0 1 = cc in omega arith)

short_room : (text room : List ℕ) → outcome text room ≡ Err (record {}) → has_room text room ≡ false
unfolding outcome
short_room text room =
    if_cases (λ (w : Result ℕ NoRoom). w ≡ Err (record {}) → has_room text room ≡ false) _ _ _ (λ fits e. whole_not e) (λ short e. short)

stays : (text room : List ℕ) → has_room text room ≡ false → filled text room ≡ room
unfolding filled
stays text room h = no_if _ _ _ h refl

shorter : (text room : List ℕ) → has_room text room ≡ false → length room < length text
unfolding has_room
shorter text room h = leb-false (length text) (length room) h

-- THE PROMISES
pub scan_refuses : ScanRefuses
scan_refuses κs a q x p r h =
    let e = sym (ap (λ (s : Scan). s.verdict) p) ∙ h in
    (of_scan _ _ r e, not_60 _ _ r e, ap (λ (s : Scan). s.map) p ∙ of_scan_no_map _ _ r e)

-- of either strictness
reading_refuses : (strictness : Strictness) (capture list : List ℕ) {reading : Reading} {after : List ℕ} → reading ≡ reading_of strictness capture list
    → after ≡ list_after strictness capture list → (r : Refusal) → reading.answer ≡ Err r
    → OfTheTable capture r × (reading.map ≡ empty_map) × (after ≡ list)
reading_refuses strictness capture list is left r h =
    let e = sym (ap (λ (s : Reading). s.answer) is) ∙ h in (
      reading_refusals strictness capture list r e,
      ap (λ (s : Reading). s.map) is ∙ of_read_no_map strictness capture list r e,
      left ∙ refused_leaves_list strictness capture list r e,
    )

pub read_refuses : ReadRefuses
read_refuses =
    record {
      ordinary = λ κs a q x p. reading_refuses Ordinary _ _ p.0 p.1;
      strict = λ κs a q x p. reading_refuses Strict _ _ p.0 p.1;
    }

pub c_read_refuses : CReadRefuses
c_read_refuses κs a q x p =
    ⊎_elim
    (λ w. inl (coded (λ r. ⊥) _ q w.refusal (p.0 ∙ w.result) w.ofthetable (λ n. n), p.1 ∙ w.kept))
    (⊎_elim
    (λ w. inl (coded (λ r. ⊥) _ q (refused 60 0) (p.0 ∙ w.result) (tell_none _ 60 (refl, refl, refl)) (λ n. n), p.1 ∙ w.kept))
    (λ w. inr (omega (arith, p.0 ∙ w.result, w.most))))
    (c_reading _ _)

pub c_route_refuses : CRouteRefuses
c_route_refuses κs a q x p =
    ⊎_elim (λ w. inl (coded OfTheList _ q w.0 (p ∙ w.2) w.3 (not_60 _ _ w.0 w.1)))
    (λ w.
    let told = accepted_route _ _ w.0 _ in
    let small = route_below _ (subst RouteFits told ((answers_fit _ (accepted_keeps_rules _ _ w.0)).0 _)) in
    let code = p ∙ w.1 ∙ ap route_code told in
    inr (omega (arith, code, small), (_, code)))
    (route_refusals _ _)

pub c_trace_refuses : CTraceRefuses
c_trace_refuses κs a q x p =
    ⊎_elim (λ w. inl (coded OfTheList _ q w.0 (p ∙ w.2) w.3 (not_60 _ _ w.0 w.1)))
    (λ w.
    let told = accepted_trace _ _ w.0 _ _ in
    let small = trace_below _ (subst TraceFits told ((answers_fit _ (accepted_keeps_rules _ _ w.0)).1 _ _)) in
    let code = p ∙ w.1 ∙ ap trace_code told in
    inr (omega (arith, code, small), (_, code)))
    (trace_refusals _ _ _)

pub no_room_leaves : NoRoomLeaves
no_room_leaves κs a q x p h =
    let short = short_room _ _ (sym p.0 ∙ h) in
    (p.1.0 ∙ stays _ _ short, omega (arith, shorter _ _ short, p.1.1))

pub map_route_refuses : MapRouteRefuses
map_route_refuses κs a q x p r h = (map_refusals _).0 _ r (sym p ∙ h)

pub map_trace_refuses : MapTraceRefuses
map_trace_refuses κs a q x p r h = (map_refusals _).1 _ _ r (sym p ∙ h)

pub map_route_each_refuses : MapRouteEachRefuses
map_route_each_refuses κs a q x p r h =
    let told = sym p.0 ∙ h in
    ((map_refusals _).2 _ _ r told, p.1 ∙ refused_leaves_answers _ _ _ r told)

pub fill_refuses : FillRefuses
fill_refuses κs a q x p r h =
    let e = sym (ap (λ (f : Filling). f.verdict) p) ∙ h in
    ((map_refusals _).3 r e, ap (λ (f : Filling). f.table) p ∙ (refused-filling _ r e).1)

pub look_up_refuses : LookUpRefuses
look_up_refuses κs a q x p r h = (map_refusals _).4 _ _ r (sym p ∙ h)
