-- Every answer of a map that keeps the rules fits its code: 71 to 78 bound core vectors, nodes, bases and slots.
use Prim.Native.Nat.{ℕ, zero, suc, ◌+◌, ◌-◌, ◌^◌, ◌<◌, ◌≤◌}
use native.Mathlib.Omega.{arith}
use mathlib.Core.Path.{◌≡◌, refl, sym, subst}
use mathlib.Core.Logic.{⊎_elim}
use mathlib.Core.Bool.{Bool, true, ◌||◌}
use mathlib.Core.List.{List}
use borrow.Author.Tests.{ltb-true}
use lib.Dec.{eqb, leb, ltb}
use lib.ListN.{length, get_or}
use Rattle.std.specs.Prelude.{Ok}
use Rattle.words.specs.Lists.{first}
use Rattle.words.proofs.Choices.{if_cases}
use Rattle.clashes.proofs.Logic.{and_left, and_right}
use Rattle.parts.specs.Inputs.{leads, core_vector, input_for, has_pin, has_slot, owns}
use Rattle.parts.proofs.Inputs.{pin_small, leads_small}
use Rattle.lines.specs.Says.{Said, says}
use Rattle.lines.specs.Hubs.{Hub, hubs, enters}
use Rattle.lines.specs.Routes.{lio_arrival, through, bio_owner, owner, arrival_of}
use Rattle.lines.specs.Traces.{slot_told, pin_told, landed, comes_by, hub_traced, led_by_lio, traced}
use Rattle.lines.specs.Rules.{ranges_kept, keeps_rules}
use Rattle.lines.specs.declared.Map.{Map}
use Rattle.lines.specs.declared.Owner.{Owner}
use Rattle.lines.specs.declared.Owner.TheVariants.{BioInput as of_bio, Nobody}
use Rattle.lines.specs.declared.Route.{Route}
use Rattle.lines.specs.declared.Route.TheVariants.{NoOwner}
use Rattle.lines.specs.declared.Trace.{Trace}
use Rattle.lines.specs.declared.Trace.TheVariants.{Nothing, MsiSlot}
use Rattle.kinds.specs.Used.{no_bio, no_msi}
use Rattle.map_promises.specs.Sources.{no_hub, hub_at, bio_at, msi_at}
use Rattle.map_promises.specs.Statements.{RouteFits, TraceFits, AnswersFit}
use Rattle.map_promises.proofs.Hubs.{each_hub}
use Rattle.map_promises.proofs.Kept.{good}
use Rattle.map_promises.proofs.Members.{found_or_not}
use Rattle.map_promises.proofs.Ranged.{eio-fits, bio-fits, msi-fits, low_used, high_used, lpc-fits}
use Rattle.map_promises.proofs.Routing.{routed}
use Rattle.map_promises.proofs.Tracing.{told}
use Rattle.map_promises.proofs.Unused.{lio_said}

-- a route, or a trace, that is answered
abbrev FitsRoute : Route → Type 0
FitsRoute route = RouteFits (Ok route)

abbrev FitsTrace : Trace → Type 0
FitsTrace trace = TraceFits (Ok trace)

-- what holds of all that a search can find holds of what it finds
found_holds : {A R : Type 0} (d : A) (P : R → Type 0) (test : A → Bool) (found : A → R) (none : R) (l : List A)
    → ((i : ℕ) → i < length l → test (get_or l i d) ≡ true → P (found (get_or l i d))) → P none → P (first test found none l)
found_holds d P test found none l each last =
    ⊎_elim (λ w. subst P (sym w.3) (each w.0 w.1 w.2)) (λ w. subst P (sym w.1) last) (found_or_not d test found none l)

-- an unused half's byte is 0
half_small : (mask cascade : ℕ) → ((mask ≡ 0 → ⊥) → (2 ≤ cascade) × (cascade ≤ 9)) → (mask ≡ 0 → cascade ≡ 0) → cascade ≤ 9
half_small zero cascade used unused = omega (arith, unused refl)
half_small (suc mask) cascade used unused = (used (λ z. omega arith)).1

module _ (map : Map) (kept : keeps_rules map ≡ true) where
  abbrev said : Said
  said = says map

  ranged : ranges_kept said ≡ true
  ranged = (good map kept).ranged

  low_small : said.lio.low.cascade ≤ 9
  low_small = half_small said.lio.low.mask _ (low_used said ranged) (lio_said map.lio).0

  high_small : said.lio.high.cascade ≤ 9
  high_small = half_small said.lio.high.mask _ (high_used said ranged) (lio_said map.lio).1

  -- ---- core vectors, and hubs
  core_small : (i : ℕ) → core_vector said.lio i ≤ 9
  unfolding core_vector
  core_small i = if_cases (λ (c : ℕ). c ≤ 9) _ _ _ (λ t. low_small) (λ t. if_cases (λ (c : ℕ). c ≤ 9) _ _ _ (λ u. high_small) (λ u. omega arith))

  abbrev HubFits : Hub → Type 0
  HubFits h = ((v : ℕ) → h.core v ≤ 9) × (h.above ≤ 256) × (h.node ≤ 63)

  hub_fits : (e : ℕ) → e < length (hubs said) → HubFits (hub_at said e)
  hub_fits =
      each_hub said (λ e h. HubFits h) (λ y. ((λ v. core_small (input_for said.ht v)), omega arith, omega arith))
      (λ n e l. let f = eio-fits said ranged e l in ((λ v. f.2), omega arith, f.1))

  -- ---- routes
  through-fits : (node v : ℕ) → v < 64 → FitsRoute (through (hubs said) node v)
  unfolding through
  through-fits node v small =
      found_holds no_hub FitsRoute (λ h. eqb h.node node) (λ h. enters h v) NoOwner (hubs said)
      (λ i k t. let f = hub_fits i k in (omega (arith, f.0 v), omega (arith, f.1)))
      (omega arith)

  lio_route_fits : (i : ℕ) → i < 32 → FitsRoute (lio_arrival said.lio i)
  unfolding lio_arrival
  lio_route_fits i small = if_cases FitsRoute _ _ _ (λ t. (omega (arith, core_small i), omega arith)) (λ t. omega arith)

  bio_route_fits : (n : ℕ) → FitsRoute (arrival_of said (bio_owner said.bios n))
  unfolding bio_owner arrival_of
  bio_route_fits n =
      found_holds no_bio (λ (o : Owner). FitsRoute (arrival_of said o)) (owns n) (λ b. of_bio b.node (n - b.base)) Nobody said.bios
      (λ i k t.
      let base = (bio_at said i).base in
      let pins = (bio_at said i).pins in
      let high : n < base + pins = ltb-true _ _ (and_right (leb base n) (ltb n (base + pins)) t) in
      through-fits (bio_at said i).node (n - base) (omega (arith, (bio-fits said ranged i k).4)))
      (omega arith)

  arrival-fits : (n : ℕ) → FitsRoute (arrival_of said (owner said n))
  unfolding owner arrival_of
  arrival-fits n =
      if_cases (λ (o : Owner). FitsRoute (arrival_of said o)) _ _ _
      (λ t. if_cases (λ (o : Owner). FitsRoute (arrival_of said o)) _ _ _ (λ u. through-fits said.lpc.node said.lpc.cascade (omega (arith, lpc-fits said ranged))) (λ u. omega arith))
      (λ t. if_cases (λ (o : Owner). FitsRoute (arrival_of said o)) _ _ _
      (λ u. if_cases (λ (o : Owner). FitsRoute (arrival_of said o)) _ _ _ (λ w. omega arith) (λ w. lio_route_fits (n - 16) (let less = ltb-true n 48 u in omega arith)))
      (λ u. bio_route_fits n))

  -- ---- traces
  slot_fits : (node k : ℕ) → node ≤ 63 → FitsTrace (slot_told said.msis node k)
  unfolding slot_told
  slot_fits node k small =
      found_holds no_msi FitsTrace (has_slot k) (λ _. MsiSlot node k) Nothing said.msis
      (λ i l t.
      let m = msi_at said i in
      let high : k < m.start + m.count = ltb-true _ _ (and_right (leb m.start k) (ltb k (m.start + m.count)) t) in
      (omega arith, omega (arith, (msi-fits said ranged i l).1)))
      (omega arith)

  landed-fits : (node k : ℕ) → node ≤ 63 → FitsTrace (landed said node k)
  unfolding landed pin_told
  landed-fits node k small =
      found_holds no_bio FitsTrace (has_pin node k) (pin_told said.lpc k) (slot_told said.msis node k) said.bios
      (λ i l t.
      let few = pin_small node k (bio_at said i) t in
      let fits : (bio_at said i).base + k < 2 ^ 32 = (let fit = bio-fits said ranged i l in omega (arith, fit.2, fit.4)) in
      if_cases FitsTrace _ _ _ (λ u. fits) (λ u. fits))
      (slot_fits node k small)

  hub_trace_fits : (v n : ℕ) → FitsTrace (hub_traced said v n)
  unfolding hub_traced
  hub_trace_fits v n =
      found_holds no_hub FitsTrace (comes_by v n) (λ h. landed said h.node (n - h.above)) Nothing (hubs said)
      (λ i l t. landed-fits (hub_at said i).node (n - (hub_at said i).above) (hub_fits i l).2)
      (omega arith)

  traced-fits : (v k : ℕ) → FitsTrace (traced said v k)
  unfolding traced led_by_lio
  traced-fits v k =
      if_cases FitsTrace _ _ _
      (λ t.
      let led = leads said.lio.low v k || leads said.lio.high v k in
      let small = leads_small said.lio.low said.lio.high v k (and_left led _ t) in
      omega arith)
      (λ t. hub_trace_fits v k)

-- THE PROMISE
pub answers_fit : (map : Map) → AnswersFit map
answers_fit map kept = (
  (λ n. subst RouteFits (sym (routed map kept n)) (arrival-fits map kept n)),
  λ v k. subst TraceFits (sym (told map kept v k)) (traced-fits map kept v k),
)
