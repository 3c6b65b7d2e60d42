-- The LPC lines arrive where the pin that they share does; and routing a number and tracing its arrival comes back to it.
use Prim.Native.Nat.{ℕ, ◌+◌, ◌-◌, ◌<◌, ◌≤◌}
use native.Mathlib.Omega.{arith}
use mathlib.Core.Path.{◌≡◌, refl, sym, ◌∙◌, ap, subst}
use mathlib.Core.Logic.{◌⊎◌, inl, inr, ⊎_elim}
use mathlib.Core.Bool.{Bool, true, false}
use borrow.Author.Tests.{eq-eqb, leb-true, ltb-true}
use lib.Dec.{leb, ltb}
use lib.ListN.{length}
use Rattle.std.specs.Prelude.{Ok}
use Rattle.words.specs.Choice.{if}
use Rattle.words.specs.Refusals.{rule}
use Rattle.words.proofs.Choices.{yes_if}
use Rattle.kinds.specs.Used.{no_bio}
use Rattle.clashes.proofs.Logic.{and_left, and_right}
use Rattle.parts.specs.Inputs.{wired, core_vector, is_named, owns}
use Rattle.lines.specs.Says.{Said, says}
use Rattle.lines.specs.Hubs.{hubs}
use Rattle.lines.specs.Routes.{lio_arrival, bio_owner, owner, arrival_of, through}
use Rattle.lines.specs.Rules.{keeps_rules}
use Rattle.lines.specs.Answers.{route_of, trace_of}
use Rattle.lines.specs.declared.Map.{Map}
use Rattle.lines.specs.declared.Owner.TheVariants.{BioInput, Nobody}
use Rattle.lines.specs.declared.Route.TheVariants.{Arrives, NoOwner, Unwired}
use Rattle.lines.specs.declared.Trace.TheVariants.{LioInput as LioTold, BioInput as BioTold, LpcCascade}
use Rattle.map_promises.specs.Sources.{input, pin, bio_at, is_shared, IsBehind, name}
use Rattle.map_promises.specs.Statements.{LpcLinesShare, Tells, ThereAndBack, OneNodeAsBefore}
use Rattle.map_promises.proofs.Bridges.{only_first, none_as_before, input_as_before}
use Rattle.map_promises.proofs.Kept.{Good, good}
use Rattle.map_promises.proofs.Logic.{same_answer, order, is_bool}
use Rattle.map_promises.proofs.Members.{found_or_not}
use Rattle.map_promises.proofs.Routing.{owner_nobody, owner-lio, owner-named, owner-bio, routed, lpc-line}
use Rattle.map_promises.proofs.Tracing.{tracing_names}

-- an answer that is no arrival
not-arrived : (v k : ℕ) → NoOwner ≡ Arrives v k → ⊥
not-arrived v k h = let z : ◌≡◌ {A = ℕ} 0 1 = cc in omega arith

-- an input that arrives is wired
wired_of : (said : Said) (i v k : ℕ) → lio_arrival said.lio i ≡ Arrives v k → wired said.lio i ≡ true
unfolding lio_arrival if
wired_of said i v k h = go (wired said.lio i) h
  where
    go : (a : Bool) → if a (Arrives (core_vector said.lio i) i) Unwired ≡ Arrives v k → a ≡ true
    go true h = refl
    go false h = absurd (let z : ◌≡◌ {A = ℕ} 0 1 = cc in omega arith)

module _ (map : Map) (kept : keeps_rules map ≡ true) where
  abbrev said : Said
  said = says map

  abbrev g : Good said
  g = good map kept

  pub lines_share : LpcLinesShare map
  lines_share p = let w = g.behind p in (w.0, w.1, λ n l. lpc-line map kept n l p w.0 w.1)

  -- ---- there and back
  -- where an answer arrives
  landing : (n v k : ℕ) → route_of map n ≡ Ok (Arrives v k) → arrival_of said (owner said n) ≡ Arrives v k
  landing n v k q = same_answer (sym (routed map kept n) ∙ q)

  back_lio : (n v k : ℕ) → 16 ≤ n → n < 48 → route_of map n ≡ Ok (Arrives v k) → Tells n (trace_of map v k)
  unfolding arrival_of
  back_lio n v k a b q =
      ⊎_elim
      (λ free.
      let r : lio_arrival said.lio (n - 16) ≡ Arrives v k = rw (owner-lio said n a b free) at (landing n v k q) in
      let t = (tracing_names map kept (input (n - 16)) v k (wired_of said (n - 16) v k r, free)).0 r in
      let e : 16 + (n - 16) ≡ n = omega arith in
      inl (t ∙ ap (λ (m : ℕ). Ok (LioTold m)) e))
      (λ named. absurd (not-arrived v k (rw (owner-named said n a b named) at (landing n v k q))))
      (is_bool (is_named said.ht (n - 16)))

  told_as : (j v n : ℕ) → (bio_at said j).base + v ≡ n → (name said (pin j v) ≡ BioTold n) ⊎ (name said (pin j v) ≡ LpcCascade n)
  unfolding if
  told_as j v n e = go (is_shared said j v)
    where
      go : (t : Bool)
          → (if t (LpcCascade ((bio_at said j).base + v)) (BioTold ((bio_at said j).base + v)) ≡ BioTold n)
          ⊎ (if t (LpcCascade ((bio_at said j).base + v)) (BioTold ((bio_at said j).base + v)) ≡ LpcCascade n)
      go true = inr (ap LpcCascade e)
      go false = inl (ap BioTold e)

  back_bio : (n v k : ℕ) → 48 ≤ n → route_of map n ≡ Ok (Arrives v k) → Tells n (trace_of map v k)
  unfolding arrival_of bio_owner
  back_bio n v k a q =
      ⊎_elim
      (λ w.
      let j = w.0 in
      let end = (bio_at said j).base + (bio_at said j).pins in
      let low : (bio_at said j).base ≤ n = leb-true _ _ (and_left (leb (bio_at said j).base n) (ltb n end) w.2) in
      let high : n < end = ltb-true _ _ (and_right (leb (bio_at said j).base n) (ltb n end) w.2) in
      let r : through (hubs said) (bio_at said j).node (n - (bio_at said j).base) ≡ Arrives v k =
      rw (owner-bio said n a, w.3) at (landing n v k q) in
      let t = (tracing_names map kept (pin j (n - (bio_at said j).base)) v k (w.1, omega arith)).0 r in
      let e : (bio_at said j).base + (n - (bio_at said j).base) ≡ n = omega arith in
      ⊎_elim (λ u. inr (inl (t ∙ ap Ok u))) (λ u. inr (inr (t ∙ ap Ok u))) (told_as j (n - (bio_at said j).base) n e))
      (λ w. absurd (not-arrived v k (rw (owner-bio said n a, w.1) at (landing n v k q))))
      (found_or_not no_bio (owns n) (λ b. BioInput b.node (n - b.base)) Nobody said.bios)

  back_lpc : (n v k : ℕ) → n < 16 → route_of map n ≡ Ok (Arrives v k)
      → (j : ℕ) × IsBehind said j × (trace_of map v k ≡ Ok (LpcCascade ((bio_at said j).base + said.lpc.cascade)))
  unfolding arrival_of
  back_lpc n v k l q =
      ⊎_elim
      (λ p. absurd (not-arrived v k (rw (owner_nobody said n l p) at (landing n v k q))))
      (λ p.
      let w = g.behind p in
      let t = (tracing_names map kept (pin w.0 said.lpc.cascade) v k w.1.0).0 (same_answer (sym (lpc-line map kept n l p w.0 w.1) ∙ q)) in
      (w.0, w.1, t ∙ ap Ok (yes_if _ _ _ (rw (p, eq-eqb said.lpc.cascade said.lpc.cascade refl) w.1.1))))
      (is_bool said.lpc.present)

  pub there_back : ThereAndBack map
  there_back n v k q = (
    (λ a.
        ⊎_elim
        (λ lt. back_lio n v k a lt q)
        (λ r. back_bio n v k (⊎_elim (λ z. omega arith) (λ z. omega arith) r) q)
        (order n 48)),
    λ l. back_lpc n v k l q,
  )

-- where all bridges have the LPC's node, the lines share a pin of the first
first_shared : (map : Map) → keeps_rules map ≡ true → ((j : ℕ) → j < length (says map).bios → (bio_at (says map) j).node ≡ (says map).lpc.node)
    → (says map).lpc.present ≡ true → IsBehind (says map) 0
first_shared map h alike p =
    let w = (good map h).behind p in
    subst (IsBehind (says map)) (only_first (says map) alike w.0 w.1.0.0 w.1.1) w.1

-- THE PROMISES
pub lpc_lines_share : (map : Map) → keeps_rules map ≡ true → LpcLinesShare map
lpc_lines_share map h = lines_share map h

pub there_and_back : (map : Map) → keeps_rules map ≡ true → ThereAndBack map
there_and_back map h = there_back map h

pub one_node_as_before : (map : Map) → OneNodeAsBefore map
one_node_as_before map alike =
    let said = says map in
    record {
      r43 = λ place. ap (λ (t : Bool). rule t 43 place) (none_as_before said alike);
      r45 = λ place some. ap (λ (t : Bool). rule t 45 place) (input_as_before said alike some);
      arriving = λ h p n l. lpc-line map h n l p 0 (first_shared map h alike p);
      tracing = λ h p v k q.
          let pinned = first_shared map h alike p in
          (tracing_names map h (pin 0 said.lpc.cascade) v k pinned.0).0 q
          ∙ ap Ok (yes_if _ _ _ (rw (p, eq-eqb said.lpc.cascade said.lpc.cascade refl) pinned.1));
    }
