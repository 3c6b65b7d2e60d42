-- Every source of a map that keeps the rules arrives, and no two of them at one core vector with one number.
use Prim.Native.Nat.{ℕ, ◌<◌}
use native.Mathlib.Omega.{arith}
use mathlib.Core.Path.{◌≡◌, refl, sym, ◌∙◌, ap, ap₂}
use mathlib.Core.Logic.{◌⊎◌, inl, inr, ⊎_elim}
use mathlib.Core.Bool.{Bool, true, false, ◌||◌}
use borrow.Author.Tests.{eqb-true, eq-eqb}
use lib.Dec.{eqb}
use lib.ListN.{length}
use Rattle.words.specs.Choice.{if}
use Rattle.kinds.specs.declared.Lio.{Lio}
use Rattle.parts.specs.Inputs.{has_bit, wired, core_vector}
use Rattle.words.proofs.Choices.{yes_if}
use Rattle.lines.specs.Says.{Said, says}
use Rattle.lines.specs.Hubs.{hubs, enters}
use Rattle.lines.specs.Routes.{lio_arrival, through}
use Rattle.lines.specs.Rules.{keeps_rules}
use Rattle.lines.specs.declared.Map.{Map}
use Rattle.lines.specs.declared.Route.TheVariants.{Arrives, NoOwner}
use Rattle.map_promises.specs.Sources.{Source, input, pin, slot, no_hub, hub_at, bio_at, IsSource, arrives}
use Rattle.map_promises.specs.Structures as structures
use Rattle.map_promises.specs.Clashing.{Enters}
use Rattle.map_promises.specs.Statements.{NoTwoAlike}
use Rattle.map_promises.proofs.Kept.{Good, good, hub_node, hub_core, hub_not_lio, bio_node, bio-msi, msi_slot}
use Rattle.map_promises.proofs.Logic.{bit_used, wired_small}
use Rattle.map_promises.proofs.Members.{finds}

-- the core vector of a wired input is the cascade of the half that has its bit
pub core_at : (lio : Lio) (i : ℕ) → wired lio i ≡ true
    → ((core_vector lio i ≡ lio.low.cascade) × (has_bit lio.low.mask i ≡ true)) ⊎ ((core_vector lio i ≡ lio.high.cascade) × (has_bit lio.high.mask i ≡ true))
unfolding core_vector if
core_at lio i h = go (has_bit lio.low.mask i) (has_bit lio.high.mask i) h
  where
    go : (a b : Bool) → (a || b) ≡ true
        → ((if a lio.low.cascade (if b lio.high.cascade 0) ≡ lio.low.cascade) × (a ≡ true))
        ⊎ ((if a lio.low.cascade (if b lio.high.cascade 0) ≡ lio.high.cascade) × (b ≡ true))
    go true b h = inl (refl, refl)
    go false true h = inr (refl, refl)
    go false false h = absurd (let z : ◌≡◌ {A = ℕ} 0 1 = cc in omega arith)

-- and there it arrives
pub input_at : (lio : Lio) (i : ℕ) → wired lio i ≡ true → lio_arrival lio i ≡ Arrives (core_vector lio i) i
unfolding lio_arrival
input_at lio i h = yes_if _ _ _ h

-- what an arrival tells
pub of_arrives : {a b c d : ℕ} → Arrives a b ≡ Arrives c d → (a ≡ c) × (b ≡ d)
of_arrives z = (cc, cc)

module _ (said : Said) (g : Good said) where
  -- where a wired input arrives the LIO enters
  pub input_enters : (i v : ℕ) → wired said.lio i ≡ true → core_vector said.lio i ≡ v → Enters said structures.lio v
  input_enters i v p e =
      ⊎_elim
      (λ r. inl (bit_used said.lio.low.mask i r.1, sym r.0 ∙ e))
      (λ r. inr (bit_used said.lio.high.mask i r.1, sym r.0 ∙ e))
      (core_at said.lio i p)

  -- what goes through the hub at a place arrives where that leads to
  pub through-at : (e node v : ℕ) → e < length (hubs said) → (hub_at said e).node ≡ node → through (hubs said) node v ≡ enters (hub_at said e) v
  unfolding through
  through-at e node v k q =
      finds no_hub (λ x. eqb x.node node) (λ x. enters x v) NoOwner (hubs said) e k (eq-eqb _ _ q)
      (λ j l t. ap (λ i. enters (hub_at said i) v) (hub_node said g j e l k (eqb-true _ _ t ∙ sym q)))

  -- a pin arrives through the hub of its bridge
  pub pin_at : (j v : ℕ) → j < length said.bios
      → (e : ℕ) × (e < length (hubs said)) × ((hub_at said e).node ≡ (bio_at said j).node)
      × (through (hubs said) (bio_at said j).node v ≡ enters (hub_at said e) v)
  pin_at j v k =
      let w = g.hub j k in
      (w.0, w.1, w.2, through-at w.0 (bio_at said j).node v w.1 w.2)

  pub every_source_arrives : (x : Source) → IsSource said x → (v : ℕ) × (n : ℕ) × (arrives said x ≡ Arrives v n)
  every_source_arrives (input i) p = (_, _, input_at said.lio i p.0)
  every_source_arrives (pin j v) p = let w = pin_at j v p.0 in (_, _, w.3)
  every_source_arrives (slot m s e) p = (_, _, refl)

  -- a LIO input and what comes by a hub
  input_hub : (i e v : ℕ) → wired said.lio i ≡ true → e < length (hubs said) → lio_arrival said.lio i ≡ enters (hub_at said e) v → ⊥
  input_hub i e v p k q =
      let r = of_arrives (sym (input_at said.lio i p) ∙ q) in
      hub_not_lio said g e v i k (sym r.1) (wired_small said.lio i p) (input_enters i ((hub_at said e).core v) p r.0)

  pin_pin : (i j v w : ℕ) → i < length said.bios → j < length said.bios
      → through (hubs said) (bio_at said i).node v ≡ through (hubs said) (bio_at said j).node w → (i ≡ j) × (v ≡ w)
  pin_pin i j v w hi hj q =
      let x = pin_at i v hi in
      let y = pin_at j w hj in
      let r = of_arrives (sym x.3 ∙ q ∙ y.3) in
      let e = hub_core said g x.0 y.0 v w x.1 y.1 r.0 r.1 in
      (bio_node said g i j hi hj (sym x.2 ∙ ap (λ n. (hub_at said n).node) e.0 ∙ y.2), e.1)

  pin_slot : (j v m s e : ℕ) → IsSource said (pin j v) → IsSource said (slot m s e)
      → through (hubs said) (bio_at said j).node v ≡ enters (hub_at said e) s → ⊥
  pin_slot j v m s e p q r =
      let w = pin_at j v p.0 in
      let a = of_arrives (sym w.3 ∙ r) in
      let n = (hub_core said g w.0 e v s w.1 q.1 a.0 a.1).1 in
      bio-msi said g j m s p.0 q.0 (omega (arith, p.1, n)) q.2 q.3

  pub one_source : (x y : Source) → IsSource said x → IsSource said y → arrives said x ≡ arrives said y → x ≡ y
  one_source (input i) (input j) p q e =
      ap input (of_arrives (sym (input_at said.lio i p.0) ∙ e ∙ input_at said.lio j q.0)).1
  one_source (input i) (pin j v) p q e = let w = pin_at j v q.0 in absurd (input_hub i w.0 v p.0 w.1 (e ∙ w.3))
  one_source (input i) (slot m s f) p q e = absurd (input_hub i f s p.0 q.1 e)
  one_source (pin j v) (input i) p q e = let w = pin_at j v p.0 in absurd (input_hub i w.0 v q.0 w.1 (sym e ∙ w.3))
  one_source (pin i v) (pin j w) p q e = let r = pin_pin i j v w p.0 q.0 e in ap₂ pin r.0 r.1
  one_source (pin j v) (slot m s f) p q e = absurd (pin_slot j v m s f p q e)
  one_source (slot m s f) (input i) p q e = absurd (input_hub i f s q.0 p.1 (sym e))
  one_source (slot m s f) (pin j v) p q e = absurd (pin_slot j v m s f q p (sym e))
  one_source (slot m s f) (slot m' s' f') p q e =
      let r = of_arrives e in
      let a = hub_core said g f f' s s' p.1 q.1 r.0 r.1 in
      let number = a.1 in
      let b = msi_slot said g m m' s p.0 q.0 p.2 p.3 (omega (arith, q.2)) (omega (arith, q.3)) in
      let hub = a.0 in
      cc

-- THE PROMISE
pub no_two_alike : (map : Map) → keeps_rules map ≡ true → NoTwoAlike (says map)
no_two_alike map h = let g = good map h in (every_source_arrives (says map) g, one_source (says map) g)
