-- Tracing an arrival back names the source that arrives there, and says nothing exactly where none does.
use Prim.Native.Nat.{ℕ, ◌+◌, ◌-◌, ◌<◌, ◌≤◌}
use native.Mathlib.Nat.{add-sub_cancel_left}
use native.Mathlib.Omega.{arith}
use mathlib.Core.Path.{◌≡◌, refl, sym, ◌∙◌, ap, ap₂}
use mathlib.Core.Logic.{◌⊎◌, inl, inr, ⊎_elim}
use mathlib.Core.Bool.{Bool, true, false, not, ◌&&◌, ◌||◌}
use borrow.Author.Tests.{eqb-true, eq-eqb, ne_eqb, not-true, leb-true, ltb-true, le-leb, lt-ltb}
use lib.Dec.{eqb, leb, ltb}
use lib.ListN.{length, get_or, take, length-take}
use lib.Seq.{get_or-take}
use Rattle.std.specs.Prelude.{Ok}
use Rattle.words.specs.Choice.{if}
use Rattle.words.proofs.Choices.{yes_if, no_if}
use Rattle.kinds.specs.Used.{no_bio, no_msi}
use Rattle.kinds.specs.declared.Half.{Half}
use Rattle.clashes.proofs.Logic.{and_left, and_right, or_cases, both_true, left_true, right_true, is_false}
use Rattle.parts.specs.Inputs.{has_bit, wired, leads, core_vector, is_named, has_slot, has_pin, is_bridge}
use Rattle.lines.specs.Says.{Said, says}
use Rattle.lines.specs.Hubs.{hubs, enters}
use Rattle.lines.specs.Traces.{slot_told, is_lpc_pin, pin_told, landed, comes_by, hub_traced, led_by_lio, traced}
use Rattle.lines.specs.Rules.{keeps_rules}
use Rattle.lines.specs.Answers.{trace_of}
use Rattle.lines.specs.declared.Map.{Map}
use Rattle.lines.specs.declared.Route.TheVariants.{Arrives}
use Rattle.lines.specs.declared.Trace.TheVariants.{Nothing, LioInput, BioInput, LpcCascade, MsiSlot}
use Rattle.map_promises.specs.Sources.{Source, input, pin, slot, no_hub, hub_at, bio_at, msi_at, IsSource, arrives, is_lpc_bridge, is_shared, name}
use Rattle.map_promises.specs.Statements.{TracingNames, Arrived, NothingExactly}
use Rattle.map_promises.proofs.Kept.{Good, good, hub_node, hub_core, hub_not_lio, bio_node, bio_number, bio-msi, msi_slot}
use Rattle.map_promises.proofs.Logic.{same_answer, is_bool, same_bool, both_bits, wired_small}
use Rattle.map_promises.proofs.Members.{at_every, finds, finds_none, found_or_not}
use Rattle.map_promises.proofs.NoTwoAlike.{core_at, input_at, of_arrives, input_enters, through-at, pin_at}

-- a half leads an input
led : (half : Half) (v i : ℕ) → v ≡ half.cascade → has_bit half.mask i ≡ true → leads half v i ≡ true
led half v i e b = both_true (eqb half.cascade v) (has_bit half.mask i) (eq-eqb _ _ (sym e)) b

module _ (said : Said) (g : Good said) where
  -- a half leads an input: there it arrives, if it is not named
  led_at : (v i : ℕ) → led_by_lio said v i ≡ true → (wired said.lio i ≡ true) × (is_named said.ht i ≡ false) × (core_vector said.lio i ≡ v)
  unfolding led_by_lio core_vector if
  led_at v i t =
      let low = said.lio.low in
      let high = said.lio.high in
      let led = leads low v i || leads high v i in
      let free = not-true (is_named said.ht i) (and_right led (not (is_named said.ht i)) t) in
      ⊎_elim
      (λ r.
      let b = and_right (eqb low.cascade v) (has_bit low.mask i) r in
      let e : low.cascade ≡ v = eqb-true _ _ (and_left (eqb low.cascade v) (has_bit low.mask i) r) in
      (left_true (has_bit low.mask i) (has_bit high.mask i) b, free, rw b e))
      (λ r.
      let b = and_right (eqb high.cascade v) (has_bit high.mask i) r in
      let e : high.cascade ≡ v = eqb-true _ _ (and_left (eqb high.cascade v) (has_bit high.mask i) r) in
      let n : has_bit low.mask i ≡ false = is_false (has_bit low.mask i) (λ q. both_bits low.mask high.mask i g.masks q b) in
      (right_true (has_bit low.mask i) (has_bit high.mask i) b, free, rw (n, b) e))
      (or_cases (leads low v i) (leads high v i) (and_left led (not (is_named said.ht i)) t))

  -- nothing is led by the LIO to where a hub leads a vector
  not_led : (e k : ℕ) → e < length (hubs said) → led_by_lio said ((hub_at said e).core k) ((hub_at said e).above + k) ≡ false
  not_led e k l =
      let i = (hub_at said e).above + k in
      is_false (led_by_lio said ((hub_at said e).core k) i)
      (λ t.
      let w = led_at ((hub_at said e).core k) i t in
      hub_not_lio said g e k i l refl (wired_small said.lio i w.0) (input_enters said g i ((hub_at said e).core k) w.0 w.2))

  -- what enters by the hub at a place landed on it
  hub_at_lem : (e k : ℕ) → e < length (hubs said) → hub_traced said ((hub_at said e).core k) ((hub_at said e).above + k) ≡ landed said (hub_at said e).node k
  unfolding hub_traced comes_by
  hub_at_lem e k l =
      let h = hub_at said e in
      let n = h.above + k in
      let same : n - h.above ≡ k = add-sub_cancel_left h.above k in
      finds no_hub (comes_by (h.core k) n) (λ x. landed said x.node (n - x.above)) Nothing (hubs said) e l
      (both_true (leb h.above n) (eqb (h.core (n - h.above)) (h.core k)) (le-leb h.above n (omega arith)) (eq-eqb _ _ (ap h.core same)))
      (λ j m t.
      let x = hub_at said j in
      let more : x.above ≤ n = leb-true _ _ (and_left (leb x.above n) (eqb (x.core (n - x.above)) (h.core k)) t) in
      let core = eqb-true _ _ (and_right (leb x.above n) (eqb (x.core (n - x.above)) (h.core k)) t) in
      let one = hub_core said g j e (n - x.above) k m l core (omega arith) in
      ap (λ i. landed said (hub_at said i).node (n - (hub_at said i).above)) one.0)
      ∙ ap (landed said h.node) same

  traced_hub : (e k : ℕ) → e < length (hubs said) → traced said ((hub_at said e).core k) ((hub_at said e).above + k) ≡ landed said (hub_at said e).node k
  unfolding traced
  traced_hub e k l = no_if _ _ _ (not_led e k l) (hub_at_lem e k l)

  -- a BIO of the LPC's node is its bridge, since by 52 no other has that node
  is_lpc_bridge_lem : (j : ℕ) → j < length said.bios → is_bridge said.lpc (bio_at said j) ≡ is_lpc_bridge said j
  is_lpc_bridge_lem j there =
      same_bool _ _
      (λ t. both_true (is_bridge said.lpc (bio_at said j)) _ t (at_every no_bio (λ b. not (is_bridge said.lpc b)) (take j said.bios) (earlier (eqb-true _ _ t))))
      (and_left (is_bridge said.lpc (bio_at said j)) _)
    where
      earlier : (bio_at said j).node ≡ said.lpc.node
          → (i : ℕ) → i < length (take j said.bios) → not (is_bridge said.lpc (get_or (take j said.bios) i no_bio)) ≡ true
      earlier own i k =
          let l : i < j = omega (arith, length-take j said.bios) in
          let e : get_or (take j said.bios) i no_bio ≡ bio_at said i = get_or-take j said.bios i no_bio l in
          rw (e, ne_eqb (bio_at said i).node said.lpc.node (λ z. let o : i ≡ j = bio_node said g i j (omega arith) there (z ∙ sym own) in omega arith))

  -- a pin is told by its name
  pin_told_lem : (j v : ℕ) → j < length said.bios → pin_told said.lpc v (bio_at said j) ≡ name said (pin j v)
  unfolding pin_told is_lpc_pin
  pin_told_lem j v there =
      ap (λ (t : Bool). if (said.lpc.present && eqb said.lpc.cascade v && t) (LpcCascade ((bio_at said j).base + v)) (BioInput ((bio_at said j).base + v)))
      (is_lpc_bridge_lem j there)

  -- a pin lands on the hub of its bridge's node
  landed_pin : (j v : ℕ) → j < length said.bios → v < (bio_at said j).pins → landed said (bio_at said j).node v ≡ pin_told said.lpc v (bio_at said j)
  unfolding landed has_pin
  landed_pin j v k l =
      finds no_bio (has_pin (bio_at said j).node v) (pin_told said.lpc v) (slot_told said.msis (bio_at said j).node v) said.bios j k
      (both_true (eqb (bio_at said j).node (bio_at said j).node) (ltb v (bio_at said j).pins) (eq-eqb (bio_at said j).node _ refl) (lt-ltb v (bio_at said j).pins l))
      (λ i h t.
      ap (λ n. pin_told said.lpc v (bio_at said n))
      (bio_node said g i j h k (eqb-true _ _ (and_left (eqb (bio_at said i).node (bio_at said j).node) (ltb v (bio_at said i).pins) t))))

  -- a slot is on every hub
  slot_at : (m s node : ℕ) → m < length said.msis → (msi_at said m).start ≤ s → s < (msi_at said m).start + (msi_at said m).count
      → slot_told said.msis node s ≡ MsiSlot node s
  unfolding slot_told
  slot_at m s node k p q =
      finds no_msi (has_slot s) (λ _. MsiSlot node s) Nothing said.msis m k
      (both_true (leb (msi_at said m).start s) (ltb s ((msi_at said m).start + (msi_at said m).count)) (le-leb _ _ p) (lt-ltb _ _ q)) (λ j h t. refl)

  landed_slot : (m s node : ℕ) → m < length said.msis → (msi_at said m).start ≤ s → s < (msi_at said m).start + (msi_at said m).count
      → landed said node s ≡ MsiSlot node s
  unfolding landed has_pin
  landed_slot m s node k p q =
      finds_none no_bio (has_pin node s) (pin_told said.lpc s) (slot_told said.msis node s) said.bios
      (λ j h t. bio-msi said g j m s h k (ltb-true s (bio_at said j).pins (and_right (eqb (bio_at said j).node node) (ltb s (bio_at said j).pins) t)) p q)
      ∙ slot_at m s node k p q

  names : (x : Source) (v k : ℕ) → IsSource said x → arrives said x ≡ Arrives v k → traced said v k ≡ name said x
  unfolding traced led_by_lio
  names (input i) v k p q =
      let r = of_arrives (sym (input_at said.lio i p.0) ∙ q) in
      let low = said.lio.low in
      let high = said.lio.high in
      let t : (leads low v i || leads high v i) ≡ true =
      ⊎_elim
      (λ h. left_true (leads low v i) (leads high v i) (led low v i (sym r.0 ∙ h.0) h.1))
      (λ h. right_true (leads low v i) (leads high v i) (led high v i (sym r.0 ∙ h.0) h.1))
      (core_at said.lio i p.0) in
      rw (sym r.1) (yes_if _ _ _ (rw (t, p.1)))
  names (pin j n) v k p q =
      let w = pin_at said g j n p.0 in
      let r = of_arrives (sym w.3 ∙ q) in
      ap₂ (traced said) (sym r.0) (sym r.1) ∙ traced_hub w.0 n w.1 ∙ ap (λ a. landed said a n) w.2 ∙ landed_pin j n p.0 p.1
      ∙ pin_told_lem j n p.0
  names (slot m s e) v k p q =
      let r = of_arrives q in
      ap₂ (traced said) (sym r.0) (sym r.1) ∙ traced_hub e s p.1 ∙ landed_slot m s (hub_at said e).node p.0 p.2 p.3

  -- ---- a source, or nothing is told
  of_lio : (v k : ℕ) → led_by_lio said v k ≡ true → Arrived said v k
  of_lio v k t =
      let w = led_at v k t in
      (input k, (w.0, w.1), input_at said.lio k w.0 ∙ ap (λ c. Arrives c k) w.2)

  -- vector k of the hub at a place enters a core vector with a number
  abbrev LeadsTo : ℕ → ℕ → ℕ → ℕ → Type 0
  LeadsTo e k v n = enters (hub_at said e) k ≡ Arrives v n

  of_slot : (e k v n : ℕ) → e < length (hubs said) → LeadsTo e k v n
      → Arrived said v n ⊎ (slot_told said.msis (hub_at said e).node k ≡ Nothing)
  unfolding slot_told
  of_slot e k v n l q =
      ⊎_elim
      (λ w.
      let s = msi_at said w.0 in
      inl (
        slot w.0 k e,
        (
          w.1,
          l,
          leb-true _ _ (and_left (leb s.start k) (ltb k (s.start + s.count)) w.2),
          ltb-true _ _ (and_right (leb s.start k) (ltb k (s.start + s.count)) w.2),
        ),
        q,
      ))
      (λ w. inr w.1)
      (found_or_not no_msi (has_slot k) (λ _. MsiSlot (hub_at said e).node k) Nothing said.msis)

  of_hub : (e k v n : ℕ) → e < length (hubs said) → LeadsTo e k v n
      → Arrived said v n ⊎ (landed said (hub_at said e).node k ≡ Nothing)
  unfolding landed has_pin
  of_hub e k v n l q =
      ⊎_elim
      (λ w.
      let t = w.2 in
      let node = eqb-true _ _ (and_left (eqb (bio_at said w.0).node (hub_at said e).node) (ltb k (bio_at said w.0).pins) t) in
      inl (
        pin w.0 k,
        (w.1, ltb-true k _ (and_right (eqb (bio_at said w.0).node (hub_at said e).node) (ltb k (bio_at said w.0).pins) t)),
        through-at said g e (bio_at said w.0).node k l (sym node) ∙ q,
      ))
      (λ w. ⊎_elim inl (λ z. inr (w.1 ∙ z)) (of_slot e k v n l q))
      (found_or_not no_bio (has_pin (hub_at said e).node k) (pin_told said.lpc k) (slot_told said.msis (hub_at said e).node k) said.bios)

  -- what comes by a hub is a vector of it
  comes : (e v n : ℕ) → comes_by v n (hub_at said e) ≡ true → LeadsTo e (n - (hub_at said e).above) v n
  unfolding comes_by
  comes e v n t =
      let h = hub_at said e in
      let more : h.above ≤ n = leb-true _ _ (and_left (leb h.above n) (eqb (h.core (n - h.above)) v) t) in
      let core : h.core (n - h.above) ≡ v = eqb-true _ _ (and_right (leb h.above n) (eqb (h.core (n - h.above)) v) t) in
      let number : h.above + (n - h.above) ≡ n = omega arith in
      ap₂ Arrives core number

  source_or_nothing : (v n : ℕ) → Arrived said v n ⊎ (traced said v n ≡ Nothing)
  unfolding traced hub_traced
  source_or_nothing v n =
      ⊎_elim
      (λ no.
      ⊎_elim
      (λ w. ⊎_elim inl (λ z. inr (no_if _ _ _ no (w.3 ∙ z))) (of_hub w.0 (n - (hub_at said w.0).above) v n w.1 (comes w.0 v n w.2)))
      (λ w. inr (no_if _ _ _ no w.1))
      (found_or_not no_hub (comes_by v n) (λ x. landed said x.node (n - x.above)) Nothing (hubs said)))
      (λ yes. inl (of_lio v n yes))
      (is_bool (led_by_lio said v n))

  -- a source's name is not nothing
  pub named : (x : Source) → name said x ≡ Nothing → ⊥
  unfolding if
  named (input i) e = let o : ◌≡◌ {A = ℕ} 0 1 = cc in omega arith
  named (pin j v) e = picked (is_shared said j v) ((bio_at said j).base + v) e
    where
      picked : (t : Bool) (n : ℕ) → if t (LpcCascade n) (BioInput n) ≡ Nothing → ⊥
      picked true n e = let o : ◌≡◌ {A = ℕ} 0 1 = cc in omega arith
      picked false n e = let o : ◌≡◌ {A = ℕ} 0 1 = cc in omega arith
  named (slot m s n) e = let o : ◌≡◌ {A = ℕ} 0 1 = cc in omega arith

-- a map that keeps the rules is told as it is
pub told : (map : Map) → keeps_rules map ≡ true → (v k : ℕ) → trace_of map v k ≡ Ok (traced (says map) v k)
unfolding trace_of
told map h v k = yes_if _ _ _ h

-- ---- names tell sources apart
is-lio : (m n : ℕ) → LioInput m ≡ LioInput n → m ≡ n
is-lio m n h = cc

-- the global number that a pin is told by
pin_number : (t u : Bool) (m n : ℕ) → if t (LpcCascade m) (BioInput m) ≡ if u (LpcCascade n) (BioInput n) → m ≡ n
unfolding if
pin_number true true m n h = cc
pin_number false false m n h = cc
pin_number true false m n h = absurd (let o : ◌≡◌ {A = ℕ} 0 1 = cc in omega arith)
pin_number false true m n h = absurd (let o : ◌≡◌ {A = ℕ} 0 1 = cc in omega arith)

pin_not_lio : (t : Bool) (m n : ℕ) → if t (LpcCascade m) (BioInput m) ≡ LioInput n → ⊥
unfolding if
pin_not_lio true m n h = let o : ◌≡◌ {A = ℕ} 0 1 = cc in omega arith
pin_not_lio false m n h = let o : ◌≡◌ {A = ℕ} 0 1 = cc in omega arith

pin_not_slot : (t : Bool) (m node s : ℕ) → if t (LpcCascade m) (BioInput m) ≡ MsiSlot node s → ⊥
unfolding if
pin_not_slot true m node s h = let o : ◌≡◌ {A = ℕ} 0 1 = cc in omega arith
pin_not_slot false m node s h = let o : ◌≡◌ {A = ℕ} 0 1 = cc in omega arith

module _ (said : Said) (g : Good said) where
  pins_one : (i j v w : ℕ) → IsSource said (pin i v) → IsSource said (pin j w) → (bio_at said i).base + v ≡ (bio_at said j).base + w → pin i v ≡ pin j w
  pins_one i j v w p q e =
      let n = (bio_at said i).base + v in
      let z : i ≡ j =
      bio_number said g i j n p.0 q.0 (omega arith) (omega (arith, p.1)) (omega arith) (omega (arith, q.1)) in
      let b : (bio_at said i).base ≡ (bio_at said j).base = ap (λ k. (bio_at said k).base) z in
      ap₂ pin z (omega arith)

  one_name : (x y : Source) → IsSource said x → IsSource said y → name said x ≡ name said y → x ≡ y
  one_name (input i) (input j) p q e = let z = is-lio (16 + i) (16 + j) e in ap input (omega arith)
  one_name (input i) (pin j v) p q e = absurd (pin_not_lio (is_shared said j v) ((bio_at said j).base + v) (16 + i) (sym e))
  one_name (input i) (slot m s f) p q e = absurd (let o : ◌≡◌ {A = ℕ} 0 1 = cc in omega arith)
  one_name (pin j v) (input i) p q e = absurd (pin_not_lio (is_shared said j v) ((bio_at said j).base + v) (16 + i) e)
  one_name (pin i v) (pin j w) p q e =
      pins_one i j v w p q
      (pin_number (is_shared said i v) (is_shared said j w) ((bio_at said i).base + v) ((bio_at said j).base + w) e)
  one_name (pin j v) (slot m s f) p q e =
      absurd (pin_not_slot (is_shared said j v) ((bio_at said j).base + v) (hub_at said f).node s e)
  one_name (slot m s f) (input i) p q e = absurd (let o : ◌≡◌ {A = ℕ} 0 1 = cc in omega arith)
  one_name (slot m s f) (pin j v) p q e =
      absurd (pin_not_slot (is_shared said j v) ((bio_at said j).base + v) (hub_at said f).node s (sym e))
  one_name (slot m s f) (slot m' s' f') p q e =
      let node : (hub_at said f).node ≡ (hub_at said f').node = cc in
      let number : s ≡ s' = cc in
      let a = hub_node said g f f' p.1 q.1 node in
      let b = msi_slot said g m m' s p.0 q.0 p.2 p.3 (omega (arith, q.2)) (omega (arith, q.3)) in
      cc

  -- what is named arrives
  named-arrives : (x : Source) (v k : ℕ) → IsSource said x → traced said v k ≡ name said x → arrives said x ≡ Arrives v k
  named-arrives x v k p e =
      ⊎_elim
      (λ a.
      let same = one_name a.0 x a.1 p (sym (names said g a.0 v k a.1 a.2) ∙ e) in
      ap (arrives said) (sym same) ∙ a.2)
      (λ z. absurd (named said g x (sym e ∙ z)))
      (source_or_nothing said g v k)

-- THE PROMISES
pub tracing_names : (map : Map) → keeps_rules map ≡ true → TracingNames map
tracing_names map h x v k p = (
  (λ q. told map h v k ∙ ap Ok (names (says map) (good map h) x v k p q)),
  λ q. named-arrives (says map) (good map h) x v k p (same_answer (sym (told map h v k) ∙ q)),
)

pub nothing-exactly : (map : Map) → keeps_rules map ≡ true → NothingExactly map
nothing-exactly map h v k =
    ⊎_elim
    (λ a. inl (a, λ z. named said g a.0 (same_answer (sym ((tracing_names map h a.0 v k a.1).0 a.2) ∙ z))))
    (λ z. inr ((λ a. named said g a.0 (sym (names said g a.0 v k a.1 a.2) ∙ z)), told map h v k ∙ ap Ok z))
    (source_or_nothing said g v k)
  where
    said : Said
    said = says map

    g : Good (says map)
    g = good map h
