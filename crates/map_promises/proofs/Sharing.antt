-- Two structures clash by 41, 51, 52 or 53 exactly where they share what the rule speaks of; and two sources share something
-- exactly where two different structures do.
use Prim.Native.Nat.{ℕ, ◌+◌, ◌-◌, ◌<◌, ◌≤◌}
use native.Mathlib.Omega.{arith}
use mathlib.Core.Path.{◌≡◌, refl, sym, ◌∙◌, ap, ap₂}
use mathlib.Core.Logic.{◌⊎◌, inl, inr, ⊎_elim}
use mathlib.Core.Bool.{true, not, ◌||◌, or-true}
use borrow.Author.Tests.{eqb-true, eq-eqb, ne_eqb, lt-ltb, ltb-true}
use lib.Dec.{eqb, ltb}
use lib.ListN.{length}
use Rattle.words.specs.Choice.{if}
use Rattle.clashes.specs.Rules.{no_node, meet, repeats_node, shares_number, shares_vector, clash}
use Rattle.clashes.specs.declared.Run.{Run}
use Rattle.clashes.specs.declared.Claim.{Claim}
use Rattle.clashes.proofs.Logic.{and_left, and_right, or_cases, both_true}
use Rattle.clashes.proofs.Symmetric.{core_of, of_core}
use Rattle.lines.specs.Says.{Said}
use Rattle.lines.specs.Hubs.{hubs}
use Rattle.lines.specs.Rules.{ranges_kept, slot_places}
use Rattle.map_promises.specs.Sources.{Source, input, pin, slot, eio_at, bio_at, msi_at, IsSource, HasNumber, LandsOn}
use Rattle.map_promises.specs.Structures.{Structure, lio, eio, bio, msi, IsIn, claim_of}
use Rattle.map_promises.specs.Clashing.{structure_of, HasNode, Enters, ShareNode, ShareNumber, ShareVector, ShareCore, Sharing, TwoNumber, TwoVector}
use Rattle.map_promises.proofs.Hubs.{OwnHub}
use Rattle.map_promises.proofs.Logic.{neq, order, wired_small}
use Rattle.map_promises.proofs.Meetings.{Clash, Agrees}
use Rattle.map_promises.proofs.Ranged.{eio-fits, bio-fits, msi-fits, low_used, high_used}

-- what two runs that meet say
runs : (a b : Run) → meet a b ≡ true → (a.first < b.first + b.count) × (b.first < a.first + a.count)
runs a b h =
    let p = ltb a.first (b.first + b.count) in
    let q = ltb b.first (a.first + a.count) in
    (ltb-true _ _ (and_left p q h), ltb-true _ _ (and_right p q h))

-- what 41 says of two claims
nodes : (x y : Claim) → repeats_node x y ≡ true → (x.node ≡ no_node → ⊥) × (x.node ≡ y.node)
nodes x y h =
    let some = not (eqb x.node no_node) in
    let same = eqb x.node y.node in
    (neq x.node no_node (and_left some same h), eqb-true x.node y.node (and_right some same h))

-- what 52 says of two claims
vectors : (x y : Claim) → shares_vector x y ≡ true
    → (((x.hub ≡ y.hub) ⊎ (x.hub ≡ no_node)) ⊎ (y.hub ≡ no_node))
    × (x.vectors.first < y.vectors.first + y.vectors.count) × (y.vectors.first < x.vectors.first + x.vectors.count)
vectors x y h =
    let e = eqb x.hub y.hub in
    let p = eqb x.hub no_node in
    let q = eqb y.hub no_node in
    let m = meet x.vectors y.vectors in
    let r = runs x.vectors y.vectors (and_right (e || p || q) m h) in (
      ⊎_elim
          (λ s. inl (⊎_elim (λ u. inl (eqb-true x.hub y.hub u)) (λ u. inr (eqb-true x.hub no_node u)) (or_cases e p s)))
          (λ s. inr (eqb-true y.hub no_node s)) (or_cases (e || p) q (and_left (e || p || q) m h)),
      r.0,
      r.1,
    )

module _ (said : Said) (ranged : ranges_kept said ≡ true) where
  abbrev at : Structure → Claim
  at s = claim_of said slot_places s

  -- ---- 41
  node_shared : (s t : Structure) → Clash said 41 s t → ShareNode said s t
  unfolding clash if
  node_shared s t h = go s t (nodes (at s) (at t) h)
    where
      go : (s t : Structure) → ((at s).node ≡ no_node → ⊥) × ((at s).node ≡ (at t).node) → ShareNode said s t
      go lio t r = absurd (r.0 refl)
      go (bio j) t r = absurd (r.0 refl)
      go (msi m) t r = absurd (r.0 refl)
      go (eio e) lio r = absurd (r.0 r.1)
      go (eio e) (bio j) r = absurd (r.0 r.1)
      go (eio e) (msi m) r = absurd (r.0 r.1)
      go (eio e) (eio f) r = ((eio_at said e).node, refl, sym r.1)

  node_clash : (s t : Structure) → IsIn said s → (n : ℕ) → HasNode said s n → HasNode said t n → Clash said 41 s t
  unfolding clash if
  node_clash lio t k n u v = absurd u
  node_clash (bio j) t k n u v = absurd u
  node_clash (msi m) t k n u v = absurd u
  node_clash (eio e) lio k n u v = absurd v
  node_clash (eio e) (bio j) k n u v = absurd v
  node_clash (eio e) (msi m) k n u v = absurd v
  node_clash (eio e) (eio f) k n u v =
      let small = (eio-fits said ranged e k).1 in
      both_true (not (eqb (eio_at said e).node no_node)) (eqb (eio_at said e).node (eio_at said f).node)
      (rw (ne_eqb (eio_at said e).node no_node (omega arith))) (eq-eqb _ _ (u ∙ sym v))

  pub node_agrees : Agrees said 41 (ShareNode said)
  node_agrees =
      record { shares = λ s t ks kt c. node_shared s t c; clashes = λ s t ks kt n w. node_clash s t ks w.0 w.1 w.2 }

  -- ---- 51
  number_clash : (x y : Source) → IsSource said x → IsSource said y → (structure_of x ≡ structure_of y → ⊥)
      → (g : ℕ) → HasNumber said x g → HasNumber said y g → Clash said 51 (structure_of x) (structure_of y)
  unfolding clash if
  number_clash (input i) (input j) p q n g u v = absurd (n refl)
  number_clash (input i) (pin j w) p q n g u v = absurd (let f = bio-fits said ranged j q.0 in omega (arith, wired_small said.lio i p.0))
  number_clash (pin j w) (input i) p q n g u v = absurd (let f = bio-fits said ranged j p.0 in omega (arith, wired_small said.lio i q.0))
  number_clash (input i) (slot k s e) p q n g u v = absurd v
  number_clash (pin j w) (slot k s e) p q n g u v = absurd v
  number_clash (slot k s e) y p q n g u v = absurd u
  number_clash (pin i x) (pin j y) p q n g u v =
      rw (
        lt-ltb (bio_at said i).base ((bio_at said j).base + (bio_at said j).pins) (omega (arith, p.1, q.1)),
        lt-ltb (bio_at said j).base ((bio_at said i).base + (bio_at said i).pins) (omega (arith, p.1, q.1)),
      )

  -- a claim with no numbers clashes with none
  no_number : (x y : Claim) → (x.numbers.first + x.numbers.count ≡ 0) ⊎ (y.numbers.first + y.numbers.count ≡ 0) → shares_number x y ≡ true → ⊥
  no_number x y z h = let r = runs x.numbers y.numbers h in ⊎_elim (λ e. omega (arith, r.1)) (λ e. omega (arith, r.0)) z

  number_shared : (s t : Structure) → IsIn said s → IsIn said t → Clash said 51 s t → ShareNumber said s t
  unfolding clash if
  number_shared lio t p q h = absurd (no_number (at lio) (at t) (inl refl) h)
  number_shared (eio e) t p q h = absurd (no_number (at (eio e)) (at t) (inl refl) h)
  number_shared (msi k) t p q h = absurd (no_number (at (msi k)) (at t) (inl refl) h)
  number_shared (bio i) lio p q h = absurd (no_number (at (bio i)) (at lio) (inr refl) h)
  number_shared (bio i) (eio e) p q h = absurd (no_number (at (bio i)) (at (eio e)) (inr refl) h)
  number_shared (bio i) (msi k) p q h = absurd (no_number (at (bio i)) (at (msi k)) (inr refl) h)
  number_shared (bio i) (bio j) p q h =
      let x = (bio_at said i).base in
      let y = (bio_at said j).base in
      let r = runs (at (bio i)).numbers (at (bio j)).numbers h in
      ⊎_elim
      (λ o. (pin i (y - x), pin j 0, ((p, omega (arith, r.0, r.1)), refl), ((q, (bio-fits said ranged j q).3), refl), y, omega arith, omega arith))
      (λ o. (
        pin i 0,
        pin j (x - y),
        ((p, (bio-fits said ranged i p).3), refl),
        ((q, omega (arith, r.0, r.1, (bio-fits said ranged j q).3)), refl),
        x,
        omega arith,
        ⊎_elim (λ z. omega arith) (λ z. omega arith) o,
      ))
      (order x y)

  pub number_agrees : Agrees said 51 (ShareNumber said)
  number_agrees =
      record {
        shares = number_shared;
        clashes = λ s t ks kt n w.
            ap₂ (λ a b. clash 51 (at a) (at b)) (sym w.2.1) (sym w.3.1)
            ∙ number_clash w.0 w.1 w.2.0 w.3.0 (λ e. n (sym w.2.1 ∙ e ∙ w.3.1)) w.4 w.5 w.6;
      }

  -- ---- 52
  vector_clash : (x y : Source) → IsSource said x → IsSource said y → (e k : ℕ) → LandsOn said x e k → LandsOn said y e k
      → Clash said 52 (structure_of x) (structure_of y)
  unfolding clash if
  vector_clash (input i) y p q e k u v = absurd u
  vector_clash (pin i x) (input j) p q e k u v = absurd v
  vector_clash (slot i s f) (input j) p q e k u v = absurd v
  vector_clash (pin i x) (pin j y) p q e k u v =
      rw (
        eq-eqb (bio_at said i).node (bio_at said j).node (sym u.0 ∙ v.0),
        lt-ltb 0 (0 + (bio_at said j).pins) (omega (arith, q.1)),
        lt-ltb 0 (0 + (bio_at said i).pins) (omega (arith, p.1)),
      )
  vector_clash (pin i x) (slot j s f) p q e k u v =
      rw (
        or-true,
        lt-ltb 0 ((msi_at said j).start + (msi_at said j).count) (omega (arith, q.3)),
        lt-ltb (msi_at said j).start (0 + (bio_at said i).pins) (omega (arith, q.2, p.1, u.1, v.1)),
      )
  vector_clash (slot j s f) (pin i x) p q e k u v =
      rw (
        or-true,
        lt-ltb 0 ((msi_at said j).start + (msi_at said j).count) (omega (arith, p.3)),
        lt-ltb (msi_at said j).start (0 + (bio_at said i).pins) (omega (arith, p.2, q.1, u.1, v.1)),
      )
  vector_clash (slot i s f) (slot j t g) p q e k u v =
      rw (
        lt-ltb (msi_at said i).start ((msi_at said j).start + (msi_at said j).count) (omega (arith, p.2, q.3, u.1, v.1)),
        lt-ltb (msi_at said j).start ((msi_at said i).start + (msi_at said i).count) (omega (arith, q.2, p.3, u.1, v.1)),
      )

  -- a claim with no vectors clashes with none
  no_vector : (x y : Claim) → (x.vectors.first + x.vectors.count ≡ 0) ⊎ (y.vectors.first + y.vectors.count ≡ 0)
      → shares_vector x y ≡ true → ⊥
  no_vector x y z h = let r = vectors x y h in ⊎_elim (λ e. omega (arith, r.2)) (λ e. omega (arith, r.1)) z

  -- here 40 and 42 are needed: there is a hub for a slot, and one for a pin
  module _ (some : length (hubs said) ≡ 0 → ⊥) (hub : (j : ℕ) → j < length said.bios → OwnHub said j) where
    two_slots : (i k s : ℕ) → i < length said.msis → k < length said.msis
        → (msi_at said i).start ≤ s → s < (msi_at said i).start + (msi_at said i).count
        → (msi_at said k).start ≤ s → s < (msi_at said k).start + (msi_at said k).count → ShareVector said (msi i) (msi k)
    two_slots i k s p q a c d e =
        let z : 0 < length (hubs said) = omega (arith, some) in
        (slot i s 0, slot k s 0, ((p, z, a, c), refl), ((q, z, d, e), refl), 0, s, z, (refl, refl), (refl, refl))

    vector_shared : (s t : Structure) → IsIn said s → IsIn said t → Clash said 52 s t → ShareVector said s t
    unfolding clash if
    vector_shared lio t p q h = absurd (no_vector (at lio) (at t) (inl refl) h)
    vector_shared (eio e) t p q h = absurd (no_vector (at (eio e)) (at t) (inl refl) h)
    vector_shared (bio i) lio p q h = absurd (no_vector (at (bio i)) (at lio) (inr refl) h)
    vector_shared (bio i) (eio e) p q h = absurd (no_vector (at (bio i)) (at (eio e)) (inr refl) h)
    vector_shared (msi k) lio p q h = absurd (no_vector (at (msi k)) (at lio) (inr refl) h)
    vector_shared (msi k) (eio e) p q h = absurd (no_vector (at (msi k)) (at (eio e)) (inr refl) h)
    vector_shared (bio i) (msi k) p q h =
        let r = hub i p in
        let s = (msi_at said k).start in
        let l : s < (bio_at said i).pins = omega (arith, (vectors (at (bio i)) (at (msi k)) h).2) in (
          pin i s,
          slot k s r.0,
          ((p, l), refl),
          ((q, r.1, omega arith, omega (arith, (msi-fits said ranged k q).0)), refl),
          r.0,
          s,
          r.1,
          (r.2, refl),
          (refl, refl),
        )
    vector_shared (msi k) (bio i) p q h =
        let r = hub i q in
        let s = (msi_at said k).start in
        let l : s < (bio_at said i).pins = omega (arith, (vectors (at (msi k)) (at (bio i)) h).1) in (
          slot k s r.0,
          pin i s,
          ((p, r.1, omega arith, omega (arith, (msi-fits said ranged k p).0)), refl),
          ((q, l), refl),
          r.0,
          s,
          r.1,
          (refl, refl),
          (r.2, refl),
        )
    vector_shared (bio i) (bio j) p q h =
        let v = vectors (at (bio i)) (at (bio j)) h in
        let r = hub i p in
        let same : (bio_at said i).node ≡ (bio_at said j).node =
        ⊎_elim (⊎_elim (λ e. e) (λ e. absurd (omega (arith, (bio-fits said ranged i p).0)))) (λ e. absurd (omega (arith, (bio-fits said ranged j q).0))) v.0 in
        (pin i 0, pin j 0, ((p, (bio-fits said ranged i p).3), refl), ((q, (bio-fits said ranged j q).3), refl), r.0, 0, r.1, (r.2, refl), (r.2 ∙ same, refl))
    vector_shared (msi i) (msi k) p q h =
        let v = vectors (at (msi i)) (at (msi k)) h in
        ⊎_elim
        (λ o. two_slots i k (msi_at said k).start p q (omega arith) (omega (arith, v.2)) (omega arith) (omega (arith, (msi-fits said ranged k q).0)))
        (λ o. two_slots i k (msi_at said i).start p q (omega arith) (omega (arith, (msi-fits said ranged i p).0)) (⊎_elim (λ z. omega arith) (λ z. omega arith) o) (omega (arith, v.1)))
        (order (msi_at said i).start (msi_at said k).start)

    pub vector_agrees : Agrees said 52 (ShareVector said)
    vector_agrees =
        record {
          shares = vector_shared;
          clashes = λ s t ks kt n w.
              ap₂ (λ a b. clash 52 (at a) (at b)) (sym w.2.1) (sym w.3.1)
              ∙ vector_clash w.0 w.1 w.2.0 w.3.0 w.4 w.5 w.7 w.8;
        }

  -- ---- 53
  nonzero : (v : ℕ) → 2 ≤ v → not (eqb v 0) ≡ true
  nonzero v h = rw (ne_eqb v 0 (omega arith))

  -- a controller enters v: v is not 0, and one of its claim's two
  entered : (s : Structure) (v : ℕ) → IsIn said s → Enters said s v → (2 ≤ v) × ((v ≡ (at s).low) ⊎ (v ≡ (at s).high))
  entered (eio e) v k h = (let f = eio-fits said ranged e k in omega arith, inl (sym h))
  entered (bio j) v k h = absurd h
  entered (msi j) v k h = absurd h
  entered lio v k h =
      ⊎_elim
      (λ u. (omega (arith, (low_used said ranged u.0).0, u.1), inl (sym u.1)))
      (λ u. (omega (arith, (high_used said ranged u.0).0, u.1), inr (sym u.1)))
      h

  core_clash : (s t : Structure) → IsIn said s → IsIn said t → (v : ℕ) → Enters said s v → Enters said t v → Clash said 53 s t
  unfolding clash if
  core_clash s t ks kt v p q =
      let a = entered s v ks p in
      let b = entered t v kt q in
      core_of (at s) (at t) v (nonzero v a.0) a.1 b.1

  -- here it is needed that an unused half says 0
  module _ (low0 : said.lio.low.mask ≡ 0 → said.lio.low.cascade ≡ 0) (high0 : said.lio.high.mask ≡ 0 → said.lio.high.cascade ≡ 0) where
    enters : (s : Structure) (v : ℕ) → (v ≡ 0 → ⊥) → (v ≡ (at s).low) ⊎ (v ≡ (at s).high) → Enters said s v
    enters lio v n h =
        ⊎_elim (λ e. inl ((λ z. n (e ∙ low0 z)), sym e)) (λ e. inr ((λ z. n (e ∙ high0 z)), sym e)) h
    enters (eio i) v n h = ⊎_elim (λ e. sym e) (λ e. absurd (n e)) h
    enters (bio i) v n h = ⊎_elim n n h
    enters (msi i) v n h = ⊎_elim n n h

    core_shared : (s t : Structure) → Clash said 53 s t → ShareCore said s t
    unfolding clash if
    core_shared s t h =
        let r = of_core (at s) (at t) h in
        let n = neq r.0 0 r.1 in
        (r.0, enters s r.0 n r.2, enters t r.0 n r.3)

    pub core_agrees : Agrees said 53 (ShareCore said)
    core_agrees =
        record { shares = λ s t ks kt c. core_shared s t c; clashes = λ s t ks kt n w. core_clash s t ks kt w.0 w.1 w.2 }

-- ---- two different sources that share are of two different structures
module _ (said : Said) where
  source_in : (x : Source) → IsSource said x → IsIn said (structure_of x)
  source_in (input i) p = omega arith
  source_in (pin j v) p = p.0
  source_in (slot m s e) p = p.0

  -- sources of one structure with one number are one
  one_number : (x y : Source) (g : ℕ) → HasNumber said x g → HasNumber said y g → structure_of x ≡ structure_of y → x ≡ y
  one_number (input i) (input j) g u v e = ap input (omega arith)
  one_number (input i) (pin j w) g u v e = absurd (let z : ◌≡◌ {A = ℕ} 0 1 = cc in omega arith)
  one_number (pin j w) (input i) g u v e = absurd (let z : ◌≡◌ {A = ℕ} 0 1 = cc in omega arith)
  one_number (input i) (slot m s f) g u v e = absurd v
  one_number (pin j w) (slot m s f) g u v e = absurd v
  one_number (slot m s f) y g u v e = absurd u
  one_number (pin i a) (pin j b) g u v e =
      let z : i ≡ j = cc in
      let base : (bio_at said i).base ≡ (bio_at said j).base = ap (λ n. (bio_at said n).base) z in
      ap₂ pin z (omega arith)

  one_vector : (x y : Source) (e k : ℕ) → LandsOn said x e k → LandsOn said y e k → structure_of x ≡ structure_of y → x ≡ y
  one_vector (input i) y e k u v q = absurd u
  one_vector (pin i a) (input j) e k u v q = absurd v
  one_vector (slot m s f) (input j) e k u v q = absurd v
  one_vector (pin i a) (slot m s f) e k u v q = absurd (let z : ◌≡◌ {A = ℕ} 0 1 = cc in omega arith)
  one_vector (slot m s f) (pin i a) e k u v q = absurd (let z : ◌≡◌ {A = ℕ} 0 1 = cc in omega arith)
  one_vector (pin i a) (pin j b) e k u v q = let z : i ≡ j = cc in ap₂ pin z (u.1 ∙ sym v.1)
  one_vector (slot m s f) (slot n t g) e k u v q =
      let z : m ≡ n = cc in let a : s ≡ t = u.1 ∙ sym v.1 in let b : f ≡ g = u.0 ∙ sym v.0 in cc

  pub number_sharing : TwoNumber said → Sharing said (ShareNumber said)
  number_sharing (x, y, p, q, n, g, u, v) =
      record {
        s = structure_of x;
        t = structure_of y;
        s_in = source_in x p;
        t_in = source_in y q;
        differ = λ e. n (one_number x y g u v e);
        share = (x, y, (p, refl), (q, refl), g, u, v);
      }

  pub sharing_number : Sharing said (ShareNumber said) → TwoNumber said
  sharing_number w =
      let r = w.share in
      (r.0, r.1, r.2.0, r.3.0, (λ e. w.differ (sym r.2.1 ∙ ap structure_of e ∙ r.3.1)), r.4, r.5, r.6)

  pub vector_sharing : TwoVector said → Sharing said (ShareVector said)
  vector_sharing (x, y, p, q, n, e, k, l, u, v) =
      record {
        s = structure_of x;
        t = structure_of y;
        s_in = source_in x p;
        t_in = source_in y q;
        differ = λ z. n (one_vector x y e k u v z);
        share = (x, y, (p, refl), (q, refl), e, k, l, u, v);
      }

  pub sharing_vector : Sharing said (ShareVector said) → TwoVector said
  sharing_vector w =
      let r = w.share in
      (r.0, r.1, r.2.0, r.3.0, (λ e. w.differ (sym r.2.1 ∙ ap structure_of e ∙ r.3.1)), r.4, r.5, r.6, r.7, r.8)
