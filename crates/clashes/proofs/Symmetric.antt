-- Whom a structure clashes with clashes with it.
use Prim.Native.Nat.{ℕ, ◌+◌}
use mathlib.Core.Path.{◌≡◌, refl, sym, ◌∙◌}
use mathlib.Core.Logic.{◌⊎◌, inl, inr, ⊎_elim}
use mathlib.Core.Bool.{Bool, true, false, not, ◌||◌}
use borrow.Author.Tests.{eqb-true, eq-eqb}
use lib.Dec.{eqb, ltb}
use Rattle.words.specs.Choice.{if}
use Rattle.clashes.specs.Rules.{no_node, meet, repeats_node, shares_number, shares_vector, enters_by, shares_core, clash}
use Rattle.clashes.specs.declared.Run.{Run}
use Rattle.clashes.specs.declared.Claim.{Claim}
use Rattle.clashes.proofs.Logic.{and_left, and_right, or_cases, both_true, left_true, right_true, eqb-sym}

meet_back : (a b : Run) → meet a b ≡ true → meet b a ≡ true
meet_back a b h =
    let p = ltb a.first (b.first + b.count) in
    let q = ltb b.first (a.first + a.count) in
    both_true q p (and_right p q h) (and_left p q h)

module _ (x y : Claim) where
  node_back : repeats_node x y ≡ true → repeats_node y x ≡ true
  node_back h =
      let a = and_left (not (eqb x.node no_node)) (eqb x.node y.node) h in
      let b : x.node ≡ y.node = eqb-true x.node y.node (and_right (not (eqb x.node no_node)) (eqb x.node y.node) h) in
      both_true (not (eqb y.node no_node)) (eqb y.node x.node) (rw b at a) (eq-eqb _ _ (sym b))

  vector_back : shares_vector x y ≡ true → shares_vector y x ≡ true
  vector_back h =
      let e = eqb x.hub y.hub in
      let p = eqb x.hub no_node in
      let q = eqb y.hub no_node in
      let m = meet x.vectors y.vectors in
      let hub : (eqb y.hub x.hub || q || p) ≡ true =
      ⊎_elim
      (⊎_elim
      (λ r. left_true (eqb y.hub x.hub || q) p (left_true (eqb y.hub x.hub) q (eqb-sym x.hub y.hub r)))
      (λ r. right_true (eqb y.hub x.hub || q) p r))
      (λ r. left_true (eqb y.hub x.hub || q) p (right_true (eqb y.hub x.hub) q r))
      (⊎_elim (λ r. inl (or_cases e p r)) inr (or_cases (e || p) q (and_left (e || p || q) m h))) in
      both_true (eqb y.hub x.hub || q || p) (meet y.vectors x.vectors) hub
      (meet_back x.vectors y.vectors (and_right (e || p || q) m h))

-- v, not 0, is a core vector of both
pub core_of : (x y : Claim) (v : ℕ) → not (eqb v 0) ≡ true → (v ≡ x.low) ⊎ (v ≡ x.high) → (v ≡ y.low) ⊎ (v ≡ y.high)
    → shares_core x y ≡ true
core_of x y v n p q =
    ⊎_elim
    (λ e. left_true (enters_by x.low y) (enters_by x.high y) (one x.low e))
    (λ e. right_true (enters_by x.low y) (enters_by x.high y) (one x.high e)) p
  where
    one : (u : ℕ) → v ≡ u → enters_by u y ≡ true
    one u e =
        both_true (not (eqb u 0)) (eqb u y.low || eqb u y.high) (rw e at n)
        (⊎_elim (λ r. left_true (eqb u y.low) (eqb u y.high) (eq-eqb _ _ (sym e ∙ r)))
        (λ r. right_true (eqb u y.low) (eqb u y.high) (eq-eqb _ _ (sym e ∙ r))) q)

-- such a v, from a clash
pub of_core : (x y : Claim) → shares_core x y ≡ true
    → (v : ℕ) × (not (eqb v 0) ≡ true) × ((v ≡ x.low) ⊎ (v ≡ x.high)) × ((v ≡ y.low) ⊎ (v ≡ y.high))
of_core x y h =
    ⊎_elim
    (λ r. (x.low, used x.low r, inl refl, one x.low r))
    (λ r. (x.high, used x.high r, inr refl, one x.high r))
    (or_cases (enters_by x.low y) (enters_by x.high y) h)
  where
    used : (u : ℕ) → enters_by u y ≡ true → not (eqb u 0) ≡ true
    used u r = and_left (not (eqb u 0)) (eqb u y.low || eqb u y.high) r

    one : (u : ℕ) → enters_by u y ≡ true → (u ≡ y.low) ⊎ (u ≡ y.high)
    one u r =
        ⊎_elim (λ e. inl (eqb-true _ _ e)) (λ e. inr (eqb-true _ _ e))
        (or_cases (eqb u y.low) (eqb u y.high) (and_right (not (eqb u 0)) (eqb u y.low || eqb u y.high) r))

core_back : (x y : Claim) → shares_core x y ≡ true → shares_core y x ≡ true
core_back x y h = let r = of_core x y h in core_of y x r.0 r.1 r.3 r.2

pub clash_back : (rule : ℕ) (x y : Claim) → clash rule x y ≡ true → clash rule y x ≡ true
unfolding clash if
clash_back rule x y h = go (eqb rule 41) (eqb rule 51) (eqb rule 52) h
  where
    go : (a b c : Bool) → if a (repeats_node x y) (if b (shares_number x y) (if c (shares_vector x y) (shares_core x y))) ≡ true
        → if a (repeats_node y x) (if b (shares_number y x) (if c (shares_vector y x) (shares_core y x))) ≡ true
    go true b c h = node_back x y h
    go false true c h = meet_back x.numbers y.numbers h
    go false false true h = vector_back x y h
    go false false false h = core_back x y h
