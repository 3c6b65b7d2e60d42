-- The search among claims names the first structure that clashes with an earlier one, and the earliest that it clashes with; and
-- the first that stands alone.
use Prim.Native.Nat.{ℕ, ◌<◌, ◌≤◌}
use native.Mathlib.Omega.{arith}
use mathlib.Core.Path.{◌≡◌, refl, sym, ◌∙◌, ap}
use mathlib.Core.Logic.{◌⊎◌, inl, inr, ⊎_elim}
use mathlib.Core.List.Memᴰ
use mathlib.Core.List.{List, [], ◌∷◌, Memᴰ}
use mathlib.Core.Bool.{Bool, true, false, true≢false}
use borrow.Author.Tests.{ltb-true, ltb-false, lt-ltb}
use lib.Dec.{ltb}
use Rattle.words.specs.Choice.{if}
use Rattle.clashes.specs.Folds.{fold}
use Rattle.clashes.specs.Rules.{clash, lone}
use Rattle.clashes.specs.Search.{sooner, nearer, partner, better, first_clash, lonelier, first_lone}
use Rattle.clashes.specs.declared.Claim.{Claim}
use Rattle.clashes.proofs.Logic.{and_left, and_right}
use Rattle.clashes.proofs.Searched.{at-nowhere, two_none, same_two, hits, step, turn, spot_none}
use Rattle.std.specs.Prelude.{Option, Some, None}

-- "the first structure that clashes with an earlier": x at p clashes with y at q, which stands before it; no structure before
-- x clashes with an earlier one; and x clashes with none that stands before y
pub record FirstClash (rule : ℕ) (all : List Claim) (p q : ℕ) : Type 0 where
  pub x : Claim
  pub y : Claim
  pub x_listed : Memᴰ x all
  pub y_listed : Memᴰ y all
  pub x_at : x.place ≡ p
  pub y_at : y.place ≡ q
  pub earlier : q < p
  pub clashes : clash rule x y ≡ true
  pub first : (z w : Claim) → Memᴰ z all → Memᴰ w all → w.place < z.place → clash rule z w ≡ true → p ≤ z.place
  pub earliest : (w : Claim) → Memᴰ w all → w.place < p → clash rule x w ≡ true → q ≤ w.place

-- q is no later than the best so far
abbrev Under : ℕ → Option ℕ → Type 0
Under q None = 0 < 1
Under q (Some b) = q ≤ b

abbrev UnderPair : ℕ → Option (ℕ × ℕ) → Type 0
UnderPair p None = 0 < 1
UnderPair p (Some (o, w)) = p ≤ o

sooner-at : (best : Option ℕ) (p q : ℕ) → sooner best p ≡ Some q → (best ≡ Some q) ⊎ (p ≡ q)
unfolding sooner if
sooner-at None p q h = inr cc
sooner-at (Some b) p q h = go (ltb p b) h
  where
    go : (t : Bool) → if t (Some p) (Some b) ≡ Some q → (Some b ≡ Some q) ⊎ (p ≡ q)
    go true h = inr cc
    go false h = inl h

sooner_under : (best : Option ℕ) (p q : ℕ) → Under q (sooner best p) → Under q best × (q ≤ p)
unfolding sooner if
sooner_under None p q h = (omega arith, h)
sooner_under (Some b) p q h = go (ltb p b) refl h
  where
    go : (t : Bool) → ltb p b ≡ t → Under q (if t (Some p) (Some b)) → (q ≤ b) × (q ≤ p)
    go true e h = (omega (arith, ltb-true p b e), h)
    go false e h = (h, omega (arith, ltb-false p b e))

under_self : (best : Option ℕ) (q : ℕ) → best ≡ Some q → Under q best
under_self best q h = rw h (let z : q ≤ q = omega arith in z)

abbrev pub Least : (Claim → Bool) → List Claim → ℕ → Type 0
Least t l q = (y : Claim) × Memᴰ y l × (t y ≡ true) × (y.place ≡ q)

-- the least place of those that a test takes is taken, and no other that is taken is before it
fold_at : (t : Claim → Bool) (l : List Claim) (best : Option ℕ) (q : ℕ) → fold (step t) best l ≡ Some q
    → ((best ≡ Some q) ⊎ Least t l q) × Under q best × ((z : Claim) → Memᴰ z l → t z ≡ true → q ≤ z.place)
unfolding fold if
fold_at t [] best q h = (inl h, under_self best q h, λ z m. absurd (Memᴰ.not-nil m))
fold_at t (y ∷ ys) best q h = go (t y) refl (fold_at t ys (step t best y) q h)
  where
    go : (b : Bool) → t y ≡ b
        → ((if b (sooner best y.place) best ≡ Some q) ⊎ Least t ys q) × Under q (if b (sooner best y.place) best)
        × ((z : Claim) → Memᴰ z ys → t z ≡ true → q ≤ z.place)
        → ((best ≡ Some q) ⊎ Least t (y ∷ ys) q) × Under q best × ((z : Claim) → Memᴰ z (y ∷ ys) → t z ≡ true → q ≤ z.place)
    go true e r =
        let u = sooner_under best y.place q r.1 in (
          ⊎_elim
              (λ s. ⊎_elim inl (λ k. inr (y, Memᴰ.head refl, e, k)) (sooner-at best y.place q s))
              (λ w. inr (w.0, Memᴰ.tail w.1, w.2, w.3)) r.0,
          u.0,
          λ z m k.
              ⊎_elim (λ s. let v : z.place ≡ y.place = ap (λ (c : Claim). c.place) s in omega (arith, u.1)) (λ n. r.2 z n k) (Memᴰ.cases_cons m),
        )
    go false e r = (
      ⊎_elim inl (λ w. inr (w.0, Memᴰ.tail w.1, w.2, w.3)) r.0,
      r.1,
      λ z m k. ⊎_elim (λ s. absurd (true≢false (sym k ∙ ap t s ∙ e))) (λ n. r.2 z n k) (Memᴰ.cases_cons m),
    )

better-at : (best : Option (ℕ × ℕ)) (x p q : ℕ) (s : Option ℕ) → better best x s ≡ Some (p, q) → (best ≡ Some (p, q)) ⊎ ((x ≡ p) × (s ≡ Some q))
unfolding better if
better-at best x p q None h = inl h
better-at None x p q (Some o) h = let same = same_two h in inr (same.0, ap Some same.1)
better-at (Some (a, b)) x p q (Some o) h = go (ltb x a) h
  where
    go : (t : Bool) → ◌≡◌ {A = Option (ℕ × ℕ)} (if {A = Option (ℕ × ℕ)} t (Some (x, o)) (Some (a, b))) (Some (p, q))
        → ◌≡◌ {A = Option (ℕ × ℕ)} (Some (a, b)) (Some (p, q)) ⊎ ((x ≡ p) × (Some o ≡ Some q))
    go true h = let same = same_two h in inr (same.0, ap Some same.1)
    go false h = inl h

better_under : (best : Option (ℕ × ℕ)) (x p : ℕ) (s : Option ℕ) → UnderPair p (better best x s) → UnderPair p best × ((o : ℕ) → s ≡ Some o → p ≤ x)
unfolding better if
better_under best x p None h = (h, λ o e. absurd (at-nowhere o (sym e)))
better_under None x p (Some q) h = (omega arith, λ o e. h)
better_under (Some (a, b)) x p (Some q) h = go (ltb x a) refl h
  where
    go : (t : Bool) → ltb x a ≡ t → UnderPair p (if t (Some (x, q)) (Some (a, b))) → (p ≤ a) × ((o : ℕ) → Some q ≡ Some o → p ≤ x)
    go true e h = (omega (arith, ltb-true x a e), λ o k. h)
    go false e h = (h, λ o k. omega (arith, ltb-false x a e))

under_pair_self : (best : Option (ℕ × ℕ)) (p q : ℕ) → best ≡ Some (p, q) → UnderPair p best
under_pair_self best p q h = rw h (let z : p ≤ p = omega arith in z)

fold_two : (g : Claim → Option ℕ) (l : List Claim) (best : Option (ℕ × ℕ)) (p q : ℕ) → fold (turn g) best l ≡ Some (p, q)
    → ((best ≡ Some (p, q)) ⊎ ((x : Claim) × Memᴰ x l × (x.place ≡ p) × (g x ≡ Some q))) × UnderPair p best
    × ((z : Claim) → Memᴰ z l → (o : ℕ) → g z ≡ Some o → p ≤ z.place)
unfolding fold
fold_two g [] best p q h = (inl h, under_pair_self best p q h, λ z m. absurd (Memᴰ.not-nil m))
fold_two g (y ∷ ys) best p q h =
    let r = fold_two g ys (turn g best y) p q h in
    let u = better_under best y.place p (g y) r.1 in (
      ⊎_elim
          (λ s. ⊎_elim inl (λ k. inr (y, Memᴰ.head refl, k.0, k.1)) (better-at best y.place p q (g y) s))
          (λ w. inr (w.0, Memᴰ.tail w.1, w.2, w.3)) r.0,
      u.0,
      λ z m o k.
          ⊎_elim
          (λ s. let v : z.place ≡ y.place = ap (λ (c : Claim). c.place) s in omega (arith, u.1 o (sym (ap g s) ∙ k)))
          (λ n. r.2 z n o k) (Memᴰ.cases_cons m),
    )

hit_true : (rule : ℕ) (x y : Claim) → y.place < x.place → clash rule x y ≡ true → hits rule x y ≡ true
hit_true rule x y l c = rw (lt-ltb y.place x.place l, c)

-- a partner, or none, by the least place
partner-is : (rule : ℕ) (x : Claim) (l : List Claim) → partner rule x l ≡ fold (step (hits rule x)) None l
unfolding partner nearer
partner-is rule x l = refl

first-is : (rule : ℕ) (l : List Claim) → first_clash rule l ≡ fold (turn (λ x. partner rule x l)) None l
unfolding first_clash
first-is rule l = refl

-- what the search names is the first clash
pub search_names : (rule : ℕ) (l : List Claim) (p q : ℕ) → first_clash rule l ≡ Some (p, q) → FirstClash rule l p q
search_names rule l p q h =
    let r = fold_two (λ x. partner rule x l) l None p q (sym (first-is rule l) ∙ h) in
    ⊎_elim (λ e. absurd (two_none p q (sym e))) (λ w. named w.0 w.1 w.2 w.3 r.2) r.0
  where
    go : (z v : Claim) → Memᴰ v l → hits rule z v ≡ true → (s : Option ℕ) → partner rule z l ≡ s
        → ((o : ℕ) → partner rule z l ≡ Some o → p ≤ z.place) → p ≤ z.place
    go z v mv k (Some o) n g = g o n
    go z v mv k None n g =
        absurd (true≢false (sym k ∙ (spot_none (hits rule z) l None (sym (partner-is rule z l) ∙ n)).1 v mv))

    named : (x : Claim) → Memᴰ x l → x.place ≡ p → partner rule x l ≡ Some q
        → ((z : Claim) → Memᴰ z l → (o : ℕ) → partner rule z l ≡ Some o → p ≤ z.place) → FirstClash rule l p q
    named x mx e s f =
        let a = fold_at (hits rule x) l None q (sym (partner-is rule x l) ∙ s) in
        ⊎_elim
        (λ n. absurd (at-nowhere q (sym n)))
        (λ w.
        let c = w.2 in
        let lt : w.0.place < x.place = ltb-true w.0.place x.place (and_left (ltb w.0.place x.place) (clash rule x w.0) c) in
        record {
          x = x;
          y = w.0;
          x_listed = mx;
          y_listed = w.1;
          x_at = e;
          y_at = w.3;
          earlier = omega (arith, w.3);
          clashes = and_right (ltb w.0.place x.place) (clash rule x w.0) c;
          first = λ z v mz mv k d. go z v mv (hit_true rule z v k d) (partner rule z l) refl (f z mz);
          earliest = λ v mv k d. a.2 v mv (hit_true rule x v (omega arith) d);
        })
        a.0

-- 42: a claim that stands alone is named, and none before it does
pub search_lone : (nodes : List ℕ) (l : List Claim) (p : ℕ) → first_lone nodes l ≡ Some p
    → Least (lone nodes) l p × ((z : Claim) → Memᴰ z l → lone nodes z ≡ true → p ≤ z.place)
unfolding first_lone lonelier
search_lone nodes l p h =
    let r = fold_at (lone nodes) l None p h in
    (⊎_elim (λ e. absurd (at-nowhere p (sym e))) (λ w. w) r.0, r.2)
