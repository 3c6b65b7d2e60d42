-- What a search among claims that finds nothing says, and what says that it finds nothing.
use Prim.Native.Nat.{ℕ}
use native.Mathlib.Omega.{arith}
use mathlib.Core.Path.{◌≡◌, refl, ap, ◌∙◌}
use mathlib.Core.Logic.{⊎_elim}
use mathlib.Core.List.Memᴰ
use mathlib.Core.List.{List, [], ◌∷◌, Memᴰ}
use mathlib.Core.Bool.{Bool, true, false, ◌&&◌}
use lib.Dec.{ltb}
use Rattle.words.specs.Choice.{if}
use Rattle.clashes.specs.Folds.{fold}
use Rattle.clashes.specs.Rules.{clash, lone}
use Rattle.clashes.specs.Search.{sooner, nearer, partner, better, first_clash, lonelier, first_lone}
use Rattle.clashes.specs.declared.Claim.{Claim}
use Rattle.std.specs.Prelude.{Option, Some, None}

pub at-nowhere : (p : ℕ) → Some p ≡ None → ⊥
at-nowhere p h = let z : ◌≡◌ {A = ℕ} 0 1 = cc in omega arith

pub two_none : (p q : ℕ) → ◌≡◌ {A = Option (ℕ × ℕ)} (Some (p, q)) None → ⊥
two_none p q h = let z : ◌≡◌ {A = ℕ} 0 1 = cc in omega arith

-- and two that are the same have the same later and the same earlier one
pub same_two : {p q x y : ℕ} → ◌≡◌ {A = Option (ℕ × ℕ)} (Some (p, q)) (Some (x, y)) → (p ≡ x) × (q ≡ y)
same_two {p} {q} {x} {y} h =
    let same : ◌≡◌ {A = ℕ × ℕ} (p, q) (x, y) = cc in
    (ap (λ (t : ℕ × ℕ). t.0) same, ap (λ (t : ℕ × ℕ). t.1) same)

sooner_some : (best : Option ℕ) (p : ℕ) → sooner best p ≡ None → ⊥
unfolding sooner if
sooner_some None p h = at-nowhere p h
sooner_some (Some q) p h = go (ltb p q) h
  where
    go : (b : Bool) → if b (Some p) (Some q) ≡ None → ⊥
    go true h = at-nowhere p h
    go false h = at-nowhere q h

better_none : (best : Option (ℕ × ℕ)) (p : ℕ) (s : Option ℕ) → better best p s ≡ None → (best ≡ None) × (s ≡ None)
unfolding better if
better_none best p None h = (h, refl)
better_none None p (Some q) h = absurd (two_none p q h)
better_none (Some (o, w)) p (Some q) h = absurd (go (ltb p o) h)
  where
    go : (b : Bool) → ◌≡◌ {A = Option (ℕ × ℕ)} (if b (Some (p, q)) (Some (o, w))) None → ⊥
    go true h = two_none p q h
    go false h = two_none o w h

-- the least place of those that a test takes
abbrev pub step : (Claim → Bool) → Option ℕ → Claim → Option ℕ
step t best y = if (t y) (sooner best y.place) best

module _ (t : Claim → Bool) where
  step_no : (best : Option ℕ) (y : Claim) (b : Bool) → t y ≡ b → step t best y ≡ None → (best ≡ None) × (t y ≡ false)
  unfolding if
  step_no best y true e h = absurd (sooner_some best y.place (rw e at h))
  step_no best y false e h = (rw e at h, e)

  pub spot_none : (l : List Claim) (best : Option ℕ) → fold (step t) best l ≡ None → (best ≡ None) × ((y : Claim) → Memᴰ y l → t y ≡ false)
  unfolding fold
  spot_none [] best h = (h, λ y m. absurd (Memᴰ.not-nil m))
  spot_none (y ∷ ys) best h =
      let r = spot_none ys (step t best y) h in
      let s = step_no best y (t y) refl r.0 in
      (s.0, λ z m. ⊎_elim (λ e. ap t e ∙ s.1) (r.1 z) (Memᴰ.cases_cons m))

  pub none_spot : (l : List Claim) → ((y : Claim) → Memᴰ y l → t y ≡ false) → fold (step t) None l ≡ None
  unfolding fold if
  none_spot [] h = refl
  none_spot (y ∷ ys) h = rw (h y (Memᴰ.head refl)) (none_spot ys (λ z m. h z (Memᴰ.tail m)))

abbrev pub turn : (Claim → Option ℕ) → Option (ℕ × ℕ) → Claim → Option (ℕ × ℕ)
turn g best x = better best x.place (g x)

module _ (g : Claim → Option ℕ) where
  pair_none : (l : List Claim) (best : Option (ℕ × ℕ)) → fold (turn g) best l ≡ None → (best ≡ None) × ((x : Claim) → Memᴰ x l → g x ≡ None)
  unfolding fold
  pair_none [] best h = (h, λ y m. absurd (Memᴰ.not-nil m))
  pair_none (x ∷ xs) best h =
      let r = pair_none xs (turn g best x) h in
      let s = better_none best x.place (g x) r.0 in
      (s.0, λ z m. ⊎_elim (λ e. ap g e ∙ s.1) (r.1 z) (Memᴰ.cases_cons m))

  none_pair : (l : List Claim) → ((x : Claim) → Memᴰ x l → g x ≡ None) → fold (turn g) None l ≡ None
  unfolding fold better
  none_pair [] h = refl
  none_pair (x ∷ xs) h = rw (h x (Memᴰ.head refl)) (none_pair xs (λ z m. h z (Memᴰ.tail m)))

-- x clashes with y, which stands before it
abbrev pub hits : ℕ → Claim → Claim → Bool
hits rule x y = ltb y.place x.place && clash rule x y

pub clear : (rule : ℕ) (l : List Claim) → first_clash rule l ≡ None → (x y : Claim) → Memᴰ x l → Memᴰ y l → hits rule x y ≡ false
unfolding first_clash partner nearer
clear rule l h x y mx my = (spot_none (hits rule x) l None ((pair_none (λ x. partner rule x l) l None h).1 x mx)).1 y my

pub quiet : (rule : ℕ) (l : List Claim) → ((x y : Claim) → Memᴰ x l → Memᴰ y l → hits rule x y ≡ false) → first_clash rule l ≡ None
unfolding first_clash partner nearer
quiet rule l h = none_pair (λ x. partner rule x l) l (λ x mx. none_spot (hits rule x) l (λ y my. h x y mx my))

-- 42
pub none_lone : (nodes : List ℕ) (l : List Claim) → first_lone nodes l ≡ None → (x : Claim) → Memᴰ x l → lone nodes x ≡ false
unfolding first_lone lonelier
none_lone nodes l h = (spot_none (lone nodes) l None h).1

pub lone_none : (nodes : List ℕ) (l : List Claim) → ((x : Claim) → Memᴰ x l → lone nodes x ≡ false) → first_lone nodes l ≡ None
unfolding first_lone lonelier
lone_none nodes l h = none_spot (lone nodes) l h
