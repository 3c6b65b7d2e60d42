-- Going through the claims of a kind, structure and place side by side, and through lists one behind the other.
use Rattle.std.proofs.Common.{◌≡◌, ℕ, List, [], ◌∷◌, ◌++◌, refl}
use Rattle.std.specs.List.{fold as over, zip}
use Rattle.clashes.specs.Folds.{fold}
use Rattle.clashes.specs.declared.Claim.{Claim}
use Rattle.parts.specs.Claims.{lio_claim, eio_claim, bio_claim, msi_claim}
use Rattle.lines.specs.Says.{Said}
use Rattle.lines.specs.Claims.{placed, claims}
use Rattle.lines.specs.declared.Places.{Places}

pub fold_placed : {A B : Type 0} (claim : A → ℕ → Claim) (step : B → Claim → B) (sofar : B) (xs : List A) (ps : List ℕ)
    → over (λ b (p : A × ℕ). step b (claim p.0 p.1)) sofar (zip xs ps) ≡ fold step sofar (placed claim xs ps)
unfolding fold placed
fold_placed claim step sofar [] ps = refl
fold_placed claim step sofar (x ∷ xs) [] = refl
fold_placed claim step sofar (x ∷ xs) (p ∷ ps) = fold_placed claim step (step sofar (claim x p)) xs ps

pub fold-append : {A B : Type 0} (step : B → A → B) (sofar : B) (xs ys : List A) → fold step sofar (xs ++ ys) ≡ fold step (fold step sofar xs) ys
unfolding fold
fold-append step sofar [] ys = refl
fold-append step sofar (x ∷ xs) ys = fold-append step (step sofar x) xs ys

-- the claims of all kinds, kind by kind
pub fold_kinds : {B : Type 0} (said : Said) (places : Places) (step : B → Claim → B) {init : B} (l e b : B) {m : B}
    → l ≡ step init (lio_claim said.lio places.lio)
    → e ≡ fold step l (placed eio_claim said.eios places.eios)
    → b ≡ fold step e (placed bio_claim said.bios places.bios)
    → m ≡ fold step b (placed msi_claim said.msis places.msis)
    → m ≡ fold step init (claims said places)
unfolding claims fold
fold_kinds said places step {init} l e b p q r s =
    let es = placed eio_claim said.eios places.eios in
    let bs = placed bio_claim said.bios places.bios in
    let ms = placed msi_claim said.msis places.msis in
    let ls = lio_claim said.lio places.lio ∷ [] in
    rw (fold-append step init (ls ++ es ++ bs) ms, fold-append step init (ls ++ es) bs, fold-append step init ls es, ← p, ← q, ← r) s
