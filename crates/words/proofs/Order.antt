-- Of two numbers one is lower, or they are equal.
use Rattle.std.proofs.Common.{◌≡◌, ℕ, zero, suc, ◌<◌, ◌⊎◌, refl, inl, inr, ⊎_elim, arith}

pub order : (i j : ℕ) → (i < j) ⊎ ((i ≡ j) ⊎ (j < i))
order zero zero = inr (inl refl)
order zero (suc j) = inl (omega arith)
order (suc i) zero = inr (inr (omega arith))
order (suc i) (suc j) =
    ⊎_elim (λ (l : i < j). inl (omega arith))
    (λ r. inr (⊎_elim (λ (e : i ≡ j). inl (omega arith)) (λ (l : j < i). inr (omega arith)) r))
    (order i j)
