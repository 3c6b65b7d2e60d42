-- Arrays that `std::array::from_fn` makes: what holds of each call of a closure that changes nothing holds of each element.
use Rattle.std.proofs.Common.{◌≡◌, ℕ, zero, suc, ◌+◌, ◌<◌, ◌≤◌, List, slice_index_or, ⊎_elim, eq-or-lt_of_le, arith}
use Rattle.std.specs.Array.{IsFromFnResult, IsFromFnResultFrom}
use denote.Param.Members.{Mut, Called}

module _ {F B : Type 0} (calls : Mut F (ℕ × Unit {0}) B) (P : ℕ → B → Type 0) (f : F)
    (call : (i : ℕ) (y : B) (q : F) → Called calls f (i, tt) y q → P i y × (q ≡ f)) where
  from : (ys : List B) (i n k : ℕ) (d : B) → IsFromFnResultFrom calls f ys i n → i ≤ k → k < i + n → P k (slice_index_or ys k d)
  from ys i zero k d made low high = absurd (omega arith)
  from ys i (suc n) k d made low high =
      let y = made.1 in
      let kept = call i y made.0 made.3 in
      ⊎_elim (λ (e : i ≡ k). rw (← e, made.2.1 d) kept.0)
      (λ (l : i < k). from ys (i + 1) n k d (rw kept.1 at made.4) (omega arith) (omega arith))
      (eq-or-lt_of_le low)

  pub each_made : (ys : List B) (n k : ℕ) (d : B) → IsFromFnResult calls f ys n → k < n → P k (slice_index_or ys k d)
  each_made ys n k d made h = from ys 0 n k d made.each (omega arith) (omega arith)
