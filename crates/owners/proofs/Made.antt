-- What an array holds that calls of a closure made, where each call leaves the closure what it was.
use mathlib.Core.Path.{◌≡◌, ◌∙◌, sym}
use mathlib.Core.List.{List}
use Prim.Native.Nat.{ℕ, zero, suc, ◌+◌, ◌<◌}
use native.Mathlib.Nat.{zero-add}
use native.Mathlib.Omega.{arith}
use denote.Param.Members.{Mut, Called}
use lib.ListN.{get_or}
use Rattle.std.specs.Array.{IsFromFnResult, IsFromFnResultFrom}

-- a closure of which something holds gives `make i` at each index i, and it holds of the closure after the call too
module _ {F B : Type 0} (g : Mut F (ℕ × Unit {0}) B) (Of : F → Type 0) (make : ℕ → B)
    (each : (p q : F) (i : ℕ) (y : B) → Of p → Called g p (i, tt) y q → Of q × (y ≡ make i)) where
  made_from : (n i : ℕ) (f : F) (ys : List B) → Of f → IsFromFnResultFrom g f ys i n → (k j : ℕ) → k < n → i + k ≡ j → (d : B) → get_or ys j d ≡ make j
  made_from zero i f ys o r k j l e d = absurd (omega arith)
  made_from (suc n) i f ys o r zero j l e d =
      let same : i ≡ j = omega (arith, e) in
      rw (sym same) (r.2.1 d ∙ (each f r.0 i r.1 o r.3).1)
  made_from (suc n) i f ys o r (suc k) j l e d = made_from n (i + 1) r.0 ys (each f r.0 i r.1 o r.3).0 r.4 k j (omega arith) (omega (arith, e)) d

  pub made_each : (n : ℕ) (f : F) (ys : List B) → Of f → IsFromFnResult g f ys n → (k : ℕ) → k < n → (d : B) → get_or ys k d ≡ make k
  made_each n f ys o r k l d = made_from n 0 f ys o r.each k k l (zero-add k) d
