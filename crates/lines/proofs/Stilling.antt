-- A structure, tested alone and with those after it, and the test of all from it on: what `quiet::still_each` knows at each turn.
use Rattle.std.proofs.Common.{◌≡◌, ℕ, Bool, true, false, ◌&&◌, List, [], ◌∷◌}
use Rattle.clashes.specs.declared.Claim.{Claim}
use Rattle.lines.specs.Quiet.{far_from, still_each}

module _ {A : Type 0} (claim : A → ℕ → Claim) (alone : A → Bool) {rest : List A} where
  module _ {x : A} {later : List A} {a far : Bool} (first : rest ≡ x ∷ later) (p : a ≡ alone x) (q : far ≡ far_from claim (claim x 0) later) where
    -- it passes: what counts is those after it
    pub still_on : (a && far) ≡ true → still_each claim alone later ≡ still_each claim alone rest
    unfolding still_each
    still_on h = rw (first, ← p, ← q, h)

    -- it does not
    pub still_off : (a && far) ≡ false → false ≡ still_each claim alone rest
    unfolding still_each
    still_off h = rw (first, ← p, ← q, h)

  -- none is left
  pub still_over : rest ≡ [] → true ≡ still_each claim alone rest
  unfolding still_each
  still_over e = rw e
