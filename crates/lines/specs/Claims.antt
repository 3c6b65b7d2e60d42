-- The claims of all structures of a map, each with its place.
use Rattle.std.specs.Prelude.{ℕ, List, [], ◌∷◌, ◌++◌}
use Rattle.clashes.specs.declared.Claim.{Claim}
use Rattle.parts.specs.Claims.{lio_claim, eio_claim, bio_claim, msi_claim}
use Rattle.lines.specs.Says.{Said}
use Rattle.lines.specs.declared.Places.{Places}

-- the claims of one kind, each structure with its place
unfoldable pub placed : {A : Type 0} → (A → ℕ → Claim) → List A → List ℕ → List Claim
placed claim [] places = []
placed claim (x ∷ xs) [] = []
placed claim (x ∷ xs) (p ∷ ps) = claim x p ∷ placed claim xs ps

-- the claims of all structures
unfoldable pub claims : Said → Places → List Claim
claims said places =
    (lio_claim said.lio places.lio ∷ [])
    ++ placed eio_claim said.eios places.eios
    ++ placed bio_claim said.bios places.bios
    ++ placed msi_claim said.msis places.msis
