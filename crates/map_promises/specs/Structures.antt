-- The structures of a map that claim something, and their places.
use Rattle.std.specs.Prelude.{ℕ, ◌<◌, ◌≤◌, ◌≡◌, length, get_or}
use Rattle.clashes.specs.declared.Claim.{Claim}
use Rattle.parts.specs.Claims.{lio_claim, eio_claim, bio_claim, msi_claim}
use Rattle.lines.specs.Says.{Said}
use Rattle.lines.specs.declared.Places.{Places}
use Rattle.map_promises.specs.Sources.{eio_at, bio_at, msi_at}

-- the LIO; the EIO, BIO or MSI at a place of its list. An HT claims nothing: it "enters the LIO and no core vector itself".
pub data Structure : Type 0 where
  lio : Structure
  eio : ℕ → Structure
  bio : ℕ → Structure
  msi : ℕ → Structure

-- it is one of the map's; the LIO always is, since one that is absent claims nothing
abbrev pub IsIn : Said → Structure → Type 0
IsIn said lio = 0 < 1
IsIn said (eio e) = e < length said.eios
IsIn said (bio j) = j < length said.bios
IsIn said (msi m) = m < length said.msis

-- where it stands in the capture
abbrev pub place_of : Places → Structure → ℕ
place_of places lio = places.lio
place_of places (eio e) = get_or places.eios e 0
place_of places (bio j) = get_or places.bios j 0
place_of places (msi m) = get_or places.msis m 0

-- what it claims
abbrev pub claim_of : Said → Places → Structure → Claim
claim_of said places lio = lio_claim said.lio places.lio
claim_of said places (eio e) = eio_claim (eio_at said e) (get_or places.eios e 0)
claim_of said places (bio j) = bio_claim (bio_at said j) (get_or places.bios j 0)
claim_of said places (msi m) = msi_claim (msi_at said m) (get_or places.msis m 0)

-- every structure has a place, and different structures have different places
pub record Placed (said : Said) (places : Places) : Type 0 where
  pub eios : length said.eios ≤ length places.eios
  pub bios : length said.bios ≤ length places.bios
  pub msis : length said.msis ≤ length places.msis
  pub apart : (s t : Structure) → IsIn said s → IsIn said t → place_of places s ≡ place_of places t → s ≡ t
