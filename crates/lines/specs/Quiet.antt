-- A shortcut of the program, and no line of document 01: a map in which no two structures clash, by kinds, a test without places. That
-- the search of 41, 42 and 51 to 53 then finds nothing is proved in proofs/NoClash, so that no answer changes; a LIO or an EIO and a
-- BIO or an MSI have nothing that both could claim.
use Rattle.std.specs.Prelude.{ℕ, List, [], ◌∷◌, Bool, true, not, ◌&&◌}
use Rattle.words.specs.Lists.{every}
use Rattle.kinds.specs.declared.Eio.{Eio}
use Rattle.kinds.specs.declared.Bio.{Bio}
use Rattle.kinds.specs.declared.Msi.{Msi}
use Rattle.clashes.specs.Rules.{is_missing}
use Rattle.clashes.specs.Apart.{apart}
use Rattle.clashes.specs.declared.Claim.{Claim}
use Rattle.parts.specs.Claims.{lio_claim, eio_claim, bio_claim, msi_claim}
use Rattle.lines.specs.Says.{Said}
use Rattle.lines.specs.Hubs.{nodes}

-- a claim is apart from that of each structure of a kind, wherever it stands
unfoldable pub far_from : {A : Type 0} → (A → ℕ → Claim) → Claim → List A → Bool
far_from claim x ys = every (λ y. apart x (claim y 0)) ys

-- each structure of a kind passes a test of its own, and is apart from those that come after it
unfoldable pub still_each : {A : Type 0} → (A → ℕ → Claim) → (A → Bool) → List A → Bool
still_each claim alone [] = true
still_each claim alone (x ∷ xs) = (alone x && far_from claim (claim x 0) xs) && still_each claim alone xs

-- the EIO among themselves, and with the LIO
unfoldable pub eios_quiet : Claim → List Eio → Bool
eios_quiet lio eios = still_each eio_claim (λ e. apart lio (eio_claim e 0)) eios

-- the BIO among themselves, with the nodes of the hubs that they stand on, and with the MSI
unfoldable pub bios_quiet : List ℕ → List Msi → List Bio → Bool
bios_quiet nodes msis bios =
    still_each bio_claim (λ b. not (is_missing b.node nodes) && far_from msi_claim (bio_claim b 0) msis) bios

-- the MSI among themselves
unfoldable pub msis_quiet : List Msi → Bool
msis_quiet msis = still_each msi_claim (λ m. true) msis

-- no two structures clash, and no BIO stands alone
unfoldable pub quiet : Said → Bool
quiet said =
    eios_quiet (lio_claim said.lio 0) said.eios
    && bios_quiet (nodes said) said.msis said.bios
    && msis_quiet said.msis
