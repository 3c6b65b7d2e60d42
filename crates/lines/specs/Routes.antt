-- Document 01, "Where a line arrives", line by line, on what a map says.
use Rattle.std.specs.Prelude.{ℕ, ◌-◌, List, eqb, ltb}
use Rattle.words.specs.Choice.{if}
use Rattle.words.specs.Lists.{first}
use Rattle.kinds.specs.declared.Lio.{Lio}
use Rattle.kinds.specs.declared.Bio.{Bio}
use Rattle.parts.specs.Inputs.{wired, core_vector, is_named, owns}
use Rattle.lines.specs.Says.{Said}
use Rattle.lines.specs.Hubs.{Hub, hubs, enters}
use Rattle.lines.specs.declared.Owner.{Owner}
use Rattle.lines.specs.declared.Owner.TheVariants.{LpcInput, LioInput, BioInput, Nobody}
use Rattle.lines.specs.declared.Route.{Route}
use Rattle.lines.specs.declared.Route.TheVariants.{Arrives, Unwired, NoOwner}

-- "LIO input i arrives at the cascade of the half whose mask has bit i, with number i; with no such bit it is unwired."
unfoldable pub lio_arrival : Lio → ℕ → Route
lio_arrival lio i = if (wired lio i) (Arrives (core_vector lio i) i) Unwired

-- "BIO input v arrives through the EIO whose node is the BIO's hardware ID", or through the HT: through the hub of that node
unfoldable pub through : List Hub → ℕ → ℕ → Route
through hubs node v = first (λ h. eqb h.node node) (λ h. enters h v) NoOwner hubs

-- the input of the first BIO that owns a number
unfoldable pub bio_owner : List Bio → ℕ → Owner
bio_owner bios number = first (owns number) (λ b. BioInput b.node (number - b.base)) Nobody bios

-- "global numbers 0 to 15 are the LPC inputs if there is an LPC; 16 to 47 the LIO inputs 0 to 31; a BIO with base b owns b
-- to b + 63, its inputs 0 to 63" (as many as it has). "The rest have no owner." W-201 of document 02, of "a LIO input so named" by the HT:
-- "its global number has no owner"
unfoldable pub owner : Said → ℕ → Owner
owner said number =
    if (ltb number 16) (if said.lpc.present LpcInput Nobody)
    (if (ltb number 48) (if (is_named said.ht (number - 16)) Nobody (LioInput (number - 16)))
    (bio_owner said.bios number))

-- where a number with this owner arrives; "An LPC input arrives where the BIO input of the LPC's cascade does", and its BIO has the
-- hardware ID that the LPC has as its node
unfoldable pub arrival_of : Said → Owner → Route
arrival_of said LpcInput = through (hubs said) said.lpc.node said.lpc.cascade
arrival_of said (LioInput i) = lio_arrival said.lio i
arrival_of said (BioInput node v) = through (hubs said) node v
arrival_of said Nobody = NoOwner

-- where a global number arrives
unfoldable pub arrival : Said → ℕ → Route
arrival said number = arrival_of said (owner said number)
