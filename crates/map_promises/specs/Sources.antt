-- The sources of a map: document 01, "Where a line arrives": "Sources: wired LIO inputs, BIO inputs, and MSI slots once per
-- EIO. Each belongs to its own structure: the same input or slot of two structures is two sources." W-201 of document 02: with an HT, slots
-- are on the HT, and "A LIO input so named is no source any more". Nothing here knows of tracing.
use Rattle.std.specs.Prelude.{ℕ, ◌+◌, ◌<◌, ◌≤◌, Bool, true, false, not, ◌&&◌, ◌≡◌, eqb, length, get_or, take}
use Rattle.words.specs.Choice.{if}
use Rattle.words.specs.Lists.{every}
use Rattle.kinds.specs.Used.{no_eio, no_bio, no_msi}
use Rattle.kinds.specs.declared.Eio.{Eio}
use Rattle.kinds.specs.declared.Bio.{Bio}
use Rattle.kinds.specs.declared.Msi.{Msi}
use Rattle.parts.specs.Inputs.{wired, is_named}
use Rattle.lines.specs.Says.{Said}
use Rattle.lines.specs.Hubs.{Hub, hubs, enters}
use Rattle.lines.specs.Routes.{lio_arrival, through}
use Rattle.lines.specs.declared.Route.{Route}
use Rattle.lines.specs.declared.Trace.{Trace}
use Rattle.lines.specs.declared.Trace.TheVariants.{LioInput, BioInput, LpcCascade, MsiSlot}

-- input i of the LIO; pin v of the bridge at place j; slot s of the MSI at place m on the hub at place e. Places are those in
-- the map's lists, so that equal inputs of two structures differ.
pub data Source : Type 0 where
  input : ℕ → Source
  pin : ℕ → ℕ → Source
  slot : ℕ → ℕ → ℕ → Source

-- the structure at a place of its list; past the end of the list an unused place stands
abbrev pub eio_at : Said → ℕ → Eio
eio_at said e = get_or said.eios e no_eio

abbrev pub no_hub : Hub
no_hub = record { node = 0; core = λ v. 0; above = 0 }

abbrev pub hub_at : Said → ℕ → Hub
hub_at said e = get_or (hubs said) e no_hub

abbrev pub bio_at : Said → ℕ → Bio
bio_at said j = get_or said.bios j no_bio

abbrev pub msi_at : Said → ℕ → Msi
msi_at said m = get_or said.msis m no_msi

-- a source of the map: wired and not named by the HT, or an input that a bridge has, or a slot from start to start + count - 1
abbrev pub IsSource : Said → Source → Type 0
IsSource said (input i) = (wired said.lio i ≡ true) × (is_named said.ht i ≡ false)
IsSource said (pin j v) = (j < length said.bios) × (v < (bio_at said j).pins)
IsSource said (slot m s e) =
    (m < length said.msis) × (e < length (hubs said)) × ((msi_at said m).start ≤ s) × (s < (msi_at said m).start + (msi_at said m).count)

-- where it arrives
abbrev pub arrives : Said → Source → Route
arrives said (input i) = lio_arrival said.lio i
arrives said (pin j v) = through (hubs said) (bio_at said j).node v
arrives said (slot m s e) = enters (hub_at said e) s

-- "the LPC's bridge is the BIO whose hardware ID equals those bits of the LPC's base, the earliest of equals" (W-208 of document 02),
-- and the LPC's node is those bits: the bridge at place j has that hardware ID, and no earlier one has it
abbrev pub is_lpc_bridge : Said → ℕ → Bool
is_lpc_bridge said j =
    eqb (bio_at said j).node said.lpc.node && every (λ b. not (eqb b.node said.lpc.node)) (take j said.bios)

-- "An LPC input arrives where the BIO input of the LPC's cascade does": there is an LPC, and pin v of the bridge at place j is
-- that input
abbrev pub is_shared : Said → ℕ → ℕ → Bool
is_shared said j v = said.lpc.present && eqb said.lpc.cascade v && is_lpc_bridge said j

-- the bridge at place j is the LPC's, and has that input
abbrev pub IsBehind : Said → ℕ → Type 0
IsBehind said j = IsSource said (pin j said.lpc.cascade) × (is_lpc_bridge said j ≡ true)

-- what it is called: "a LIO input or a BIO input with its global number, the LPC cascade input (never told as a BIO input) with
-- its global number, an MSI slot with its node"
abbrev pub name : Said → Source → Trace
name said (input i) = LioInput (16 + i)
name said (pin j v) = if (is_shared said j v) (LpcCascade ((bio_at said j).base + v)) (BioInput ((bio_at said j).base + v))
name said (slot m s e) = MsiSlot (hub_at said e).node s

-- its global number is g; a slot has none
abbrev pub HasNumber : Said → Source → ℕ → Type 0
HasNumber said (input i) g = 16 + i ≡ g
HasNumber said (pin j v) g = (bio_at said j).base + v ≡ g
HasNumber said (slot m s e) g = ⊥

-- it takes vector k of the hub at place e; a LIO input takes none
abbrev pub LandsOn : Said → Source → ℕ → ℕ → Type 0
LandsOn said (input i) e k = ⊥
LandsOn said (pin j v) e k = ((hub_at said e).node ≡ (bio_at said j).node) × (v ≡ k)
LandsOn said (slot m s f) e k = (f ≡ e) × (s ≡ k)
