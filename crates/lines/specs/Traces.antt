-- What arrives at a core vector with a number: document 01, "Where a line arrives", read from the far end.
use Rattle.std.specs.Prelude.{ℕ, ◌+◌, ◌-◌, Bool, not, ◌&&◌, ◌||◌, List, eqb, leb}
use Rattle.words.specs.Choice.{if}
use Rattle.words.specs.Lists.{first}
use Rattle.kinds.specs.declared.Bio.{Bio}
use Rattle.kinds.specs.declared.Msi.{Msi}
use Rattle.kinds.specs.declared.Lpc.{Lpc}
use Rattle.parts.specs.Inputs.{leads, is_named, has_slot, has_pin, is_bridge}
use Rattle.lines.specs.Says.{Said}
use Rattle.lines.specs.Hubs.{Hub, hubs}
use Rattle.lines.specs.declared.Trace.{Trace}
use Rattle.lines.specs.declared.Trace.TheVariants.{Nothing, LioInput, BioInput, LpcCascade, MsiSlot}

-- "an MSI slot with its node"
unfoldable pub slot_told : List Msi → ℕ → ℕ → Trace
slot_told msis node slot = first (has_slot slot) (λ _. MsiSlot node slot) Nothing msis

-- input v of a BIO is the one that the LPC lines share
unfoldable pub is_lpc_pin : Lpc → Bio → ℕ → Bool
is_lpc_pin lpc bio v = lpc.present && eqb lpc.cascade v && is_bridge lpc bio

-- "the LPC cascade input (never told as a BIO input) with its global number", or a BIO input with its global number
unfoldable pub pin_told : Lpc → ℕ → Bio → Trace
pin_told lpc v bio = if (is_lpc_pin lpc bio v) (LpcCascade (bio.base + v)) (BioInput (bio.base + v))

-- what lands on a vector of the hub of a node: an input of its BIO, a slot, or nothing
unfoldable pub landed : Said → ℕ → ℕ → Trace
landed said node vector = first (has_pin node vector) (pin_told said.lpc vector) (slot_told said.msis node vector) said.bios

-- a hub leads a vector of its own to a core vector with a number
unfoldable pub comes_by : ℕ → ℕ → Hub → Bool
comes_by vector number hub = leb hub.above number && eqb (hub.core (number - hub.above)) vector

-- what enters a core vector by a hub with a number
unfoldable pub hub_traced : Said → ℕ → ℕ → Trace
hub_traced said vector number =
    first (comes_by vector number) (λ h. landed said h.node (number - h.above)) Nothing (hubs said)

-- the LIO leads an input to a core vector, and the HT does not name it: "A LIO input so named is no source any more"
unfoldable pub led_by_lio : Said → ℕ → ℕ → Bool
led_by_lio said vector i = (leads said.lio.low vector i || leads said.lio.high vector i) && not (is_named said.ht i)

-- what arrives at a core vector with a number
unfoldable pub traced : Said → ℕ → ℕ → Trace
traced said vector number =
    if (led_by_lio said vector number) (LioInput (16 + number))
    (hub_traced said vector number)
