-- A shortcut of the program, and no line of document 01: where an address stands, and how many bytes there are from there on, as far
-- as segments touch. In a sound capture this room tells of every size whether a stretch from the address is present: proofs/Room,
-- so that no answer changes.
use Rattle.std.specs.Prelude.{ℕ, ◌-◌, List, ltb, length}
use Rattle.words.specs.Choice.{if}
use Rattle.words.specs.Lists.{first}
use Rattle.capture.specs.Fields.{descriptors_end, has_address, segments}
use Rattle.capture.specs.Presence.{run_end, place_in}
use Rattle.capture.specs.declared.Reach.{Reach}

-- an address of segment i
unfoldable pub reach_in : List ℕ → ℕ → ℕ → Reach
reach_in capture address i = record { place = place_in capture address i; room = run_end capture i - address }

-- no room
abbrev pub nowhere : Reach
nowhere = record { place = 0; room = 0 }

-- an address of the first segment that has it; no room where none has it, or where the descriptors run past the capture's end
unfoldable pub reached : List ℕ → ℕ → Reach
reached capture address =
    if (ltb (length capture) (descriptors_end capture)) nowhere
    (first (has_address capture address) (reach_in capture address) nowhere (segments capture))
