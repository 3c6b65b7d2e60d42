-- Which inputs there are: a LIO's 32, a bridge's pins.
use mathlib.Core.Path.{◌≡◌}
use mathlib.Core.Bool.{true, ◌||◌}
use mathlib.Core.Logic.{⊎_elim}
use Prim.Native.Nat.{ℕ, ◌<◌, ◌/◌, ◌%◌, ◌^◌}
use lib.Dec.{eqb, ltb}
use borrow.Author.Tests.{ltb-true}
use Rattle.kinds.specs.declared.Bio.{Bio}
use Rattle.kinds.specs.declared.Half.{Half}
use Rattle.clashes.proofs.Logic.{and_left, and_right, or_cases}
use Rattle.parts.specs.Inputs.{has_bit, leads, has_pin}

-- a mask has bits below 32 only
pub bit_small : (mask i : ℕ) → has_bit mask i ≡ true → i < 32
unfolding has_bit
bit_small mask i h = ltb-true i 32 (and_left (ltb i 32) (eqb (mask / 2 ^ i % 2) 1) h)

-- what a half leads to a core vector is one of its 32 inputs
pub lead_small : (half : Half) (vector i : ℕ) → leads half vector i ≡ true → i < 32
lead_small half vector i h = bit_small half.mask i (and_right (eqb half.cascade vector) (has_bit half.mask i) h)

pub leads_small : (low high : Half) (vector i : ℕ) → (leads low vector i || leads high vector i) ≡ true → i < 32
leads_small low high vector i h =
    ⊎_elim (lead_small low vector i) (lead_small high vector i) (or_cases (leads low vector i) (leads high vector i) h)

-- an input that a bridge has is one of its pins
pub pin_small : (node v : ℕ) (bio : Bio) → has_pin node v bio ≡ true → v < bio.pins
unfolding has_pin
pin_small node v bio h = ltb-true v bio.pins (and_right (eqb bio.node node) (ltb v bio.pins) h)
