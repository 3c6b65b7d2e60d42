-- `bridge_of` is the bridge of a structure, with the inputs that pairs tell.
use Rattle.madt.specs.Contents.{bridge_of}
use Rattle.madt.proofs.walk.bridge_of.Goals as goal

pub returns : goal.returns
unfolding bridge_of
returns c = rw (c.with_pins.ensures, c.pins_of.ensures, c.from_bytes-bio.ensures)
