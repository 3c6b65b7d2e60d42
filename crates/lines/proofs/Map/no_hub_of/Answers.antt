-- `Map::no_hub_of` compares with the HT's node, or with those of the EIO.
use mathlib.Core.Bool.{and-true}
use Rattle.words.specs.Choice.{if}
use Rattle.kinds.proofs.Used.{ht_present}
use Rattle.lines.specs.Hubs.{nodes_of}
use Rattle.lines.proofs.Map.no_hub_of.Goals as goal

pub returns-then-self : goal.returns-then-self
unfolding nodes_of if
returns-then-self c = rw (ht_present _, c.if-self.true, and-true)

pub returns : goal.returns
unfolding nodes_of if
returns c = rw (ht_present _, c.if-self.false, ← c.eios.ensures) c.no_eio_of.ensures
