-- `Map::lonelier_of` counts a claim whose hub is not there.
use Rattle.words.specs.Choice.{if}
use Rattle.clashes.specs.Search.{lonelier}
use Rattle.lines.proofs.Map.lonelier_of.Goals as goal

pub returns-then-x-no_hub_of : goal.returns-then-x-no_hub_of
unfolding lonelier if
returns-then-x-no_hub_of c = rw (← c.no_hub_of.ensures, c.if-x-no_hub_of.true) c.sooner_of.ensures

pub returns : goal.returns
unfolding lonelier if
returns c = rw (← c.no_hub_of.ensures, c.if-x-no_hub_of.false)
