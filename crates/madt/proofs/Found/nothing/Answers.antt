-- `Found::nothing` is nothing found.
use Rattle.words.specs.Lists.{those}
use Rattle.madt.specs.Contents.{enabled_cores, found_in}
use Rattle.madt.proofs.Found.nothing.Goals as goal

pub returns : goal.returns
unfolding found_in enabled_cores those
returns c = rw (c.no_places.ensures, c.no_map.ensures (λ id. 0))
