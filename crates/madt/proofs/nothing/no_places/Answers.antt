-- `no_places` is no places.
use mathlib.Core.Path.{refl}
use Rattle.words.specs.Lists.{those}
use Rattle.madt.specs.Contents.{of_type, standing, the_one, places_of}
use Rattle.madt.proofs.nothing.no_places.Goals as goal

pub returns : goal.returns
unfolding places_of the_one standing of_type those
returns c = refl
