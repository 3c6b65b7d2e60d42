-- `Walk::new` holds what no structures make.
use mathlib.Core.Path.{refl}
use Rattle.words.specs.Lists.{those}
use Rattle.words.specs.Refusals.{first_refusal}
use Rattle.madt.specs.Contents.{of_type, made, standing, the_one, map_of, places_of, enabled_cores, found_in}
use Rattle.madt.specs.Walk.{kind_rules}
use Rattle.madt.specs.Taken.{held}
use Rattle.madt.proofs.walk.Walk.new.Goals as goal

pub returns : goal.returns
unfolding held found_in map_of places_of the_one made standing of_type those enabled_cores kind_rules first_refusal
returns c pins = rw c.nothing.ensures refl
