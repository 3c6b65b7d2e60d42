-- `no_map` is the map without structures.
use Rattle.std.proofs.Common.{rules}
use Rattle.words.specs.Lists.{those}
use Rattle.kinds.proofs.Used.{no_bytes}
use Rattle.madt.specs.Contents.{of_type, made, the_one, map_of}
use Rattle.madt.proofs.nothing.no_map.Goals as goal

pub returns : goal.returns
unfolding map_of the_one made of_type those
returns c pins =
    let none = no_bytes c.default-2.ensures.1 in
    search rules
