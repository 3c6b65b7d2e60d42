-- `walk_madt` walks the MADT's own bytes.
use native.Mathlib.Omega.{arith}
use Rattle.madt.proofs.Walking.{part_small}
use Rattle.madt.proofs.walk.walk_madt.Goals as goal

pub walk_table-requires : goal.walk_table-requires
walk_table-requires c =
    let given = c.args in
    rw c.part-table.ensures (part_small given.capture.now given.madt.place given.madt.length (omega arith))

pub returns : goal.returns
returns c = rw (← c.part-table.ensures) c.walk_table.ensures
