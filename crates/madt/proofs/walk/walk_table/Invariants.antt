-- `walk_table` goes through the structures in turn: what the walk holds is what those before make.
use Prim.Native.Nat.{◌-◌}
use lib.ListN.{length}
use Rattle.capture.specs.Pairs.{pins_of}
use Rattle.madt.proofs.Walking.{Walking}
use Rattle.madt.proofs.walk.walk_table.Given as goal

abbrev pub invariant-loop-at : goal.invariant-loop-at
invariant-loop-at l = Walking l.table l.base l.sci (pins_of l.pairs) l.initial.offsets l.offsets l.walk l.at

abbrev pub decreases-loop-at : goal.decreases-loop-at
decreases-loop-at l = length l.table - l.at
