-- `Writer::each` writes the lines of one structure behind those of the other.
use Rattle.std.proofs.Common.{take}
use Rattle.text.specs.Lines.{each}
use Rattle.text.specs.Rooms.{Wrote}
use Rattle.text.proofs.put.Writer.each.Given as goal

abbrev pub invariant-loop-one : goal.invariant-loop-one
invariant-loop-one g l = Wrote (each g.T.Told.text (take l.one-index l.all)) l.initial.self l.self
