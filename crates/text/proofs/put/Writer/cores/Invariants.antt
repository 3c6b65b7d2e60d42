-- `Writer::cores` writes a line for each two numbers of the list: with what is left of it written too, all of it is.
use Rattle.std.proofs.Common.{◌≡◌}
use Rattle.text.specs.declared.put.Writer.{Writer}
use Rattle.text.specs.Lines.{core_lines}
use Rattle.text.specs.Rooms.{Wrote}
use Rattle.text.proofs.put.Writer.cores.Given as goal

abbrev pub invariant-loop-core : goal.invariant-loop-core
invariant-loop-core l =
    (l.core-iterator.size ≡ 2)
    × ((end : Writer) → Wrote (core_lines l.core-iterator.rest.now) l.self end → Wrote (core_lines l.fn.list) l.fn.self end)
