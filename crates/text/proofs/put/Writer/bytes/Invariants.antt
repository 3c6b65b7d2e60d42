-- `Writer::bytes` writes one byte behind the other.
use Rattle.std.proofs.Common.{take}
use Rattle.text.specs.Rooms.{Wrote}
use Rattle.text.proofs.put.Writer.bytes.Given as goal

abbrev pub invariant-loop-byte : goal.invariant-loop-byte
invariant-loop-byte l = Wrote (take l.byte-index l.bytes) l.initial.self l.self
