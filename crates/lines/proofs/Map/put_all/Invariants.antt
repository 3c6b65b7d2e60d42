-- `Map::put_all` writes the answer to each number, one behind the other.
use Prim.Native.Nat.{◌*◌}
use lib.ListN.{drop}
use Rattle.words.proofs.Rooms.{Writing}
use Rattle.lines.specs.AtOnce.{triples_of}
use Rattle.lines.proofs.Map.put_all.Given as goal

abbrev pub invariant-loop-k : goal.invariant-loop-k
invariant-loop-k l = Writing (triples_of l.self l.numbers) l.initial.answers l.answers (3 * l.k) (triples_of l.self (drop l.k l.numbers))
