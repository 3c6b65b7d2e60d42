-- `fill` writes the entry of each processor, one behind the other.
use Prim.Native.Nat.{◌*◌}
use lib.ListN.{drop}
use Rattle.words.proofs.Rooms.{Writing}
use Rattle.processors.specs.Listing.{numbers_of}
use Rattle.processors.specs.Again.{processors_at}
use Rattle.processors.proofs.entries.fill.Given as goal

abbrev pub invariant-loop-k : goal.invariant-loop-k
invariant-loop-k g l =
    let spelled = g.T.Item.spelled in
    let all = processors_at l.table l.offsets in
    Writing (spelled (numbers_of all)) l.initial.list l.list (l.k * g.T.Item.ENTRY) (spelled (numbers_of (drop l.k all)))
