-- `Map::put_all` writes the answer to each number, one behind the other.
use mathlib.Core.Path.{refl}
use native.Mathlib.Omega.{arith}
use Rattle.words.proofs.Rooms.{write_start, write_end, write_room, write_next}
use Rattle.lines.proofs.AtOnce.{three_each, one_left, none_left}
use Rattle.lines.proofs.Map.put_all.Goals as goal

pub loop-k-init : goal.loop-k-init
loop-k-init c = write_start _ _ (omega (arith, c.requires.1, three_each c.args.self.now c.requires.0 c.args.numbers.now))

pub put-requires : goal.put-requires
put-requires c =
    let map = c.args.self.now in
    write_room c.loop-k.invariant (one_left map c.requires.0 c.args.numbers.now c.loop-k.k c.loop-k-test.true refl)

pub loop-k-preserved : goal.loop-k-preserved
loop-k-preserved c =
    let map = c.args.self.now in
    let next = one_left map c.requires.0 c.args.numbers.now c.loop-k.k c.loop-k-test.true c.arrival.ensures in
    write_next c.loop-k.invariant next c.put.ensures (omega arith)

pub returns : goal.returns
returns c = write_end c.loop-k.invariant (none_left c.args.self.now c.args.numbers.now _ c.loop-k-test.false)
