-- `fill` writes the processors where there is room for them.
use mathlib.Core.Path.{refl}
use native.Mathlib.Nat.{zero-mul}
use native.Mathlib.Omega.{arith}
use Rattle.words.proofs.Rooms.{write_start, write_end, write_room, write_next}
use Rattle.processors.proofs.Filling.{too_long, short_enough, none_left, one_left, too_short, enough_room}
use Rattle.processors.proofs.entries.fill.Goals as goal

pub returns-then-list-ENTRY : goal.returns-then-list-ENTRY
returns-then-list-ENTRY g c =
    let a = c.args in
    let long = too_long g.met.T.Item.laws a.table.now a.offsets.now (rw c.ENTRY.ensures at c.if-list-ENTRY.true) in
    let told = too_short _ a.list.now _ long in
    record { result_value = told.0; list_after = told.1 }

pub loop-k-init : goal.loop-k-init
loop-k-init g c =
    let a = c.args in
    rw zero-mul (write_start _ _ (short_enough g.met.T.Item.laws a.table.now a.offsets.now (rw c.ENTRY.ensures at c.if-list-ENTRY.false)))

pub put-requires : goal.put-requires
put-requires g c =
    let a = c.args in
    let next = one_left g.met.T.Item.laws a.table.now a.offsets.now c.loop-k.k c.loop-k-test.true refl in
    rw c.ENTRY-in-loop-k.ensures (write_room c.loop-k.invariant next)

pub loop-k-preserved : goal.loop-k-preserved
loop-k-preserved g c =
    let a = c.args in
    let next = one_left g.met.T.Item.laws a.table.now a.offsets.now c.loop-k.k c.loop-k-test.true c.processor_at.ensures in
    write_next c.loop-k.invariant next (rw c.ENTRY-in-loop-k.ensures at c.put.ensures) (omega arith)

pub returns : goal.returns
returns g c =
    let a = c.args in
    let laws = g.met.T.Item.laws in
    let room = short_enough laws a.table.now a.offsets.now (rw c.ENTRY.ensures at c.if-list-ENTRY.false) in
    let all = write_end c.loop-k.invariant (none_left laws a.table.now a.offsets.now _ c.loop-k-test.false) in
    let told = enough_room _ a.list.now _ room refl all in
    record { result_value = told.0; list_after = told.1 }
