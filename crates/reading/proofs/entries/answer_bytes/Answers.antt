-- `reading::entries::answer_bytes` fills the list of bytes where it has room, and refuses 60 otherwise.
use mathlib.Core.Path.{ap, sym, ◌∙◌}
use Rattle.processors.proofs.Filling.{no_room_told, whole_told}
use Rattle.processors.proofs.ReadAgain.{same_entries, same_count}
use Rattle.reading.proofs.Laws.{in_read, in_60}
use Rattle.reading.proofs.entries.answer_bytes.Goals as goal
use Rattle.std.specs.Prelude.{Ok, Err}

pub returns-in-Err : goal.returns-in-Err
returns-in-Err c =
    let same = same_entries c.args.cores.table.now c.args.cores.offsets.now c.args.cores.standing in
    let room = no_room_told _ _ _ (sym c.fill.ensures.result_value ∙ c.in-Err.is) in
    record { value = ap Err c.refuse.ensures ∙ sym (in_60 _ _ (rw same at room)); list_after = rw same at c.fill.ensures.list_after }

pub returns-in-Ok : goal.returns-in-Ok
returns-in-Ok c =
    let same = same_entries c.args.cores.table.now c.args.cores.offsets.now c.args.cores.standing in
    let many = same_count c.args.cores.table.now c.args.cores.offsets.now c.args.cores.standing in
    let room = whole_told _ _ _ (sym c.fill.ensures.result_value ∙ c.in-Ok.is) in
    record { value = ap Ok (room.1 ∙ many) ∙ sym (in_read _ _ (rw same at room.0)); list_after = rw same at c.fill.ensures.list_after }
