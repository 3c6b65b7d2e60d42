-- `reading::answer_list` fills the list where it has room, and refuses 60 otherwise.
use mathlib.Core.Path.{ap, sym, ◌∙◌}
use Prim.Native.Nat.{ℕ}
use Rattle.processors.proofs.Filling.{no_room_told, whole_told}
use Rattle.processors.proofs.ReadAgain.{same_entries, same_count}
use Rattle.reading.specs.Reading.{without_map}
use Rattle.reading.proofs.Laws.{answered_read, answered_60}
use Rattle.reading.proofs.answer_list.Goals as goal
use Rattle.std.specs.Prelude.{Ok}

pub returns-in-Err : goal.returns-in-Err
returns-in-Err c =
    let same = same_entries c.args.cores.table.now c.args.cores.offsets.now c.args.cores.standing in
    let room = no_room_told _ _ _ (sym c.fill.ensures.result_value ∙ c.in-Err.is) in
    record { value = c.without_map.ensures ∙ ap without_map c.refuse.ensures ∙ sym (answered_60 _ _ _ (rw same at room)); list_after = rw same at c.fill.ensures.list_after }

pub returns-in-Ok : goal.returns-in-Ok
returns-in-Ok c =
    let a = c.args in
    let same = same_entries a.cores.table.now a.cores.offsets.now c.args.cores.standing in
    let many = same_count a.cores.table.now a.cores.offsets.now c.args.cores.standing in
    let room = whole_told _ _ _ (sym c.fill.ensures.result_value ∙ c.in-Ok.is) in
    record { value = ap (λ (n : ℕ). record { answer = Ok n; map = a.map }) (room.1 ∙ many) ∙ sym (answered_read _ _ _ (rw same at room.0)); list_after = rw same at c.fill.ensures.list_after }
