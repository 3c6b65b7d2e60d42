-- `write_text` measures the text, and writes it where the room has place for it.
use Rattle.std.proofs.Common.{refl, ◌∙◌, zero-add, rules}
use Rattle.text.proofs.Answers.{no_room, has_room_lem}
use Rattle.text.proofs.write_text.Goals as goal

pub returns-then-room-measure-clause-value : goal.returns-then-room-measure-clause-value
returns-then-room-measure-clause-value c =
    let put = c.put_text.ensures in
    (no_room _ _ (put.wrote.end put.fits ∙ zero-add _) c.if-room-measure.true).0

pub returns-then-room-measure-clause-room_after : goal.returns-then-room-measure-clause-room_after
returns-then-room-measure-clause-room_after c =
    let put = c.put_text.ensures in
    (no_room _ _ (put.wrote.end put.fits ∙ zero-add _) c.if-room-measure.true).1

pub returns-clause-value : goal.returns-clause-value
returns-clause-value c =
    let put = c.put_text.ensures in
    (has_room_lem _ _ (put.wrote.end put.fits ∙ zero-add _) c.if-room-measure.false refl).0

pub returns-clause-room_after : goal.returns-clause-room_after
returns-clause-room_after c =
    let put = c.put_text.ensures in
    let again = c.put_text-2.ensures in
    let same = again.wrote.same in
    let left = again.wrote.room again.fits in
    (has_room_lem _ _ (put.wrote.end put.fits ∙ zero-add _) c.if-room-measure.false (search rules)).1
