-- `put_text` goes by the answer: a refusal, or the map with the written part of the processor list.
use Rattle.std.proofs.Common.{◌*◌, ◌≤◌, length, sym, arith, length-take}
use lib.Seq.{length-take-le}
use Rattle.tables.specs.declared.Strictness.TheVariants.{Strict}
use Rattle.reading.specs.Reading.{list_after}
use Rattle.text.specs.Rooms.{lent}
use Rattle.text.proofs.Answers.{listed, text-of-refusal, text-of-map}
use Rattle.text.proofs.Bounds.{refusal_fits}
use Rattle.text.proofs.put_text.Goals as goal

pub overflow_mul-count : goal.overflow_mul-count
overflow_mul-count c =
    let read = listed _ c.requires.reading_value c.in-Ok.is in
    let few : 2 * c.in-Ok.count ≤ 512 = read.few in
    omega arith

pub slice_bounds-put_map-end : goal.slice_bounds-put_map-end
slice_bounds-put_map-end c =
    let read = listed _ c.requires.reading_value c.in-Ok.is in
    let inside : 2 * c.in-Ok.count ≤ length (list_after Strict c.args.capture.now lent) = read.inside in
    sym (length-take-le _ _ (rw (← c.requires.list_value) at inside))

pub put_map-requires : goal.put_map-requires
put_map-requires c =
    let read = listed _ c.requires.reading_value c.in-Ok.is in
    let few : 2 * c.in-Ok.count ≤ 512 = read.few in
    omega (arith, length-take (2 * c.in-Ok.count) c.args.list.now)

pub returns-in-Err-clause-wrote : goal.returns-in-Err-clause-wrote
returns-in-Err-clause-wrote c = rw (text-of-refusal _ c.requires.reading_value c.in-Err.is) c.tell.ensures

pub returns-in-Err-clause-fits : goal.returns-in-Err-clause-fits
returns-in-Err-clause-fits c = rw (text-of-refusal _ c.requires.reading_value c.in-Err.is) (refusal_fits c.in-Err.refusal)

pub returns-in-Ok-clause-wrote : goal.returns-in-Ok-clause-wrote
returns-in-Ok-clause-wrote c =
    rw (← text-of-map _ c.requires.reading_value c.requires.list_value c.version_of.ensures c.in-Ok.is) c.put_map.ensures.wrote

pub returns-in-Ok-clause-fits : goal.returns-in-Ok-clause-fits
returns-in-Ok-clause-fits c =
    rw (← text-of-map _ c.requires.reading_value c.requires.list_value c.version_of.ensures c.in-Ok.is) c.put_map.ensures.fits
