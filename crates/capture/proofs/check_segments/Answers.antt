-- `capture::check_segments` names the first broken segment.
use Rattle.std.proofs.Common.{◌<◌, ◌+◌, ◌*◌, rules, refl, ap, sym, ◌∙◌, arith}
use Rattle.words.specs.Bytes.{AllBytes}
use Rattle.words.specs.Refusals.{refused}
use Rattle.words.proofs.Searches.{search_start, search_hit, search_miss, search_over, next_number, no_number}
use Rattle.capture.specs.Fields.{segments}
use Rattle.capture.specs.Rules.{end_before}
use Rattle.capture.proofs.Laws.{end_next, broken_told, segments-first}
use Rattle.capture.proofs.Descriptors.{descriptor_small, descriptor_on, descriptors_count, segment_read}
use Rattle.capture.proofs.check_segments.Goals as goal
use Rattle.std.specs.Prelude.{Err}

pub loop-i-init : goal.loop-i-init
unfolding end_before segments
loop-i-init c = (refl, search_start _ _ refl)

pub overflow_add-place : goal.overflow_add-place
overflow_add-place c =
    let bytes : AllBytes c.args.capture.now = λ k. (c.type_inv.capture k).fits in
    let count = descriptors_count c.args.capture.now c.descriptors_of-descriptor-items.ensures in
    let small = descriptor_small c.args.capture.now c.loop-i.i bytes (omega (arith, count)) in
    let place = descriptor_on c.args.capture.now c.loop-i.i c.descriptors_start.ensures in
    let fits : c.descriptors_start.result + 12 * c.loop-i.i < 65536 = omega (arith, small, place) in
    search rules

pub overflow_cast-place : goal.overflow_cast-place
overflow_cast-place c =
    let bytes : AllBytes c.args.capture.now = λ k. (c.type_inv.capture k).fits in
    let count = descriptors_count c.args.capture.now c.descriptors_of-descriptor-items.ensures in
    let small = descriptor_small c.args.capture.now c.loop-i.i bytes (omega (arith, count)) in
    let place = descriptor_on c.args.capture.now c.loop-i.i c.descriptors_start.ensures in
    let fits : c.descriptors_start.result + 12 * c.loop-i.i < 65536 = omega (arith, small, place) in
    search rules

pub returns-then-segment_broken : goal.returns-then-segment_broken
returns-then-segment_broken c =
    let capture = c.args.capture.now in
    let s = c.loop-i.invariant in
    let here = segment_read capture c.descriptors_of-descriptor-items.ensures c.loop-i.i _ c.loop-i-test.true c.segment_of-segment.ensures in
    let asked = c.segment_broken.ensures ∙ broken_told capture c.loop-i.i here.0 here.1 s.0 in
    ap Err (c.refuse.ensures ∙ ap (refused 6) (descriptor_on capture c.loop-i.i c.descriptors_start.ensures))
    ∙ search_hit s.1 (next_number _ _ here.2) (sym asked ∙ c.if-segment_broken.true)
    ∙ sym (segments-first _)

pub loop-i-preserved : goal.loop-i-preserved
loop-i-preserved c =
    let capture = c.args.capture.now in
    let s = c.loop-i.invariant in
    let here = segment_read capture c.descriptors_of-descriptor-items.ensures c.loop-i.i _ c.loop-i-test.true c.segment_of-segment.ensures in
    let asked = c.segment_broken.ensures ∙ broken_told capture c.loop-i.i here.0 here.1 s.0 in
    (rw (here.0, here.1) (sym (end_next _ c.loop-i.i)), search_miss s.1 (next_number _ _ here.2) (sym asked ∙ c.if-segment_broken.false))

pub returns : goal.returns
returns c =
    let count = descriptors_count c.args.capture.now c.descriptors_of-descriptor-items.ensures in
    search_over c.loop-i.invariant.1 (no_number _ _ (omega (arith, count))) ∙ sym (segments-first _)
