-- `capture::lengths_of` adds the lengths up. Each is below 2^32, so that the sum fits.
use Rattle.std.proofs.Common.{◌<◌, ◌+◌, ◌^◌, rules, refl, ap, ◌∙◌, arith}
use Rattle.words.specs.Bytes.{AllBytes}
use Rattle.capture.specs.Fields.{lengths}
use Rattle.capture.proofs.Laws.{count_small, lengths_next, lengths_small}
use Rattle.capture.proofs.Descriptors.{descriptors_count, segment_read}
use Rattle.capture.proofs.lengths_of.Goals as goal

pub loop-descriptor-init : goal.loop-descriptor-init
unfolding lengths
loop-descriptor-init c = refl

pub overflow_add-sum : goal.overflow_add-sum
overflow_add-sum c =
    let capture = c.args.capture.now in
    let bytes : AllBytes capture = λ k. (c.type_inv.capture k).fits in
    let count = descriptors_count capture c.descriptors_of-descriptor-items.ensures in
    let fits : c.loop-descriptor.sum + c.segment_of.result.length < 2 ^ 64 = omega (arith, c.loop-descriptor.invariant, count, lengths_small capture c.loop-descriptor.descriptor-index bytes, count_small capture bytes) in
    search rules

pub loop-descriptor-preserved : goal.loop-descriptor-preserved
loop-descriptor-preserved c =
    let capture = c.args.capture.now in
    let i = c.loop-descriptor.descriptor-index in
    let here = segment_read capture c.descriptors_of-descriptor-items.ensures i _ c.loop-descriptor-test.true c.segment_of.ensures in
    omega (arith, c.loop-descriptor.invariant, here.1, lengths_next capture i)

pub returns : goal.returns
returns c =
    let count = descriptors_count c.args.capture.now c.descriptors_of-descriptor-items.ensures in
    c.loop-descriptor.invariant ∙ ap (lengths _) (omega (arith, count))
