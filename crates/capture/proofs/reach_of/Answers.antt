-- `capture::reach_of` names the first segment that has the address. The place of each segment is the sum of what was passed.
use Rattle.std.proofs.Common.{◌≡◌, ℕ, ◌+◌, ◌^◌, ◌<◌, Bool, ◌&&◌, leb, ltb, List, length, drop, ◌-◌, length-take, length-drop, rules, refl, ap, sym, ◌∙◌, arith}
use Rattle.std.proofs.lemmas.List.{take_rest}
use Rattle.words.specs.Bytes.{AllBytes}
use Rattle.words.proofs.Searches.{search_start, search_hit, search_miss, search_over, next_number, no_number}
use Rattle.capture.specs.Fields.{segment_count, descriptors_end, segment_address, segment_length, has_address, lengths, segment_place, segments}
use Rattle.capture.proofs.Laws.{count_small, between, reach_told, reached_short, reached_whole, place_next}
use Rattle.capture.proofs.Descriptors.{descriptor_small, descriptors_count, segment_read}
use Rattle.capture.proofs.reach_of.Goals as goal

-- whether the segment has the address
asked : (capture : List ℕ) (address i : ℕ) {start size : ℕ} {answer : Bool} → start ≡ segment_address capture i → size ≡ segment_length capture i
    → answer ≡ (leb start address && ltb address (start + size)) → answer ≡ has_address capture address i
unfolding has_address
asked capture address i begins long h = rw (← begins, ← long) h

pub returns-then-capture-end : goal.returns-then-capture-end
returns-then-capture-end c = sym (reached_short _ _ (omega (arith, c.descriptors_end-end.ensures)))

pub loop-i-init : goal.loop-i-init
unfolding segments segment_place lengths descriptors_end
loop-i-init c =
    let ends = c.descriptors_end-end.ensures in
    let capture = c.args.capture.now in
    let bytes : AllBytes capture = λ k. (c.type_inv.capture k).fits in
    (omega (arith, ends), omega (arith, ends, descriptor_small capture (segment_count capture) bytes (omega arith)), search_start _ _ refl)

pub overflow_add-result : goal.overflow_add-result
overflow_add-result c =
    let capture = c.args.capture.now in
    let bytes : AllBytes capture = λ k. (c.type_inv.capture k).fits in
    let count = descriptors_count capture c.descriptors_of-descriptors.ensures in
    let few : c.loop-i.i < 256 = omega (arith, count, count_small capture bytes) in
    let segment = c.segment_of-segment.result in
    let has = between c.args.address segment.address (segment.address + segment.length) (sym c.has_address.ensures ∙ c.if-has_address.true) in
    let fits : c.loop-i.place + (c.args.address - segment.address) < 2 ^ 64 = omega (arith, few, has, c.loop-i.invariant.1) in
    search rules

pub room_of_run-requires : goal.room_of_run-requires
room_of_run-requires c =
    let capture = c.args.capture.now in
    let bytes : AllBytes capture = λ k. (c.type_inv.capture k).fits in
    let count = descriptors_count capture c.descriptors_of-descriptors.ensures in
    let all = c.descriptors_of-descriptors.result.now in
    let segment = c.segment_of-segment.result in
    let has = between c.args.address segment.address (segment.address + segment.length) (sym c.has_address.ensures ∙ c.if-has_address.true) in
    (omega (arith, count, count_small capture bytes, length-take (length all - (c.loop-i.i + 1)) (drop (c.loop-i.i + 1) all), length-drop (c.loop-i.i + 1) all), omega (arith, has))

pub returns-then-has_address : goal.returns-then-has_address
returns-then-has_address c =
    let capture = c.args.capture.now in
    let i = c.loop-i.i in
    let s = c.loop-i.invariant in
    let all = c.descriptors_of-descriptors.result.now in
    let segment = c.segment_of-segment.result in
    let here = segment_read capture c.descriptors_of-descriptors.ensures i _ c.loop-i-test.true c.segment_of-segment.ensures in
    let has = between c.args.address segment.address (segment.address + segment.length) (sym c.has_address.ensures ∙ c.if-has_address.true) in
    let later = take_rest all (i + 1) ∙ ap (drop (i + 1)) c.descriptors_of-descriptors.ensures in
    let room = c.room_of_run.ensures capture i here.2 later (omega (arith, has, here.0, here.1)) in
    reach_told _ _ i s.0 here.0 room
    ∙ search_hit s.2 (next_number _ _ here.2) (sym (asked capture c.args.address i here.0 here.1 c.has_address.ensures) ∙ c.if-has_address.true)
    ∙ sym (reached_whole _ _ (omega (arith, c.descriptors_end-end.ensures)))

pub overflow_add-place : goal.overflow_add-place
overflow_add-place c =
    let capture = c.args.capture.now in
    let bytes : AllBytes capture = λ k. (c.type_inv.capture k).fits in
    let count = descriptors_count capture c.descriptors_of-descriptors.ensures in
    let few : c.loop-i.i < 256 = omega (arith, count, count_small capture bytes) in
    let fits : c.loop-i.place + c.segment_of-segment.result.length < 2 ^ 64 = omega (arith, few, c.loop-i.invariant.1) in
    search rules

pub loop-i-preserved : goal.loop-i-preserved
loop-i-preserved c =
    let capture = c.args.capture.now in
    let i = c.loop-i.i in
    let s = c.loop-i.invariant in
    let here = segment_read capture c.descriptors_of-descriptors.ensures i _ c.loop-i-test.true c.segment_of-segment.ensures in (
      omega (arith, s.0, here.1, place_next capture i),
      omega (arith, s.1),
      search_miss s.2 (next_number _ _ here.2) (sym (asked capture c.args.address i here.0 here.1 c.has_address.ensures) ∙ c.if-has_address.false),
    )

pub returns : goal.returns
returns c =
    let count = descriptors_count c.args.capture.now c.descriptors_of-descriptors.ensures in
    search_over c.loop-i.invariant.2 (no_number _ _ (omega (arith, count))) ∙ sym (reached_whole _ _ (omega (arith, c.descriptors_end-end.ensures)))
