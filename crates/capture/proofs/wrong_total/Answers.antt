-- `capture::wrong_total` is refusal 5.
use mathlib.Core.Path.{sym, ◌∙◌}
use native.Mathlib.Omega.{arith}
use Rattle.words.specs.Bytes.{AllBytes}
use Rattle.capture.specs.Fields.{total_length, segment_count}
use Rattle.capture.proofs.Laws.{count_small, lengths_small, short_total, whole_total}
use Rattle.capture.proofs.wrong_total.Goals as goal

pub returns-then-length-end : goal.returns-then-length-end
returns-then-length-end c = sym (short_total _ (omega arith))

pub lengths_of-requires : goal.lengths_of-requires
lengths_of-requires c = omega arith

pub overflow_add-result : goal.overflow_add-result
overflow_add-result c =
    let capture = c.args.capture.now in
    let bytes : AllBytes capture = λ k. (c.type_inv.capture k).fits in
    omega (arith, c.lengths_of.ensures, lengths_small capture (segment_count capture) bytes, count_small capture bytes)

pub returns : goal.returns
unfolding total_length
returns c = (cc) ∙ sym (whole_total _ (omega arith))
