-- `capture::descriptors_of` is the descriptors, each of 12 bytes.
use Rattle.std.proofs.Common.{◌≡◌, ◌*◌, ◌/◌, length, drop, ap, ◌∙◌, arith, length-take, length-drop}
use Rattle.std.specs.Simd.{first_chunks}
use Rattle.words.specs.Bytes.{part_at}
use Rattle.capture.specs.Fields.{segment_count, descriptor, descriptors_end}
use Rattle.capture.proofs.Descriptors.{in_pieces}
use Rattle.capture.proofs.descriptors_of.Goals as goal

pub returns : goal.returns
unfolding descriptors_end descriptor
returns c =
    let capture = c.args.capture.now in
    let first = descriptor capture 0 in
    let n = segment_count capture in
    let part = c.part.result.now in
    let is : part ≡ part_at capture first (12 * n) = rw (← c.descriptors_start.ensures, ← c.segment_count.ensures) c.part.ensures in
    let count : length part / 12 ≡ n = omega (arith, ap length is, length-take (12 * n) (drop first capture), length-drop first capture, c.requires) in
    c.as_chunks.ensures.front ∙ ap (λ k. first_chunks 12 k part) count ∙ in_pieces capture part is
