-- `walk_table` goes through the structures in turn: what the walk holds is what those before make.
use Rattle.std.proofs.Common.{rules, sym, ◌∙◌, arith}
use Rattle.madt.proofs.Pieces.{size_inside}
use Rattle.madt.proofs.Walking.{walk_starts, room_for, walk_ends, walk_mixes, walk_cuts, walk_refuses, walk_goes_on}
use Rattle.madt.proofs.walk.walk_table.Goals as goal

pub loop-at-init : goal.loop-at-init
loop-at-init c = walk_starts _ _ _ _ _ (c.new-walk.ensures _)

pub loop-at-smaller : goal.loop-at-smaller
loop-at-smaller c =
    let inside = size_inside _ _ (sym c.size_at.ensures.value ∙ c.in-Some.is) in
    let low = inside.0 in
    let high = inside.1 in
    omega arith

pub returns-in_default : goal.returns-in_default
returns-in_default c =
    let told = walk_cuts c.loop-at.invariant c.loop-at-test.true (sym c.size_at.ensures.value ∙ c.in_default.is) in
    record { value = rw c.refuse.ensures told.0; offsets_after = told.1 }

pub returns-in_err-check : goal.returns-in_err-check
returns-in_err-check c =
    let told = walk_refuses c.loop-at.invariant c.part-structure.result.now c.check.ensures (sym c.size_at.ensures.value ∙ c.in-Some.is, c.part-structure.ensures) {refusal = c.in_err-check.field-0.0} (search rules) in
    record { value = search rules; offsets_after = told.1 }

pub take-requires : goal.take-requires
take-requires c = room_for c.loop-at.invariant c.part-structure.result.now c.check.ensures (search rules)

pub loop-at-preserved : goal.loop-at-preserved
loop-at-preserved c =
    let w = c.loop-at.invariant in
    walk_goes_on w c.part-structure.result.now c.check.ensures (search rules) (sym c.size_at.ensures.value ∙ c.in-Some.is, c.part-structure.ensures)
    (c.take.ensures c.args.base c.args.sci c.args.offsets.now w.all w.has)

pub returns-in_err-walk : goal.returns-in_err-walk
returns-in_err-walk c =
    let told = walk_mixes c.loop-at.invariant c.loop-at-test.false {refusal = c.in_err-walk.field-0.0} (search rules) in
    record { value = search rules; offsets_after = told.1 }

pub returns : goal.returns
returns c =
    let told = walk_ends c.loop-at.invariant c.loop-at-test.false (search rules) in
    record { value = rw c.copied.ensures told.0; offsets_after = told.1 }
