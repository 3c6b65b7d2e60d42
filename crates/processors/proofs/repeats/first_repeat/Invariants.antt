-- `first_repeat` searches the processors for one that shares an ID with an earlier one, and for each that may do so those before it.
use lib.ListN.{take}
use Rattle.processors.specs.Repeats.{shares_with_one}
use Rattle.processors.specs.Again.{processors_at}
use Rattle.processors.proofs.Repeating.{Inner, Outer}
use Rattle.processors.proofs.repeats.first_repeat.Given as goal

abbrev pub invariant-loop-before : goal.invariant-loop-before
invariant-loop-before l =
    Inner l.table l.before-items l.processor (shares_with_one (take l.later (processors_at l.table l.offsets)) l.processor) l.repeat l.before-index

abbrev pub invariant-cores : goal.invariant-cores
invariant-cores l = Outer l.table l.offsets l.repeat l.seen l.later
