-- `clashes::are_apart` asks all four rules.
use Rattle.clashes.specs.Apart.{apart}
use Rattle.clashes.proofs.are_apart.Goals as goal

pub returns : goal.returns
unfolding apart
returns c =
    rw (
      c.shares_core-core.ensures,
      c.shares_vector-vector.ensures,
      c.shares_number-number.ensures,
      c.repeats_node-node.ensures,
    )
