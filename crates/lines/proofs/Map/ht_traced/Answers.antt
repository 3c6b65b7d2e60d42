-- `Map::ht_traced` asks where the vector that the number is 256 above leads to.
use mathlib.Core.Path.{sym, ◌∙◌}
use Rattle.kinds.proofs.Used.{ht_present}
use Rattle.lines.specs.Says.{says}
use Rattle.lines.proofs.Landing.{ht_below, ht-leads, ht-not}
use Rattle.lines.proofs.Map.ht_traced.Goals as goal

pub returns-then-number-lt-HT_ABOVE : goal.returns-then-number-lt-HT_ABOVE
returns-then-number-lt-HT_ABOVE c =
    let map = c.args.self.now in
    sym (ht_below (says map) _ _ (ht_present map.ht ∙ c.requires) c.if-number-lt-HT_ABOVE.true)

pub returns-then-core_vector-vector : goal.returns-then-core_vector-vector
returns-then-core_vector-vector c =
    let map = c.args.self.now in
    let leads =
    rw (
      c.core_vector.ensures,
      c.said_lio.ensures,
      c.input_for-input.ensures,
      c.said_ht.ensures,
    )
    at c.if-core_vector-vector.true in
    c.landed.ensures ∙ sym (ht-leads (says map) _ _ (ht_present map.ht ∙ c.requires) c.if-number-lt-HT_ABOVE.false leads)

pub returns : goal.returns
returns c =
    let map = c.args.self.now in
    let not =
    rw (
      c.core_vector.ensures,
      c.said_lio.ensures,
      c.input_for-input.ensures,
      c.said_ht.ensures,
    )
    at c.if-core_vector-vector.false in
    sym (ht-not (says map) _ _ (ht_present map.ht ∙ c.requires) c.if-number-lt-HT_ABOVE.false not)
