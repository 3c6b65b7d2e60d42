-- `owners::fill`: 61, or the map's table.
use mathlib.Core.Path.{sym, ◌∙◌}
use Rattle.owners.proofs.Calls.{filled, not-filled}
use Rattle.owners.proofs.fill.Goals as goal

pub returns-then-keeps_rules : goal.returns-then-keeps_rules
returns-then-keeps_rules c = filled _ (sym c.keeps_rules.ensures ∙ c.if-keeps_rules.true) c.table_of.ensures

pub returns : goal.returns
returns c = not-filled _ (sym c.keeps_rules.ensures ∙ c.if-keeps_rules.false) c.empty_table.ensures c.refuse.ensures
