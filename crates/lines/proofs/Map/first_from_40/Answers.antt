-- `Map::first_from_40` asks for a quiet map first, and searches where it is none.
use mathlib.Core.Path.{sym, ◌∙◌}
use Rattle.lines.specs.Says.{says}
use Rattle.lines.proofs.NoClash.{quiet-first}
use Rattle.lines.proofs.Map.first_from_40.Goals as goal

pub returns-then-is_quiet : goal.returns-then-is_quiet
returns-then-is_quiet c =
    let a = c.args in
    c.first_of_quiet.ensures ∙ sym (quiet-first (says a.self.now) a.places (sym c.is_quiet.ensures ∙ c.if-is_quiet.true) a.madt a.fadt)
