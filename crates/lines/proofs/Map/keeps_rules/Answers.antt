-- `Map::keeps_rules`: none of 71 to 78, 37, 38, 34 and 40 to 54 is broken.
use mathlib.Core.Path.{sym, ◌∙◌}
use mathlib.Core.Bool.{and-false}
use Rattle.words.specs.Refusals.{is_sound}
use Rattle.lines.specs.Rules.{keeps_rules, slot_places}
use Rattle.lines.proofs.Counts.{many_broken}
use Rattle.lines.proofs.Map.keeps_rules.Goals as goal

pub returns-then-too_many : goal.returns-then-too_many
unfolding keeps_rules
returns-then-too_many c =
    rw (many_broken c.args.self slot_places 0 0 (sym c.too_many.ensures ∙ c.if-too_many.true), and-false)

pub returns : goal.returns
unfolding keeps_rules is_sound
returns c =
    rw (
      c.is_ok.ensures.value,
      c.first_broken.ensures,
      c.slot_places.ensures,
      c.both_kinds.ensures,
      c.bit_in_both.ensures,
      c.said_lio.ensures,
      c.ranges_kept.ensures,
    )
