-- `Map::route_each`: behind 61 and 62 there is room for the answers of a map that keeps the rules.
use Rattle.std.proofs.Common.{rules, ◌*◌, not, length}
use borrow.Author.Tests.{not-false, ltb-false}
use lib.Dec.{ltb}
use Rattle.words.proofs.Verdicts.{rule_kept}
use Rattle.lines.specs.Rules.{keeps_rules}
use Rattle.lines.proofs.Map.route_each.Goals as goal

pub put_all-requires : goal.put_all-requires
put_all-requires c =
    let a = c.args in (
      not-false _ (rule_kept (not (keeps_rules a.self)) 61 0 (search rules)),
      ltb-false _ _ (rule_kept (ltb (length a.answers.now) (3 * length a.numbers.now)) 62 0 (search rules)),
    )
