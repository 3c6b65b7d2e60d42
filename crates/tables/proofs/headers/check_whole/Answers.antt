-- `tables::check_whole` keeps the length of a table that is not longer than its room, so 16 bits hold it.
use Rattle.std.proofs.Common.{rules, arith}
use lib.Dec.{ltb}
use borrow.Author.Tests.{ltb-false}
use Rattle.words.proofs.Verdicts.{rule_kept}
use Rattle.words.proofs.Tests.{neither_right}
use Rattle.tables.proofs.headers.check_whole.Goals as goal

pub overflow_cast-result : goal.overflow_cast-result
overflow_cast-result c =
    let length = c.length_of-length.result in
    omega (arith, ltb-false c.args.room length (neither_right (ltb length 36) _ (rule_kept _ 21 c.args.place (search rules))))
