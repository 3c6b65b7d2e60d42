-- `Writer::decimal` writes the digits of a number: those of its tenth, and then the last one.
use Rattle.std.proofs.Common.{◌<◌, ◌^◌, arith}
use Rattle.text.proofs.Numerals.{decimal_one, decimal_more}
use Rattle.text.proofs.Wrote.{then}
use Rattle.text.proofs.put.Writer.+decimal.Goals as goal

pub returns-then-number-lt10 : goal.returns-then-number-lt10
returns-then-number-lt10 t c = rw (decimal_one c.args.number c.if-number-lt10.true) c.byte.ensures

pub returns : goal.returns
returns t c =
    let small : c.args.number < 10 ^ 20 = omega arith in
    rw (decimal_more c.args.number c.if-number-lt10.false small) (then c.decimal.ensures c.byte-2.ensures)
