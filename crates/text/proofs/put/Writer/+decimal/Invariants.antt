-- `Writer::decimal` writes the digits of a number: it calls itself for the tenth of the number, which is what falls.
use Rattle.text.proofs.put.Writer.+decimal.Given as goal

abbrev pub decreases-decimal : goal.decreases-decimal
decreases-decimal l = l.number
