-- `Writer::version` writes the line of the version.
use Rattle.text.specs.Numerals.{letters}
use Rattle.text.specs.Lines.{version_line}
use Rattle.text.proofs.put.Writer.version.Goals as goal

pub returns : goal.returns
unfolding version_line letters
returns c = c.line.ensures
