-- `capture::version_of` is the capture's version.
use Rattle.capture.specs.Fields.{version}
use borrow.Author.Rules.{rules}
use Rattle.capture.proofs.version_of.Goals as goal

pub returns : goal.returns
unfolding version
returns c = search rules
