-- `Map::owner` goes by the global number: what is no input of the LIO and above them is a BIO's.
use borrow.Author.Tests.{le-ltb}
use Rattle.words.specs.Choice.{if}
use Rattle.lines.specs.Routes.{owner}
use Rattle.lines.proofs.Map.owner.Goals as goal

pub returns : goal.returns
unfolding owner if
returns c =
    let n = c.args.number in
    rw (le-ltb n 16 c.if-number-lt-LIO_FIRST.false, le-ltb n 48 c.if-number-lt-LIO_END.false, ← c.bios.ensures)
    c.bio_owner.ensures
