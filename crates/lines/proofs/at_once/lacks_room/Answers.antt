-- `at_once::lacks_room` asks without a product.
use Rattle.lines.proofs.AtOnce.{same_test}
use Rattle.lines.proofs.at_once.lacks_room.Goals as goal

pub returns : goal.returns
returns c = same_test c.args.length c.args.count
