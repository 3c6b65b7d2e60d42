-- `words::sum` is the sum modulo 256.
use Rattle.std.proofs.Common.{◌≡◌, fold, ◌∙◌, rules}
use Rattle.words.proofs.Sums.{add_byte, added_up}
use Rattle.words.proofs.sum.Goals as goal

pub returns : goal.returns
returns c =
    let folded : c.fold.result ≡ fold add_byte 0 c.args.bytes.now = search rules in
    folded ∙ added_up c.args.bytes.now
