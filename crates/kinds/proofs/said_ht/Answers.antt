-- `said_ht` is the HT without what is unused in it.
use Rattle.std.proofs.Common.{rules}
use Rattle.words.specs.Choice.{if}
use Rattle.kinds.specs.Used.{said_ht}
use Rattle.kinds.proofs.Used.{no_bytes}
use Rattle.kinds.proofs.said_ht.Goals as goal

pub returns-then-ht : goal.returns-then-ht
unfolding said_ht if
returns-then-ht c = search rules

pub returns-else-ht : goal.returns-else-ht
unfolding said_ht if
returns-else-ht c =
    let none = no_bytes c.default.ensures.1 in
    search rules
