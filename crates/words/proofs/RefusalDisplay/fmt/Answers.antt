-- The text of a refusal: a second place of 0 is not printed.
use Rattle.std.proofs.Common.{rules}
use mathlib.Core.List.{append_assoc, append-nil}
use Rattle.std.proofs.Output.{has_written_of_eq, has_written_append}
use Rattle.words.specs.Choice.{if}
use Rattle.words.specs.Refusals.{told}
use Rattle.words.proofs.RefusalDisplay.fmt.Goals as goal

pub returns-in_ok-write-2-clause-writes : goal.returns-in_ok-write-2-clause-writes
unfolding told if
returns-in_ok-write-2-clause-writes g c =
    λ plain ok.
    has_written_of_eq _ _ _ _ _ (search (rules, append_assoc))
    (has_written_append _ _ _ _ _ _ (c.write.ensures.writes plain (search rules)) (c.write-then-self-ne0.ensures.writes (search rules) (search rules)))

pub returns-else-self-ne0-clause-writes : goal.returns-else-self-ne0-clause-writes
unfolding told if
returns-else-self-ne0-clause-writes g c = search (rules, append_assoc, append-nil)
