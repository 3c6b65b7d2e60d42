-- `capture::find_rsdp` gives the refusals 1 to 7 first.
use Rattle.std.proofs.Common.{rules}
use Rattle.words.specs.Refusals.{unless}
use Rattle.words.proofs.Verdicts.{first-joined}
use Rattle.capture.specs.Rules.{verdict}
use Rattle.capture.specs.Presence.{rsdp}
use Rattle.capture.proofs.find_rsdp.Goals as goal

pub returns-in_err-of : goal.returns-in_err-of
unfolding unless rsdp verdict
returns-in_err-of c = rw (first-joined _ _) search rules

pub returns : goal.returns
unfolding unless rsdp verdict
returns c = rw (first-joined _ _) search rules
