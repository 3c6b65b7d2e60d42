-- `capture::rsdp_address` is the address of the RSDP.
use Rattle.capture.specs.Fields.{rsdp_address}
use borrow.Author.Rules.{rules}
use Rattle.capture.proofs.rsdp_address.Goals as goal

pub returns : goal.returns
unfolding rsdp_address
returns c = search rules
