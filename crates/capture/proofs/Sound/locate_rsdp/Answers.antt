-- `capture::Sound::locate_rsdp` is refusal 10. A sound capture is small, so that 16 bits hold the place.
use Rattle.std.proofs.Common.{◌≡◌, ℕ, List, ap, sym, ◌∙◌, arith}
use Rattle.capture.specs.declared.Reach.{Reach}
use Rattle.capture.specs.Fields.{rsdp_address}
use Rattle.capture.specs.Reach.{reached}
use Rattle.capture.proofs.Room.{rsdp_present, rsdp_absent, rsdp_small}
use Rattle.capture.proofs.Sound.locate_rsdp.Goals as goal
use Rattle.std.specs.Prelude.{Err}

-- what was found at the RSDP's address
there : (capture : List ℕ) (address : ℕ) {reach : Reach} → address ≡ rsdp_address capture → reach ≡ reached capture address → reach ≡ reached capture (rsdp_address capture)
there capture address a r = r ∙ ap (reached capture) a

pub returns-then-reach-lt-RSDP_SIZE : goal.returns-then-reach-lt-RSDP_SIZE
returns-then-reach-lt-RSDP_SIZE c = ap Err c.refuse.ensures ∙ sym (rsdp_absent _ c.args.self.kept (there _ _ c.rsdp_address.ensures c.reach_of-reach.ensures) (omega arith))

pub overflow_cast-result : goal.overflow_cast-result
overflow_cast-result c = omega (arith, rsdp_small _ c.args.self.kept (there _ _ c.rsdp_address.ensures c.reach_of-reach.ensures) (omega arith))

pub returns : goal.returns
returns c = sym (rsdp_present _ c.args.self.kept (there _ _ c.rsdp_address.ensures c.reach_of-reach.ensures) (omega arith))
