-- "At most 256 CORE": a MADT that breaks no rule of its structures has no more, enabled or not, so no more processors are listed.
use mathlib.Core.Path.{◌≡◌}
use mathlib.Core.List.{List}
use Prim.Native.Nat.{ℕ, ◌≤◌}
use Rattle.madt.specs.Walk.{walked}
use Rattle.madt.proofs.Accepted.{rules_sound, few_enabled}
use Rattle.processors.specs.Listing.{count}
use Rattle.std.specs.Prelude.{Ok}

pub at_most_256 : (table : List ℕ) (base sci : ℕ) (pins : ℕ → ℕ) → (walked table base sci pins).verdict ≡ Ok tt → count table ≤ 256
unfolding count
at_most_256 table base sci pins h = few_enabled table base (rules_sound table base sci pins h)
