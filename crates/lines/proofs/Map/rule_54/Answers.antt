-- `Map::rule_54` is rule 54: the arrival is taken apart.
use Prim.Native.Nat.{ℕ}
use mathlib.Core.Path.{◌≡◌, refl}
use mathlib.Core.Bool.{true}
use Rattle.words.specs.Choice.{if}
use Rattle.lines.specs.Rules.{lost}
use Rattle.lines.specs.declared.Route.{Route}
use Rattle.lines.specs.declared.Route.TheVariants.{Arrives, Unwired, NoOwner}
use Rattle.lines.proofs.Map.rule_54.Goals as goal

-- a route that is no arrival is lost
others : (r : Route) → ((vector number : ℕ) → r ≡ Arrives vector number → ⊥) → lost r ≡ true
unfolding lost
others (Arrives vector number) h = absurd (h vector number refl)
others Unwired h = refl
others NoOwner h = refl

pub returns-in_default : goal.returns-in_default
unfolding if
returns-in_default c = rw (c.refuse.ensures, ← c.arrival.ensures, others c.arrival.result c.in_default.not-Arrives)

pub returns : goal.returns
unfolding if lost
returns c = rw (← c.arrival.ensures, c.in-Arrives.is)
