-- A route is a source's: document 01, "Where a line arrives": "The answer to a global number is: arrives (vector, number),
-- unwired, or no owner." Which of the three it is, said of the sources alone; and whose a number is. Each statement stands alone, and holds of
-- every map that keeps the rules; proofs/Routing.antt has a theorem for it.
use Rattle.std.specs.Prelude.{ℕ, ◌+◌, ◌<◌, true, false, ◌≡◌, Ok}
use Rattle.parts.specs.Inputs.{wired, is_named}
use Rattle.lines.specs.Says.{Said, says}
use Rattle.lines.specs.Routes.{owner}
use Rattle.lines.specs.Answers.{route_of}
use Rattle.lines.specs.declared.Map.{Map}
use Rattle.lines.specs.declared.Owner.{Owner}
use Rattle.lines.specs.declared.Owner.TheVariants.{LpcInput, LioInput, BioInput, Nobody}
use Rattle.lines.specs.declared.Route.TheVariants.{Unwired, NoOwner}
use Rattle.map_promises.specs.Sources.{Source, pin, bio_at, IsSource, HasNumber, arrives}

-- a source has the number
abbrev pub IsSourced : Said → ℕ → Type 0
IsSourced said number = (x : Source) × IsSource said x × HasNumber said x number

-- "16 to 47 the LIO inputs 0 to 31", "with no such bit it is unwired": it is the number of an input that is not wired (by 40 there
-- is a LIO, and by 44 the HT does not name it)
abbrev pub IsUnwired : Said → ℕ → Type 0
IsUnwired said number = (i : ℕ) × (i < 32) × (wired said.lio i ≡ false) × (16 + i ≡ number)

-- "global numbers 0 to 15 are the LPC inputs if there is an LPC"
abbrev pub IsLpcLine : Said → ℕ → Type 0
IsLpcLine said number = (number < 16) × (said.lpc.present ≡ true)

-- a source's own number is answered with where the source arrives
abbrev pub RouteIsSources : Map → Type 0
RouteIsSources map =
    (x : Source) (number : ℕ) → IsSource (says map) x → HasNumber (says map) x number → route_of map number ≡ Ok (arrives (says map) x)

-- "unwired" is told of the unwired inputs of the LIO, and of nothing else
abbrev pub UnwiredExactly : Map → Type 0
UnwiredExactly map =
    (number : ℕ)
    → (route_of map number ≡ Ok Unwired → IsUnwired (says map) number) × (IsUnwired (says map) number → route_of map number ≡ Ok Unwired)

-- "The rest have no owner": no source has the number, and it is neither an unwired input's nor an LPC line's
pub record Rest (said : Said) (number : ℕ) : Type 0 where
  pub sourced : IsSourced said number → ⊥
  pub unwired : IsUnwired said number → ⊥
  pub lpc : IsLpcLine said number → ⊥

-- and "no owner" is told of the rest, and of nothing else
abbrev pub NoOwnerExactly : Map → Type 0
NoOwnerExactly map =
    (number : ℕ)
    → (route_of map number ≡ Ok NoOwner → Rest (says map) number) × (Rest (says map) number → route_of map number ≡ Ok NoOwner)

-- whose a number is: "global numbers 0 to 15 are the LPC inputs if there is an LPC; 16 to 47 the LIO inputs 0 to 31", but for those that the HT
-- names; "a BIO with base b owns b to b + 63, its inputs 0 to 63", as many as it has; "The rest have no owner."
abbrev pub Owns : Said → Owner → ℕ → Type 0
Owns said LpcInput number = IsLpcLine said number
Owns said (LioInput i) number = (i < 32) × (is_named said.ht i ≡ false) × (16 + i ≡ number)
Owns said (BioInput node v) number = (j : ℕ) × IsSource said (pin j v) × HasNumber said (pin j v) number × ((bio_at said j).node ≡ node)
Owns said Nobody number = Rest said number

-- and each number has the owner that owns it so, and no other
abbrev pub OwnerExactly : Map → Type 0
OwnerExactly map =
    (whose : Owner) (number : ℕ)
    → (owner (says map) number ≡ whose → Owns (says map) whose number) × (Owns (says map) whose number → owner (says map) number ≡ whose)
