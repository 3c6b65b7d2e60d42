-- "Of two things that clash the place is the later one's; where one line fits several structures, the first in table order
-- is named": searches among claims by the places of their structures.
use Rattle.std.specs.Prelude.{ℕ, List, ◌&&◌, ltb, Option, Some, None}
use Rattle.words.specs.Choice.{if}
use Rattle.clashes.specs.Folds.{fold}
use Rattle.clashes.specs.Rules.{clash, lone}
use Rattle.clashes.specs.declared.Claim.{Claim}

-- the earlier of two places
unfoldable pub sooner : Option ℕ → ℕ → Option ℕ
sooner None p = Some p
sooner (Some q) p = if (ltb p q) (Some p) (Some q)

-- y stands before x and x clashes with it: its place, if it is the earliest so far
unfoldable pub nearer : ℕ → Claim → Option ℕ → Claim → Option ℕ
nearer rule x best y = if (ltb y.place x.place && clash rule x y) (sooner best y.place) best

-- the earliest structure before x that x clashes with
unfoldable pub partner : ℕ → Claim → List Claim → Option ℕ
partner rule x claims = fold (nearer rule x) None claims

-- the structure at p with its partner, if it is the first so far that has one
unfoldable pub better : Option (ℕ × ℕ) → ℕ → Option ℕ → Option (ℕ × ℕ)
better best p None = best
better None p (Some q) = Some (p, q)
better (Some (o, w)) p (Some q) = if (ltb p o) (Some (p, q)) (Some (o, w))

-- the first structure of the table that clashes with an earlier one, and the earliest that it clashes with
unfoldable pub first_clash : ℕ → List Claim → Option (ℕ × ℕ)
first_clash rule claims = fold (λ best x. better best x.place (partner rule x claims)) None claims

-- x stands alone among hubs with some nodes: its place, if it is the first so far
unfoldable pub lonelier : List ℕ → Option ℕ → Claim → Option ℕ
lonelier nodes best x = if (lone nodes x) (sooner best x.place) best

-- the first structure of the table that stands alone
unfoldable pub first_lone : List ℕ → List Claim → Option ℕ
first_lone nodes claims = fold (lonelier nodes) None claims
