-- `pairs::check` names the first broken pair.
use Rattle.std.proofs.Common.{◌≡◌, ℕ, ◌-◌}
use Rattle.words.specs.Lists.{first, numbers_from, numbers_below}
use Rattle.words.specs.Refusals.{refused}
use Rattle.words.proofs.Searches.{Searching}
use Rattle.capture.specs.Pairs.{pair_place, pairs_of, pair_broken}
use Rattle.capture.proofs.pairs.check.Given as goal
use Rattle.std.specs.Prelude.{Ok, Err}

abbrev pub invariant-loop-k : goal.invariant-loop-k
invariant-loop-k l =
    (l.pairs ≡ pairs_of l.capture)
    × Searching (pair_broken (pairs_of l.capture)) (λ (j : ℕ). Err (refused 7 (pair_place j))) (Ok (tt {0})) (first (pair_broken (pairs_of l.capture)) (λ (j : ℕ). Err (refused 7 (pair_place j))) (Ok tt) (numbers_below 4)) (numbers_from l.k (4 - l.k))
