-- The earlier of two places is the least of them.
use Rattle.std.proofs.Common.{◌≡◌, ap, arith}
use Rattle.std.specs.Prelude.{ℕ, min, Option, Some, ltb}
use borrow.Author.Tests.{ltb-true, ltb-false}
use Rattle.words.proofs.Choices.{if_cases}
use Rattle.clashes.specs.Search.{sooner}

pub least : (p q : ℕ) → sooner (Some q) p ≡ Some (min q p)
unfolding sooner
least p q =
    if_cases (λ (best : Option ℕ). best ≡ Some (min q p)) (ltb p q) _ _
    (λ t. ap Some (omega (arith, ltb-true p q t))) (λ t. ap Some (omega (arith, ltb-false p q t)))
