-- What is told of a search's answer: document 01, "Refusals in order", and W-202 of document 02: the number of its rule, and one
-- place or two.
use Rattle.std.specs.Prelude.{ℕ, Option, Ok, Err, Some, None}
use Rattle.words.specs.Refusals.{Verdict, refused, refused_with}

-- "Of two things that clash or repeat, the place is the later one's"
unfoldable pub at_later : ℕ → Option (ℕ × ℕ) → Verdict
at_later number None = Ok tt
at_later number (Some (p, q)) = Err (refused number p)

-- "51 to 53 are to carry a second place, the earliest structure that the named one clashes with by that rule"
unfoldable pub at_both : ℕ → Option (ℕ × ℕ) → Verdict
at_both number None = Ok tt
at_both number (Some (p, q)) = Err (refused_with number p q)

-- a rule that is broken at a spot, or nowhere
unfoldable pub spotted : ℕ → Option ℕ → Verdict
spotted number None = Ok tt
spotted number (Some p) = Err (refused number p)
