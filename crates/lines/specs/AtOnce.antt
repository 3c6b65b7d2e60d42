-- W-209 of document 02, a list of numbers at once: "Take a list of 32-bit global numbers and a list for the answers, three numbers each".
use Rattle.std.specs.Prelude.{ℕ, ◌*◌, not, List, [], ◌∷◌, ltb, length}
use Rattle.std.specs.Option.{option_map_or}
use Rattle.std.specs.Result.{result_ok}
use Rattle.words.specs.Lists.{in_each}
use Rattle.words.specs.Refusals.{Verdict, rule, unless, first_refusal}
use Rattle.words.specs.Rooms.{written}
use Rattle.lines.specs.Answers.{route_of, in_numbers}
use Rattle.lines.specs.Rules.{keeps_rules}
use Rattle.lines.specs.declared.Map.{Map}
use Rattle.lines.specs.declared.Route.{Route}

-- "three numbers each": kind, core vector and number
unfoldable pub triple_of : Route → List ℕ
triple_of route = in_numbers (λ kind vector number. kind ∷ vector ∷ number ∷ []) route

-- "Each triple equals the single answer": those of all numbers, one behind the other; a refusal has none
unfoldable pub triples_of : Map → List ℕ → List ℕ
triples_of map numbers = in_each (λ number. option_map_or triple_of (result_ok (route_of map number)) []) numbers

-- "Refusals: 61, then 62 if the answers' list is shorter than three times the numbers", both at place 0; "an empty list is fine"
unfoldable pub at_once_rules : Map → List ℕ → List ℕ → List Verdict
at_once_rules map numbers answers =
    rule (not (keeps_rules map)) 61 0
    ∷ rule (ltb (length answers) (3 * length numbers)) 62 0
    ∷ []

-- what the call gives back: the first of them that is broken, or sound
unfoldable pub at_once : Map → List ℕ → List ℕ → Verdict
at_once map numbers answers = first_refusal (at_once_rules map numbers answers)

-- the answers' list afterwards: a refusal leaves it as it was
unfoldable pub answers_after : Map → List ℕ → List ℕ → List ℕ
answers_after map numbers answers = unless (λ refusal. answers) (at_once map numbers answers) (written (triples_of map numbers) answers)
