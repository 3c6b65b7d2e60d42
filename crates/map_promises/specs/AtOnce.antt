-- What is promised of numbers that are asked at once (W-209 of document 02): 61 and 62 each exactly when they are due, each answer the
-- single one, and no other place of the answers' list changed.
use Rattle.std.specs.Prelude.{ℕ, ◌+◌, ◌*◌, ◌≤◌, ◌<◌, true, false, List, [], ◌≡◌, length, get_or, Result, Ok, Err}
use Rattle.words.specs.Refusals.{refused_with}
use Rattle.words.specs.declared.Refusal.{Refusal}
use Rattle.lines.specs.Says.{Same}
use Rattle.lines.specs.Rules.{keeps_rules}
use Rattle.lines.specs.Answers.{route_of, coded, route_code}
use Rattle.lines.specs.AtOnce.{at_once, answers_after}
use Rattle.lines.specs.declared.Map.{Map}
use Rattle.lines.specs.declared.Route.{Route}
use Rattle.lines.specs.declared.Route.TheVariants.{Arrives, Unwired, NoOwner}
use Rattle.map_promises.specs.Clashing.{OnePlace, Exactly}

-- 61 is told exactly of a map that breaks a rule, whatever the two lists are, at place 0
abbrev pub SixtyOneExactly : Map → List ℕ → List ℕ → Type 0
SixtyOneExactly map numbers answers =
    Exactly (λ p q. at_once map numbers answers ≡ Err (refused_with 61 p q)) (keeps_rules map ≡ false) (OnePlace (λ p. p ≡ 0))

-- "then 62 if the answers' list is shorter than three times the numbers": of a map that keeps the rules, and exactly then, at place 0
abbrev pub SixtyTwoExactly : Map → List ℕ → List ℕ → Type 0
SixtyTwoExactly map numbers answers =
    Exactly (λ p q. at_once map numbers answers ≡ Err (refused_with 62 p q)) ((keeps_rules map ≡ true) × (length answers < 3 * length numbers)) (OnePlace (λ p. p ≡ 0))

-- "kind (0 arrives, 1 unwired, 2 no owner), vector, number, with zeros where there is no arrival": three numbers tell an answer
abbrev pub TellRoute : ℕ → ℕ → ℕ → Result Route Refusal → Type 0
TellRoute kind vector number (Ok (Arrives v n)) = (kind ≡ 0) × (vector ≡ v) × (number ≡ n)
TellRoute kind vector number (Ok Unwired) = (kind ≡ 1) × (vector ≡ 0) × (number ≡ 0)
TellRoute kind vector number (Ok NoOwner) = (kind ≡ 2) × (vector ≡ 0) × (number ≡ 0)
TellRoute kind vector number (Err refusal) = ⊥

-- what an answers' list holds afterwards
pub record Answered (map : Map) (numbers answers after : List ℕ) : Type 0 where
  -- "Each triple equals the single answer": that to the number in the same turn, and its code is the one that C gets
  pub told : (i : ℕ) → i < length numbers
      → TellRoute (get_or after (3 * i) 0) (get_or after (3 * i + 1) 0) (get_or after (3 * i + 2) 0) (route_of map (get_or numbers i 0))
  pub codes : (i : ℕ) → i < length numbers
      → coded (get_or after (3 * i) 0) (get_or after (3 * i + 1) 0) (get_or after (3 * i + 2) 0) ≡ route_code (route_of map (get_or numbers i 0))
  -- "what lies past the written part of a lent list or room stays" (document 01)
  pub rest : (j : ℕ) → 3 * length numbers ≤ j → get_or after j 0 ≡ get_or answers j 0
  pub size : length after ≡ length answers

-- where neither is told, each number is answered
abbrev pub AtOnceAnswers : Map → Type 0
AtOnceAnswers map =
    keeps_rules map ≡ true
    → (numbers answers : List ℕ) → 3 * length numbers ≤ length answers
    → (at_once map numbers answers ≡ Ok tt) × Answered map numbers answers (answers_after map numbers answers)

-- "an empty list is fine", and changes nothing
abbrev pub NoneIsFine : Map → Type 0
NoneIsFine map =
    keeps_rules map ≡ true → (answers : List ℕ) → (at_once map [] answers ≡ Ok tt) × (answers_after map [] answers ≡ answers)

-- "every lent list or room untouched" (document 01)
abbrev pub RefusedLeavesAnswers : Map → List ℕ → List ℕ → Type 0
RefusedLeavesAnswers map numbers answers = (r : Refusal) → at_once map numbers answers ≡ Err r → answers_after map numbers answers ≡ answers

-- "maps that differ only there are the same map": they give the same answers at once
abbrev pub SameAtOnce : Map → Map → Type 0
SameAtOnce map other =
    Same map other
    → (numbers answers : List ℕ)
    → (at_once map numbers answers ≡ at_once other numbers answers) × (answers_after map numbers answers ≡ answers_after other numbers answers)
