-- A shortcut of the program, and no line of document 01: 21 and 22 of a table whose header is present, by the room at its place.
-- In a sound capture they are those of `table_rules`: proofs/Whole, so that no answer changes.
use Rattle.std.specs.Prelude.{ℕ, ◌||◌, List, [], ◌∷◌, ltb, Result, Ok, Err}
use Rattle.words.specs.Refusals.{Verdict, rule, unless, first_refusal}
use Rattle.tables.specs.Table.{header_size, table_length, wrong_sum}
use Rattle.words.specs.declared.Refusal.{Refusal}
use Rattle.tables.specs.declared.Table.{Table}

unfoldable pub rules_within : List ℕ → ℕ → ℕ → List Verdict
rules_within capture place room =
    rule (ltb (table_length capture place) header_size || ltb room (table_length capture place)) 21 place
    ∷ rule (wrong_sum capture place) 22 place
    ∷ []

unfoldable pub table_within : List ℕ → ℕ → ℕ → Result Table Refusal
table_within capture place room =
    unless Err (first_refusal (rules_within capture place room)) (Ok (record { place = place; length = table_length capture place }))
