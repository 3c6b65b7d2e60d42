-- Document 01, "Refusals in order": a refusal returns its number and place; by W-202 of document 02 it carries a second place too.
-- Every layer lists what its rules say, in their order, and asks the list for its first refusal.
use Rattle.std.specs.Prelude.{ℕ, Bool, List, [], ◌∷◌, Result, Ok, Err, is_ok, ◌++◌, eqb, codes}
use Rattle.std.specs.Fmt.{decimal}
use Rattle.words.specs.Choice.{if}
use Rattle.words.specs.declared.Refusal.{Refusal}

-- "51 to 53 are to carry a second place"
abbrev pub refused_with : ℕ → ℕ → ℕ → Refusal
refused_with number place second = record { number = number; place = place; second = second }

-- "all others carry 0"
abbrev pub refused : ℕ → ℕ → Refusal
refused number place = refused_with number place 0

-- what rules say of a capture or a map: nothing is broken, or the refusal
abbrev pub Verdict : Type 0
Verdict = Result (Unit {0}) Refusal

-- what the rule of a number says: refused at a place if it is broken
abbrev pub rule : Bool → ℕ → ℕ → Verdict
rule broken number place = if broken (Err (refused number place)) (Ok tt)

-- an answer that stands unless a verdict refuses it; `turned` is what comes of a refusal
unfoldable pub unless : {A : Type 0} → (Refusal → A) → Verdict → A → A
unless turned (Err refusal) answer = turned refusal
unless turned (Ok tt) answer = answer

-- "The lowest line that applies wins": the first refusal among what some rules say, or sound where none refuses
unfoldable pub first_refusal : List Verdict → Verdict
first_refusal [] = Ok tt
first_refusal (verdict ∷ later) = unless Err verdict (first_refusal later)

-- no rule is broken
unfoldable pub is_sound : Verdict → Bool
is_sound verdict = is_ok verdict

-- a refusal on paper: "51 to 53 are to carry a second place", "all others carry 0, unprinted"
unfoldable pub told : Refusal → List ℕ
told refusal =
    codes "refused " ++ (decimal refusal.number ++ (codes " at " ++ (decimal refusal.place
    ++ if (eqb refusal.second 0) [] (codes " with " ++ decimal refusal.second))))
