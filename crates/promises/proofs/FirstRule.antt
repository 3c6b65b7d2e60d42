-- "The lowest line that applies wins, with these exceptions": what a capture is refused with is what the first broken rule of
-- the one list of all rules says, and the list that is lent comes last.
use Prim.Native.Nat.{ℕ}
use mathlib.Core.Path.{◌≡◌, refl, sym, ap, ◌∙◌}
use mathlib.Core.Bool.{Bool, true, false, not}
use mathlib.Core.List.{List, [], ◌∷◌}
use Rattle.words.specs.Choice.{if}
use Rattle.words.specs.Refusals.{Verdict, refused, rule, unless, first_refusal}
use Rattle.words.proofs.Verdicts.{first-joined}
use Rattle.tables.specs.declared.Strictness.{Strictness}
use Rattle.lines.specs.declared.Map.{Map}
use Rattle.words.specs.Rooms.{has_room}
use Rattle.processors.specs.Listing.{processors, count}
use Rattle.reading.specs.Scan.{all_rules, scan}
use Rattle.reading.specs.Reading.{without_map, answered, madt_found, reading_of}
use Rattle.reading.proofs.Scanned.{scan-verdict}
use Rattle.promises.specs.AllRules.{FirstRuleWins, verdict_of, ListComesLast}
use Rattle.std.specs.Prelude.{Ok, Err}

-- ---- the list
room_last : (b : Bool) (processors : ℕ) (map : Map)
    → verdict_of (if b (record { answer = Ok processors; map = map }) (without_map (refused 60 0))).answer
    ≡ first_refusal (rule (not b) 60 0 ∷ [])
unfolding if verdict_of without_map first_refusal unless
room_last true processors map = refl
room_last false processors map = refl

read_last : (v : Verdict) (table : List ℕ) (map : Map) (list : List ℕ)
    → verdict_of (unless without_map v (answered table map list)).answer
    ≡ unless Err v (first_refusal (rule (not (has_room (processors table) list)) 60 0 ∷ []))
unfolding answered without_map verdict_of unless
read_last (Ok tt) table map list = room_last (has_room (processors table) list) (count table) map
read_last (Err r) table map list = refl

-- THE PROMISES
pub first_rule_wins : (strictness : Strictness) (capture : List ℕ) → FirstRuleWins strictness capture
first_rule_wins = scan-verdict

pub list_comes_last : (strictness : Strictness) (capture list : List ℕ) → ListComesLast strictness capture list
unfolding reading_of
list_comes_last strictness capture list =
    read_last (scan strictness capture).verdict (madt_found strictness capture) (scan strictness capture).map list
    ∙ ap (λ (v : Verdict). unless Err v (first_refusal (rule (not (has_room (processors (madt_found strictness capture)) list)) 60 0 ∷ []))) (first_rule_wins strictness capture)
    ∙ sym (first-joined (all_rules strictness capture) _)
