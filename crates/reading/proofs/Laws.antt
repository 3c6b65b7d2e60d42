-- Laws of the reading's definitions: what each answer is, by what was found.
use Rattle.std.proofs.Common.{Option, Some, None}
use mathlib.Core.Bool.{true, false}
use mathlib.Core.List.{List, ◌∷◌, ◌++◌, append_assoc}
use mathlib.Core.Path.{◌≡◌, refl, sym, ap, ◌∙◌}
use Prim.Native.Nat.{ℕ, ◌+◌, ◌*◌, ◌≤◌}
use native.Mathlib.Omega.{arith}
use lib.Dec.{leb}
use lib.ListN.{length, drop, length-take}
use Rattle.words.specs.Refusals.{Verdict, refused, unless, first_refusal}
use Rattle.words.specs.declared.Refusal.{Refusal}
use Rattle.words.proofs.Choices.{yes_if, no_if}
use Rattle.words.proofs.Verdicts.{first_kept, joined-refused, joined_sound}
use Rattle.tables.specs.Survey.{tables_of, survey_rules, survey}
use Rattle.tables.specs.declared.Strictness.{Strictness}
use Rattle.tables.specs.declared.Table.{Table}
use Rattle.tables.specs.declared.Tables.{Tables}
use Rattle.tables.proofs.Inside.{survey-told, survey-is}
use Rattle.lines.specs.Answers.{refusal_code}
use Rattle.lines.specs.Says.{says}
use Rattle.lines.specs.Rules.{too_many, map_rules, first_broken}
use Rattle.lines.specs.declared.Map.{Map}
use Rattle.lines.specs.declared.Places.{Places}
use Rattle.madt.specs.Walk.{walk_rules}
use Rattle.madt.specs.declared.Found.{Found}
use Rattle.madt.proofs.Accepted.{walk_verdict}
use Rattle.processors.specs.Repeats.{first_repeat}
use Rattle.words.specs.Rooms.{has_room}
use Rattle.processors.specs.Listing.{processors, count}
use Rattle.processors.specs.Image.{image}
use Rattle.processors.proofs.Image.{eight_each}
use Rattle.reading.specs.Scan.{madt_bytes, walk_of, turned_down, repeat_rule, processor_rule, madt_rules, line_rules, rules_before_51, all_rules, accepted, scan}
use Rattle.reading.specs.Entries.{answer_in, read_code}
use Rattle.reading.specs.Reading.{without_map, answered}
use Rattle.reading.specs.declared.Scan.{Scan}
use Rattle.std.specs.Prelude.{Result, Ok, Err}

-- the MADT's bytes are no more than its length
pub bytes_small : (capture : List ℕ) (madt : Table) → length (madt_bytes capture madt) ≤ madt.length
unfolding madt_bytes
bytes_small capture madt = omega (arith, length-take madt.length (drop madt.place capture))

-- 39
pub repeat_none : (base : ℕ) (r : Option ℕ) → r ≡ None → repeat_rule base r ≡ Ok tt
unfolding repeat_rule
repeat_none base r h = rw h

pub repeat_at : (base : ℕ) (r : Option ℕ) {offset : ℕ} → r ≡ Some offset → repeat_rule base r ≡ Err (refused 39 (base + offset))
unfolding repeat_rule
repeat_at base r h = rw h

-- 40 to 54, of a map in which no kind has too many
pub map_judged : (map : Map) (places : Places) (madt fadt : ℕ) → too_many map ≡ false
    → first_broken map places madt fadt ≡ first_refusal (map_rules (says map) places madt fadt)
unfolding first_broken
map_judged map places madt fadt few = first_kept (too_many map) 38 madt _ few refl

-- ---- the rules after 30: those of the walk, and 39 to 54
abbrev pub later_of : List ℕ → Tables → Found → List Verdict
later_of table t found =
    repeat_rule t.madt.place (first_repeat table)
    ∷ processor_rule t.madt.place (count table)
    ∷ map_rules (says found.map) found.places t.madt.place t.fadt.place

abbrev pub later_rules : List ℕ → Tables → List Verdict
later_rules capture t = later_of (madt_bytes capture t.madt) t (walk_of capture t).found

pub after_walk_lem : (capture : List ℕ) (t : Tables)
    → madt_rules capture t ++ line_rules capture t ≡ walk_rules (madt_bytes capture t.madt) t.madt.place ++ later_rules capture t
unfolding madt_rules line_rules map_rules
after_walk_lem capture t = append_assoc (walk_rules (madt_bytes capture t.madt) t.madt.place) _ _

-- the walk, refused or not
module _ (capture : List ℕ) (t : Tables) (answer : Scan) where
  pub walk_refused : {refusal : Refusal} → (walk_of capture t).verdict ≡ Err refusal
      → unless turned_down (first_refusal (madt_rules capture t ++ line_rules capture t)) answer ≡ turned_down refusal
  walk_refused h = rw (after_walk_lem capture t) (joined-refused turned_down (walk_rules _ _) _ _ (sym (walk_verdict _ _ _ _) ∙ h))

  pub walk_sound : (walk_of capture t).verdict ≡ Ok tt
      → unless turned_down (first_refusal (madt_rules capture t ++ line_rules capture t)) answer ≡ unless turned_down (first_refusal (later_rules capture t)) answer
  walk_sound h = rw (after_walk_lem capture t) (joined_sound turned_down (walk_rules _ _) _ _ (sym (walk_verdict _ _ _ _) ∙ h))

-- all rules, by what stands before 31 and after
module _ (strictness : Strictness) (capture : List ℕ) where
  pub in_two : let t = tables_of capture in all_rules strictness capture ≡ survey_rules strictness capture ++ (madt_rules capture t ++ line_rules capture t)
  unfolding all_rules rules_before_51
  in_two = append_assoc (survey_rules strictness capture) _ _

  -- the survey, refused or not
  pub scan-refused : {refusal : Refusal} → survey strictness capture ≡ Err refusal → scan strictness capture ≡ turned_down refusal
  unfolding scan
  scan-refused h = rw in_two (joined-refused turned_down (survey_rules strictness capture) _ _ (survey-told strictness capture h))

  pub scan_found : {t : Tables} → survey strictness capture ≡ Ok t
      → scan strictness capture ≡ unless turned_down (first_refusal (madt_rules capture t ++ line_rules capture t)) (accepted t (walk_of capture t).found.map)
  unfolding scan
  scan_found h =
      rw in_two (joined_sound turned_down (survey_rules strictness capture) _ _ (survey-told strictness capture h))
      ∙ ap (λ (t : Tables). unless turned_down (first_refusal (madt_rules capture t ++ line_rules capture t)) (accepted t (walk_of capture t).found.map)) (survey-is strictness capture h)

-- the list has room, or not
pub answered_read : (table : List ℕ) (map : Map) (list : List ℕ) → has_room (processors table) list ≡ true
    → answered table map list ≡ record { answer = Ok (count table); map = map }
unfolding answered
answered_read table map list h = yes_if _ _ _ h

pub answered_60 : (table : List ℕ) (map : Map) (list : List ℕ) → has_room (processors table) list ≡ false
    → answered table map list ≡ without_map (refused 60 0)
unfolding answered
answered_60 table map list h = no_if _ _ _ h refl

-- 60 over bytes: the room for the entries' bytes is the room for 8 × count
eight_room : (table list : List ℕ) → leb (8 * count table) (length list) ≡ has_room (image (processors table)) list
unfolding has_room
eight_room table list = rw (eight_each table)

pub in_read : (table list : List ℕ) → has_room (image (processors table)) list ≡ true → answer_in table list ≡ Ok (count table)
unfolding answer_in
in_read table list h = yes_if _ _ _ (eight_room table list ∙ h)

pub in_60 : (table list : List ℕ) → has_room (image (processors table)) list ≡ false → answer_in table list ≡ Err (refused 60 0)
unfolding answer_in
in_60 table list h = no_if _ _ _ (eight_room table list ∙ h) refl

pub code_read : (answer : Result ℕ Refusal) {count : ℕ} → answer ≡ Ok count → read_code answer ≡ count
unfolding read_code
code_read answer h = rw h

pub code-refused : (answer : Result ℕ Refusal) {refusal : Refusal} → answer ≡ Err refusal → read_code answer ≡ refusal_code refusal
unfolding read_code
code-refused answer h = rw h
