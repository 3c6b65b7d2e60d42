-- Maps that say the same get the same answers.
use Prim.Native.Nat.{ℕ}
use mathlib.Core.Path.{◌≡◌, refl, sym, ◌∙◌, ap, ap₂}
use mathlib.Core.Bool.{Bool, not, ◌&&◌, ◌||◌}
use mathlib.Core.List.{◌∷◌}
use lib.Dec.{ltb}
use Rattle.std.specs.Prelude.{Result, Ok, Err}
use Rattle.words.specs.Choice.{if}
use Rattle.words.specs.Refusals.{rule, first_refusal, is_sound}
use Rattle.words.specs.declared.Refusal.{Refusal}
use Rattle.kinds.specs.Ranges.{bit_in_both}
use Rattle.lines.specs.Says.{Said, says, Same}
use Rattle.lines.specs.Routes.{arrival}
use Rattle.lines.specs.Traces.{traced}
use Rattle.lines.specs.Rules.{too_many, both_kinds, ranges_kept, map_rules, first_broken, keeps_rules, slot_places}
use Rattle.lines.specs.Answers.{route_of, trace_of, bad_map}
use Rattle.lines.specs.declared.Map.{Map}
use Rattle.lines.specs.declared.Route.{Route}
use Rattle.lines.specs.declared.Trace.{Trace}
use Rattle.map_promises.specs.Statements.{SameAnswers}

-- the rules look at the counts and at what is said
abbrev keeps : Bool → Said → Bool
keeps many said =
    ranges_kept said && not (bit_in_both said.lio) && not (both_kinds said)
    && is_sound (first_refusal (rule many 38 0 ∷ map_rules said slot_places 0 0))

keeps_is : (map : Map) → keeps_rules map ≡ keeps (too_many map) (says map)
unfolding keeps_rules first_broken
keeps_is map = refl

many_same : (map other : Map) → Same map other → too_many map ≡ too_many other
many_same map other s =
    ap₂ ◌||◌ (ap₂ ◌||◌ (ap (ltb 4) s.eiocount) (ap (ltb 4) s.biocount)) (ap (ltb 4) s.msicount)

keeps_same : (map other : Map) → Same map other → keeps_rules map ≡ keeps_rules other
keeps_same map other s = keeps_is map ∙ ap₂ keeps (many_same map other s) s.said ∙ sym (keeps_is other)

route_same : (map other : Map) → Same map other → (n : ℕ) → route_of map n ≡ route_of other n
unfolding route_of
route_same map other s n =
    ap₂ (λ (b : Bool) (said : Said). if {A = Result Route Refusal} b (Ok (arrival said n)) (Err bad_map)) (keeps_same map other s) s.said

trace_same : (map other : Map) → Same map other → (vector number : ℕ) → trace_of map vector number ≡ trace_of other vector number
unfolding trace_of
trace_same map other s v k =
    ap₂ (λ (b : Bool) (said : Said). if {A = Result Trace Refusal} b (Ok (traced said v k)) (Err bad_map)) (keeps_same map other s) s.said

-- THE PROMISE
pub same_answers : (map other : Map) → SameAnswers map other
same_answers map other s = (keeps_same map other s, route_same map other s, trace_same map other s)
