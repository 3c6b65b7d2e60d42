-- 61 is given for every question about a map that breaks a rule, and for none about one that keeps them.
use Prim.Native.Nat.{ℕ}
use mathlib.Core.Path.{◌≡◌, refl, sym, ◌∙◌}
use mathlib.Core.Bool.{true, false}
use Rattle.std.specs.Prelude.{Err}
use Rattle.words.specs.declared.Refusal.{Refusal}
use Rattle.words.proofs.Choices.{no_if}
use Rattle.lines.specs.Rules.{keeps_rules}
use Rattle.lines.specs.Answers.{route_of, trace_of, bad_map}
use Rattle.lines.specs.declared.Map.{Map}
use Rattle.map_promises.specs.Statements.{RefusedExactly}
use Rattle.map_promises.proofs.Logic.{answered_not}
use Rattle.map_promises.proofs.Routing.{routed}
use Rattle.map_promises.proofs.Tracing.{told}

trace_not : (map : Map) → keeps_rules map ≡ true → (v k : ℕ) (r : Refusal) → trace_of map v k ≡ Err r → ⊥
trace_not map h v k r e = answered_not (sym (told map h v k) ∙ e)

route_not : (map : Map) → keeps_rules map ≡ true → (n : ℕ) (r : Refusal) → route_of map n ≡ Err r → ⊥
route_not map h n r e = answered_not (sym (routed map h n) ∙ e)

route_61 : (map : Map) → keeps_rules map ≡ false → (n : ℕ) → route_of map n ≡ Err bad_map
unfolding route_of
route_61 map h n = no_if _ _ _ h refl

trace_61 : (map : Map) → keeps_rules map ≡ false → (v k : ℕ) → trace_of map v k ≡ Err bad_map
unfolding trace_of
trace_61 map h v k = no_if _ _ _ h refl

-- THE PROMISE
pub refused-exactly : (map : Map) → RefusedExactly map
refused-exactly map = ((λ h. (route_61 map h, trace_61 map h)), (λ h. (route_not map h, trace_not map h)))
