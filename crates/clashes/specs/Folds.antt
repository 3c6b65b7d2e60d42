-- Going through a list from its first element on, with what is known so far.
use Rattle.std.specs.Prelude.{List, [], ◌∷◌}

-- `step` at each element in turn
unfoldable pub fold {ℓ ℓ'} : {A : Type ℓ} {B : Type ℓ'} → (B → A → B) → B → List A → B
fold step sofar [] = sofar
fold step sofar (x ∷ xs) = fold step (step sofar x) xs
