-- What the program hands its searches, and no line of document 01: what a closure computes, which is that whatever a call may give back is
-- what a function of the arguments is. `post` is the closure's. That the searches find what the documents say, with any such closure, is
-- proved in the contracts of `Map::first_clash`, `Map::first_lone` and `Map::is_quiet`, so that no answer changes.
use Rattle.std.specs.Prelude.{◌≡◌}

abbrev pub Computes : {A R : Type 0} → (A → R → Type 0) → (A → R) → Type 0
Computes {A} {R} post f = (x : A) (r : R) → post x r → r ≡ f x

-- of two arguments
abbrev pub ComputesOnTwo : {A B R : Type 0} → (A → B → R → Type 0) → (A → B → R) → Type 0
ComputesOnTwo {A} {B} {R} post f = (x : A) (y : B) (r : R) → post x y r → r ≡ f x y
