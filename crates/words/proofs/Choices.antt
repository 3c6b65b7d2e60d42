-- The two laws by which every chain of choices is proved, and what a chain that ended tells of its tests.
use Rattle.std.proofs.Common.{◌≡◌, Bool, true, false, refl}
use Rattle.words.specs.Choice.{if}

-- the test holds; the test fails, and what follows is z
pub yes_if {ℓ} : {A : Type ℓ} (b : Bool) (x y : A) → b ≡ true → if b x y ≡ x
unfolding if
yes_if b x y h = rw h

pub no_if {ℓ} : {A : Type ℓ} (b : Bool) (x y : A) {z : A} → b ≡ false → y ≡ z → if b x y ≡ z
unfolding if
no_if b x y h e = rw h e

-- both, for a function that chooses by tests
pub ruleset by_tests = (yes_if, no_if)

-- a choice that did not give its first answer failed the test and gave its second
pub passed {ℓ} : {A : Type ℓ} (b : Bool) (x y z : A) → if b x y ≡ z → (x ≡ z → ⊥) → (b ≡ false) × (y ≡ z)
unfolding if
passed true x y z h other = absurd (other h)
passed false x y z h other = (refl, h)

-- what holds of both answers of a choice holds of the choice
pub if_cases : {A : Type 0} (P : A → Type 0) (b : Bool) (x y : A) → (b ≡ true → P x) → (b ≡ false → P y) → P (if b x y)
unfolding if
if_cases P true x y f g = f refl
if_cases P false x y f g = g refl
