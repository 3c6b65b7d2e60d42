-- A choice between two answers by a test. A chain of choices reads from top to bottom: the first test that holds decides.
use Rattle.std.specs.Prelude.{Bool, true, false}

unfoldable pub if {ℓ} : {A : Type ℓ} → Bool → A → A → A
if true a b = a
if false a b = b
