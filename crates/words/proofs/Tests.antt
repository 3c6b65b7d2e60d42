-- Laws of tests: of numbers, and of two things at once.
use Rattle.std.proofs.Common.{◌≡◌, ℕ, Bool, true, false, ◌&&◌, ◌||◌, eqb, sym, refl, eq-eqb, ne_eqb}

-- a flag that holds exactly when two numbers are equal is the test of the two
pub is-eqb : (flag : Bool) (a b : ℕ) → (flag ≡ true → a ≡ b) → (flag ≡ false → a ≡ b → ⊥) → flag ≡ eqb a b
is-eqb true a b holds fails = sym (eq-eqb a b (holds refl))
is-eqb false a b holds fails = sym (ne_eqb a b (fails refl))

-- a test that cannot hold fails
pub fails : (test : Bool) → (test ≡ true → ⊥) → test ≡ false
fails true holds = absurd (holds refl)
fails false holds = refl

-- what a test of two things tells of each
pub both_left : (p q : Bool) → (p && q) ≡ true → p ≡ true
both_left true q h = refl
both_left false q h = h

pub both_right : (p q : Bool) → (p && q) ≡ true → q ≡ true
both_right true q h = h
both_right false true h = refl
both_right false false h = h

pub neither_left : (p q : Bool) → (p || q) ≡ false → p ≡ false
neither_left true q h = h
neither_left false q h = refl

pub neither_right : (p q : Bool) → (p || q) ≡ false → q ≡ false
neither_right true true h = h
neither_right true false h = refl
neither_right false q h = h
