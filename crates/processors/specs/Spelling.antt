-- A shortcut of the program, and no line of document 01: both lists are filled by one function, and this is what it asks of how the numbers
-- of processors are spelled, as they are or as bytes. That each list is filled as Listing and Image say is proved in the contracts of
-- `list::fill` and `bytes::fill`, so that no answer changes.
use Rattle.std.specs.Prelude.{◌≡◌, ℕ, ◌<◌, List, [], ◌∷◌, ◌++◌, length, refl}
use Rattle.std.proofs.Common.{arith}
use Rattle.processors.specs.Image.{four_bytes, image}

-- no numbers take nothing, numbers behind each other are written behind each other, and the two of a processor take one entry
pub record Spelling {A : Type 0} (spelled : List ℕ → List A) (entry : ℕ) : Type 0 where
  pub none : spelled [] ≡ []
  pub joined : (xs ys : List ℕ) → spelled (xs ++ ys) ≡ spelled xs ++ spelled ys
  pub each : (uid id : ℕ) → length (spelled (uid ∷ id ∷ [])) ≡ entry
  pub some : 0 < entry

-- as they are
abbrev pub plain : List ℕ → List ℕ
plain xs = xs

-- two numbers for each processor
pub plainly : Spelling plain 2
plainly = record { none = refl; joined = λ xs ys. refl; each = λ uid id. refl; some = omega arith }

image_joined : (xs ys : List ℕ) → image (xs ++ ys) ≡ image xs ++ image ys
unfolding image four_bytes
image_joined [] ys = refl
image_joined (x ∷ xs) ys = rw (image_joined xs ys)

-- eight bytes for each processor
pub in_bytes : Spelling image 8
unfolding image four_bytes
in_bytes = record { none = refl; joined = image_joined; each = λ uid id. refl; some = omega arith }
