-- Document 01, "What comes back": for the bench's C program "the list is bytes, four little-endian ones a number".
use Rattle.std.specs.Prelude.{ℕ, ◌/◌, ◌%◌, List, [], ◌∷◌, ◌++◌}

-- the four bytes of a number of 32 bits, the lowest first
unfoldable pub four_bytes : ℕ → List ℕ
four_bytes x = x % 256 ∷ x / 256 % 256 ∷ x / 65536 % 256 ∷ x / 16777216 % 256 ∷ []

-- a list of numbers as bytes
unfoldable pub image : List ℕ → List ℕ
image [] = []
image (x ∷ xs) = four_bytes x ++ image xs
