-- Numbers, parts and sums of a list of bytes. A byte past the end of the list counts as 0.
use Rattle.std.specs.Prelude.{ℕ, zero, suc, ◌+◌, ◌*◌, ◌%◌, ◌<◌, List, [], ◌∷◌, take, drop, slice_index}

-- the byte at an offset
abbrev pub byte_at : List ℕ → ℕ → ℕ
byte_at bytes at = slice_index bytes at

-- what a slice of bytes tells of its list
abbrev pub AllBytes : List ℕ → Type 0
AllBytes bytes = (at : ℕ) → byte_at bytes at < 256

-- "Numbers are little-endian": the number in the k bytes from an offset, the first the lowest
unfoldable pub number_at : ℕ → List ℕ → ℕ → ℕ
number_at zero bytes at = 0
number_at (suc k) bytes at = byte_at bytes at + 256 * number_at k bytes (at + 1)

-- the number that letters make, the first the lowest byte
unfoldable pub spelled : List ℕ → ℕ
spelled [] = 0
spelled (x ∷ xs) = x + 256 * spelled xs

-- the `count` bytes from an offset, or as many of them as there are
abbrev pub part_at : List ℕ → ℕ → ℕ → List ℕ
part_at bytes at count = take count (drop at bytes)

-- all bytes added up
unfoldable pub total : List ℕ → ℕ
total [] = 0
total (x ∷ xs) = x + total xs

-- the sum modulo 256
unfoldable pub byte_sum : List ℕ → ℕ
byte_sum bytes = total bytes % 256
