-- The sum of bytes modulo 256, where only its last eight bits are kept at each byte.
use Rattle.std.proofs.Common.{◌≡◌, ℕ, ◌+◌, ◌%◌, ◌<◌, List, [], ◌∷◌, fold, ◌∙◌, arith}
use Rattle.words.specs.Bytes.{total, byte_sum}

-- adding a byte, of which the last eight bits are kept
abbrev pub add_byte : ℕ → ℕ → ℕ
add_byte sum byte = (sum + byte) % 256

added : (sum : ℕ) (bytes : List ℕ) → sum < 256 → fold add_byte sum bytes ≡ (sum + total bytes) % 256
unfolding total
added sum [] small = omega arith
added sum (x ∷ xs) small = added ((sum + x) % 256) xs (omega arith) ∙ omega arith

pub added_up : (bytes : List ℕ) → fold add_byte 0 bytes ≡ byte_sum bytes
unfolding byte_sum
added_up bytes = added 0 bytes (omega arith) ∙ omega arith
