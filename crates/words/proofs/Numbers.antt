-- Laws of little-endian numbers, for every width.
use Rattle.std.specs.Int.{byte_worth, sum_through}
use Rattle.std.proofs.Common.{◌≡◌, ℕ, zero, suc, slice_index, sym, ap, ◌∙◌, add-one, mul_comm, ◌+◌, ◌*◌, ◌^◌, ◌<◌, ◌≤◌, List, length, take, drop, refl, add-zero, add_assoc, mul_assoc, suc-add, one-mul, zero-add, mul-add, arith, get_or-drop, get_or-take}
use native.Mathlib.Nat.{pow-zero, pow-succ'}
use lib.ListN.{get_or-eq_default}
use Rattle.words.specs.Bytes.{byte_at, AllBytes, number_at}

-- past the end every number is 0
pub number_past : (k : ℕ) (bytes : List ℕ) (at : ℕ) → length bytes ≤ at → number_at k bytes at ≡ 0
unfolding number_at
number_past zero bytes at h = refl
number_past (suc k) bytes at h = simp (get_or-eq_default bytes 0 h, number_past k bytes (at + 1) (omega arith))

-- a number is its low bytes, and its high bytes above them
pub number_split : (m k : ℕ) (bytes : List ℕ) (at : ℕ)
    → number_at (m + k) bytes at ≡ number_at m bytes at + 256 ^ m * number_at k bytes (at + m)
unfolding number_at
number_split zero k bytes at = simp (zero-add, add-zero, pow-zero, one-mul)
number_split (suc m) k bytes at =
    let next : at + 1 + m ≡ at + suc m = omega arith in
    rw (suc-add, number_split m k bytes (at + 1), next, pow-succ', mul-add, mul_assoc) (omega arith)

-- k bytes make a number below 256 ^ k
pub number_small : (k : ℕ) (bytes : List ℕ) (at : ℕ) → AllBytes bytes → number_at k bytes at < 256 ^ k
unfolding number_at
number_small zero bytes at b = rw pow-zero (omega arith)
number_small (suc k) bytes at b =
    let low : byte_at bytes at < 256 = b at in
    let high : number_at k bytes (at + 1) < 256 ^ k = number_small k bytes (at + 1) b in
    rw pow-succ' (omega arith)

-- a number that lies inside the first n bytes is that of all
pub number_take : (k : ℕ) (bytes : List ℕ) (n at : ℕ) → at + k ≤ n → number_at k (take n bytes) at ≡ number_at k bytes at
unfolding number_at
number_take zero bytes n at h = refl
number_take (suc k) bytes n at h = rw (get_or-take n bytes at 0 (omega arith), number_take k bytes n (at + 1) (omega arith))

-- a number behind the first n bytes is that of all, n further on
pub number_drop : (k : ℕ) (bytes : List ℕ) (n at : ℕ) → number_at k (drop n bytes) at ≡ number_at k bytes (n + at)
unfolding number_at
number_drop zero bytes n at = refl
number_drop (suc k) bytes n at = rw (get_or-drop n bytes at 0, number_drop k bytes n (at + 1), add_assoc)

-- a number that `from_le_bytes` makes of an array of the bytes from an offset
pub number_read : (k : ℕ) (bytes array : List ℕ) (at : ℕ) → ((i : ℕ) → i < suc k → slice_index array i ≡ byte_at bytes (at + i))
    → sum_through (λ i. byte_worth i (slice_index array i)) k ≡ number_at (suc k) bytes at
unfolding number_at
number_read zero bytes array at read = read 0 (omega arith) ∙ ap (byte_at bytes) (add-zero at) ∙ omega arith
number_read (suc k) bytes array at read =
    let low = number_read k bytes array at (λ i h. read i (omega arith)) in
    let top : number_at 1 bytes (at + suc k) ≡ slice_index array (suc k) = rw add-zero (sym (read (suc k) (omega arith))) in
    let whole : sum_through (λ i. byte_worth i (slice_index array i)) (suc k) ≡ number_at (suc k + 1) bytes at =
    rw (number_split (suc k) 1 bytes at, top, low) (ap (λ n. number_at (suc k) bytes at + n) (mul_comm _ _))
    in
    rw add-one at whole
