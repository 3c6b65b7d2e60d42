-- The bytes of an HT are those at 13 to 20 of its structure, and byte n is for its vectors 32n to 32n + 31.
use Prim.Native.Nat.{ℕ, zero, suc, ◌+◌, ◌*◌, ◌/◌, ◌<◌}
use native.Mathlib.Omega.{arith}
use mathlib.Core.Path.{◌≡◌, refl, ◌∙◌, ap}
use mathlib.Core.List.{List}
use lib.ListN.{get_or}
use Rattle.words.specs.Bytes.{byte_at}
use Rattle.kinds.specs.Makers.{ht_of}
use Rattle.map_promises.specs.Walks.{BytesOfHt}

byte : (s : List ℕ) (n : ℕ) → n < 8 → get_or (ht_of s).bytes n 0 ≡ byte_at s (13 + n)
unfolding ht_of
byte s zero l = refl
byte s (suc zero) l = refl
byte s (suc (suc zero)) l = refl
byte s (suc (suc (suc zero))) l = refl
byte s (suc (suc (suc (suc zero)))) l = refl
byte s (suc (suc (suc (suc (suc zero))))) l = refl
byte s (suc (suc (suc (suc (suc (suc zero)))))) l = refl
byte s (suc (suc (suc (suc (suc (suc (suc zero))))))) l = refl
byte s (suc (suc (suc (suc (suc (suc (suc (suc n)))))))) l = absurd (omega arith)

-- THE PROMISE
pub bytes_of_ht : (s : List ℕ) → BytesOfHt s
unfolding ht_of
bytes_of_ht s =
    record {
      eight = refl;
      byte = byte s;
      vectors = λ n k l m. let group : (32 * n + k) / 32 ≡ n = omega arith in ap (λ (i : ℕ). get_or (ht_of s).bytes i 0) group ∙ byte s n l;
    }
