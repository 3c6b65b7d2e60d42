-- Document 01, "Tables", the RSDP, and refusals 11 to 14. `place` is where the RSDP stands in the capture.
use Rattle.std.specs.Prelude.{ℕ, ◌+◌, Bool, not, ◌||◌, List, [], ◌∷◌, eqb}
use Prim.Native.Char.{code}
use Rattle.words.specs.Bytes.{byte_at, number_at, part_at, byte_sum, spelled}
use Rattle.words.specs.Refusals.{Verdict, rule}
use Rattle.capture.specs.Presence.{rsdp_size}

-- "`RSD PTR ` with its closing blank"
unfoldable pub rsd_ptr : ℕ
rsd_ptr =
    spelled
    (code "R" ∷ code "S" ∷ code "D" ∷ code " " ∷ code "P" ∷ code "T" ∷ code "R" ∷ code " " ∷ [])

-- 11: the signature "at 0"
unfoldable pub wrong_signature : List ℕ → ℕ → Bool
wrong_signature capture place = not (eqb (number_at 8 capture place) rsd_ptr)

-- 12: "revision 2 at 15"
unfoldable pub wrong_revision : List ℕ → ℕ → Bool
wrong_revision capture place = not (eqb (byte_at capture (place + 15)) 2)

-- 13: "length 36 at 20"
unfoldable pub wrong_length : List ℕ → ℕ → Bool
wrong_length capture place = not (eqb (number_at 4 capture (place + 20)) rsdp_size)

-- 14: "Bytes 0 to 19 sum to 0 modulo 256, and so do all 36"
unfoldable pub wrong_sums : List ℕ → ℕ → Bool
wrong_sums capture place =
    not (eqb (byte_sum (part_at capture place 20)) 0) || not (eqb (byte_sum (part_at capture place rsdp_size)) 0)

-- the order of refusals 11 to 14
unfoldable pub rsdp_rules : List ℕ → ℕ → List Verdict
rsdp_rules capture place =
    rule (wrong_signature capture place) 11 place
    ∷ rule (wrong_revision capture place) 12 place
    ∷ rule (wrong_length capture place) 13 place
    ∷ rule (wrong_sums capture place) 14 place
    ∷ []

-- "XSDT address at 24": the place of that field
unfoldable pub xsdt_field : ℕ → ℕ
xsdt_field place = place + 24
