-- Which inputs, pins and slots a structure has: document 01, "Where a line arrives".
use Rattle.std.specs.Prelude.{ℕ, ◌+◌, ◌/◌, ◌%◌, ◌^◌, Bool, not, ◌&&◌, ◌||◌, eqb, leb, ltb, get_or}
use Rattle.words.specs.Choice.{if}
use Rattle.words.specs.Lists.{every}
use Rattle.kinds.specs.declared.Half.{Half}
use Rattle.kinds.specs.declared.Lio.{Lio}
use Rattle.kinds.specs.declared.Ht.{Ht}
use Rattle.kinds.specs.declared.Bio.{Bio}
use Rattle.kinds.specs.declared.Msi.{Msi}
use Rattle.kinds.specs.declared.Lpc.{Lpc}

-- bit i of a mask of 32 inputs
unfoldable pub has_bit : ℕ → ℕ → Bool
has_bit mask i = ltb i 32 && eqb (mask / 2 ^ i % 2) 1

-- input i of the LIO is wired: a half's mask has its bit
abbrev pub wired : Lio → ℕ → Bool
wired lio i = has_bit lio.low.mask i || has_bit lio.high.mask i

-- a half of the LIO leads input i to a core vector
abbrev pub leads : Half → ℕ → ℕ → Bool
leads half vector i = eqb half.cascade vector && has_bit half.mask i

-- the core vector of LIO input i: "the cascade of the half whose mask has bit i"; 0 where it is not wired
unfoldable pub core_vector : Lio → ℕ → ℕ
core_vector lio i =
    if (has_bit lio.low.mask i) lio.low.cascade
    (if (has_bit lio.high.mask i) lio.high.cascade
    0)

-- ---- W-201 of document 02: the HT
-- "byte n names the LIO input that HT vectors 32n to 32n + 31 go to"
abbrev pub input_for : Ht → ℕ → ℕ
input_for ht v = get_or ht.bytes (v / 32) 0

-- there is an HT, and one of its bytes names LIO input i
unfoldable pub is_named : Ht → ℕ → Bool
is_named ht i = ht.present && not (every (λ b. not (eqb b i)) ht.bytes)

-- there is an HT, and one of its bytes names an input that is not wired
unfoldable pub names_unwired : Lio → Ht → Bool
names_unwired lio ht = ht.present && not (every (wired lio) ht.bytes)

-- "slot s, from start to start + count - 1"
abbrev pub has_slot : ℕ → Msi → Bool
has_slot slot msi = leb msi.start slot && ltb slot (msi.start + msi.count)

-- "a BIO with base b owns b to b + 63, its inputs 0 to 63": of 64 inputs, and of as many as it has (W-212 of document 02)
abbrev pub owns : ℕ → Bio → Bool
owns number bio = leb bio.base number && ltb number (bio.base + bio.pins)

-- a BIO has an input v, and lands it on the hub of a node
unfoldable pub has_pin : ℕ → ℕ → Bio → Bool
has_pin node v bio = eqb bio.node node && ltb v bio.pins

-- "the LPC's bridge is the BIO whose hardware ID equals those bits of the LPC's base, the earliest of equals", where the map keeps those
-- bits as the LPC's node (W-208 of document 02): a BIO has that hardware ID
abbrev pub is_bridge : Lpc → Bio → Bool
is_bridge lpc bio = eqb bio.node lpc.node
