-- What is promised of the walk of a MADT: what it finds is a map in good order. Each statement stands alone; proofs/ has a
-- theorem of the same name for it.
use Rattle.std.specs.Prelude.{ℕ, ◌+◌, ◌*◌, ◌/◌, ◌<◌, ◌≤◌, true, false, List, ◌∷◌, ◌++◌, ◌≡◌, length, get_or, Ok}
use Rattle.words.specs.Bytes.{AllBytes, byte_at}
use Rattle.kinds.specs.Ranges.{bit_in_both}
use Rattle.kinds.specs.Makers.{lio_of, ht_of, eio_of, msi_of, bio_of, lpc_of}
use Rattle.kinds.specs.Used.{no_half, no_lio, no_ht, no_eio, no_bio, no_msi, no_lpc, said_lio}
use Rattle.parts.specs.Inputs.{input_for}
use Rattle.lines.specs.Says.{says, Same}
use Rattle.lines.specs.Rules.{too_many, both_kinds, ranges_kept}
use Rattle.lines.specs.declared.Map.{Map}
use Rattle.lines.specs.declared.Places.{Places}
use Rattle.madt.specs.Pieces.{Whole, pieces, structures}
use Rattle.madt.specs.Rules.{is_type}
use Rattle.madt.specs.Contents.{how_many, bridge_of}
use Rattle.madt.specs.Walk.{walked}
use Rattle.map_promises.specs.Structures.{Placed}

-- ---- "The map holds the used fields of LIO, EIO, BIO, MSI and LPC, in table order", and those of an HT
-- Let the structures of a MADT, which stands at `base`, be some, then x, then others. What x makes stands in the map behind what those
-- of its kind before it make, and its place beside it. A BIO has as many inputs as `pins` tells of its hardware ID.
pub record InTableOrder (base : ℕ) (pins : ℕ → ℕ) (all : List Whole) (map : Map) (places : Places) : Type 0 where
  pub lio : (before later : List Whole) (x : Whole) → all ≡ before ++ (x ∷ later) → is_type 18 x.bytes ≡ true
      → (map.lio ≡ said_lio (lio_of x.bytes)) × (places.lio ≡ base + x.at)
  pub ht : (before later : List Whole) (x : Whole) → all ≡ before ++ (x ∷ later) → is_type 19 x.bytes ≡ true
      → (map.ht ≡ ht_of x.bytes) × (places.ht ≡ base + x.at)
  pub eio : (before later : List Whole) (x : Whole) → all ≡ before ++ (x ∷ later) → is_type 20 x.bytes ≡ true
      → (get_or map.eios (how_many 20 before) no_eio ≡ eio_of x.bytes) × (get_or places.eios (how_many 20 before) 0 ≡ base + x.at)
  pub msi : (before later : List Whole) (x : Whole) → all ≡ before ++ (x ∷ later) → is_type 21 x.bytes ≡ true
      → (get_or map.msis (how_many 21 before) no_msi ≡ msi_of x.bytes) × (get_or places.msis (how_many 21 before) 0 ≡ base + x.at)
  pub bio : (before later : List Whole) (x : Whole) → all ≡ before ++ (x ∷ later) → is_type 22 x.bytes ≡ true
      → (get_or map.bios (how_many 22 before) no_bio ≡ bridge_of pins x.bytes) × (get_or places.bios (how_many 22 before) 0 ≡ base + x.at)
  pub lpc : (before later : List Whole) (x : Whole) → all ≡ before ++ (x ∷ later) → is_type 23 x.bytes ≡ true
      → (map.lpc ≡ lpc_of x.bytes) × (places.lpc ≡ base + x.at)
  -- and nothing else does
  pub counts : (map.eiocount ≡ how_many 20 all) × (map.msicount ≡ how_many 21 all) × (map.biocount ≡ how_many 22 all)
  pub nolio : how_many 18 all ≡ 0 → map.lio ≡ no_lio
  pub noht : how_many 19 all ≡ 0 → map.ht ≡ no_ht
  pub nolpc : how_many 23 all ≡ 0 → map.lpc ≡ no_lpc

-- what the walk of a MADT finds, if it refuses nothing, is that
abbrev pub WalkInTableOrder : List ℕ → ℕ → ℕ → (ℕ → ℕ) → Type 0
WalkInTableOrder table base sci pins =
    (walked table base sci pins).verdict ≡ Ok tt
    → InTableOrder base pins (structures (pieces table 44)) (walked table base sci pins).found.map (walked table base sci pins).found.places

-- ---- "the node in address bits 44 to 47" (W-208 of document 02)
-- byte 8 of an LPC is the sixth of its base, with bits 40 to 47: the node is its upper half, and nothing else of the base is looked at
abbrev pub NodeOfBase : List ℕ → Type 0
NodeOfBase s = AllBytes s → (lpc_of s).node ≡ byte_at s 8 / 16

-- ---- "The map's BIO gets this count" (W-212 of document 02)
-- two ways to tell how many inputs the bridges with a hardware ID have agree on each BIO of some structures
abbrev pub SamePins : List Whole → (ℕ → ℕ) → (ℕ → ℕ) → Type 0
SamePins all pins other =
    (before later : List Whole) (x : Whole) → all ≡ before ++ (x ∷ later) → is_type 22 x.bytes ≡ true
    → pins (bio_of x.bytes).node ≡ other (bio_of x.bytes).node

-- then the walk finds the same: what is told of other hardware IDs changes nothing
abbrev pub OnlyItsBridges : List ℕ → ℕ → ℕ → (ℕ → ℕ) → (ℕ → ℕ) → Type 0
OnlyItsBridges table base sci pins other =
    SamePins (structures (pieces table 44)) pins other → walked table base sci pins ≡ walked table base sci other

-- ---- "eight cascade bytes at 13; byte n names the LIO input that HT vectors 32n to 32n + 31 go to" (W-201 of document 02)
-- what each byte is, and of which vectors
pub record BytesOfHt (s : List ℕ) : Type 0 where
  pub eight : length (ht_of s).bytes ≡ 8
  pub byte : (n : ℕ) → n < 8 → get_or (ht_of s).bytes n 0 ≡ byte_at s (13 + n)
  pub vectors : (n k : ℕ) → n < 8 → k < 32 → input_for (ht_of s) (32 * n + k) ≡ byte_at s (13 + n)

-- ---- "its unused places, an unused half's byte among them, hold 0": of the four places for EIO, BIO and MSI those past the count;
-- the byte of a half with mask 0; all that an absent LIO, HT or LPC would have
pub record Normal (map : Map) : Type 0 where
  pub foureios : length map.eios ≡ 4
  pub fourbios : length map.bios ≡ 4
  pub fourmsis : length map.msis ≡ 4
  pub eios : (i : ℕ) → map.eiocount ≤ i → get_or map.eios i no_eio ≡ no_eio
  pub bios : (i : ℕ) → map.biocount ≤ i → get_or map.bios i no_bio ≡ no_bio
  pub msis : (i : ℕ) → map.msicount ≤ i → get_or map.msis i no_msi ≡ no_msi
  pub low : map.lio.low.mask ≡ 0 → map.lio.low.cascade ≡ 0
  pub high : map.lio.high.mask ≡ 0 → map.lio.high.cascade ≡ 0
  pub nolio : map.lio.present ≡ false → (map.lio.low ≡ no_half) × (map.lio.high ≡ no_half)
  pub noht : map.ht.present ≡ false → map.ht ≡ no_ht
  pub nolpc : map.lpc.present ≡ false → map.lpc ≡ no_lpc

-- nothing that is unused was forgotten there: normal maps that are the same map are equal
abbrev pub NormalMapsEqual : Map → Map → Type 0
NormalMapsEqual map other = Normal map → Normal other → Same map other → map ≡ other

-- a map with the places of its structures: every structure has a place of its own, 71 to 78, 37, 38 and 34 are kept, every BIO has 1 to
-- 64 inputs, unused places hold 0
pub record WellKept (map : Map) (places : Places) : Type 0 where
  pub placed : Placed (says map) places
  pub ranges : ranges_kept (says map) ≡ true
  pub r37 : bit_in_both (says map).lio ≡ false
  pub r38 : too_many map ≡ false
  pub r34 : both_kinds (says map) ≡ false
  pub normal : Normal map

-- "number of inputs 1 to 64", which 7 holds the pairs of a capture to
abbrev pub PinsInRange : (ℕ → ℕ) → Type 0
PinsInRange pins = (id : ℕ) → (1 ≤ pins id) × (pins id ≤ 64)

-- the walk of a MADT that stands at `base`, if it refuses nothing, finds such a map, with the SCI number that it was given
abbrev pub WalkKeepsBooks : List ℕ → ℕ → ℕ → (ℕ → ℕ) → Type 0
WalkKeepsBooks table base sci pins =
    PinsInRange pins → (walked table base sci pins).verdict ≡ Ok tt
    → WellKept (walked table base sci pins).found.map (walked table base sci pins).found.places
    × ((walked table base sci pins).found.map.sci ≡ sci)
