-- What presence means, byte by byte: W-206 of document 02 said without runs of segments, and what it changed. Each statement stands
-- alone and holds of every sound capture, `BytesInOrder` and `OnlyByTouching` of any bytes; proofs/Memory.antt and proofs/Apart.antt
-- have a theorem for each.
use Rattle.std.specs.Prelude.{ℕ, ◌+◌, ◌<◌, Bool, true, false, ◌&&◌, List, ◌≡◌, leb}
use Rattle.words.specs.Lists.{first}
use Rattle.capture.specs.Fields.{segment_count, segment_address, segment_end, has_address, segments}
use Rattle.capture.specs.Presence.{Stretch, Present, Absent, is_present, goes_on, place_in, located}

-- the byte of memory at an address stands at a place of the capture: among the bytes of a segment that has the address
pub record Stands (capture : List ℕ) (address place : ℕ) : Type 0 where
  pub segment : ℕ
  pub counted : segment < segment_count capture
  pub has : has_address capture address segment ≡ true
  pub there : place_in capture address segment ≡ place

-- a byte of memory stands at one place
abbrev pub OnePlace : List ℕ → Type 0
OnePlace capture = (address place other : ℕ) → Stands capture address place → Stands capture address other → place ≡ other

-- byte k of a stretch that is present stands k after its place
abbrev pub BytesInOrder : List ℕ → Type 0
BytesInOrder capture =
    (address size place : ℕ) → located capture address size ≡ Present place → (k : ℕ) → k < size → Stands capture (address + k) (place + k)

-- each address of a stretch lies in some segment
abbrev pub EveryByte : List ℕ → ℕ → ℕ → Type 0
EveryByte capture address size = (k : ℕ) → k < size → (place : ℕ) × Stands capture (address + k) place

-- a stretch of at least one byte is present exactly if this is so
abbrev pub PresentExactly : List ℕ → Type 0
PresentExactly capture =
    (address size : ℕ) → 0 < size
    → (is_present (located capture address size) ≡ true → EveryByte capture address size)
    × (EveryByte capture address size → is_present (located capture address size) ≡ true)

-- no segment has an address
abbrev pub Missing : List ℕ → ℕ → Type 0
Missing capture address = (i : ℕ) → i < segment_count capture → has_address capture address i ≡ false

-- and some byte of a stretch that is absent is missing
abbrev pub AbsentMisses : List ℕ → Type 0
AbsentMisses capture =
    (address size : ℕ) → 0 < size → located capture address size ≡ Absent → (k : ℕ) × (k < size) × Missing capture (address + k)

-- ---- What W-206 changed
-- document 01, before it: "A stretch of memory is present if it lies wholly inside one segment."
unfoldable pub inside_one : List ℕ → ℕ → ℕ → ℕ → Bool
inside_one capture address size i = leb (segment_address capture i) address && leb (address + size) (segment_end capture i)

unfoldable pub located_in_one : List ℕ → ℕ → ℕ → Stretch
located_in_one capture address size =
    first (inside_one capture address size) (λ i. Present (place_in capture address i)) Absent (segments capture)

-- what was present is present, at the same place
abbrev pub StillPresent : List ℕ → Type 0
StillPresent capture =
    (address size place : ℕ) → 0 < size → located_in_one capture address size ≡ Present place → located capture address size ≡ Present place

-- where no two segments touch, nothing changed
abbrev pub OnlyByTouching : List ℕ → Type 0
OnlyByTouching capture =
    ((i : ℕ) → goes_on capture i ≡ false) → (address size : ℕ) → located capture address size ≡ located_in_one capture address size
