-- Document 01, "The capture", and W-212 of document 02: what stands where.
use Rattle.std.specs.Prelude.{ℕ, zero, suc, ◌+◌, ◌*◌, Bool, ◌&&◌, List, map, eqb, ltb, leb}
use Rattle.words.specs.Bytes.{byte_at, number_at, part_at}
use Rattle.words.specs.Choice.{if}
use Rattle.words.specs.Lists.{numbers_below}

-- "3 version, 16 bits"
unfoldable pub version : List ℕ → ℕ
version capture = number_at 2 capture 3

-- "5 segment count n, one byte"
unfoldable pub segment_count : List ℕ → ℕ
segment_count capture = byte_at capture 5

-- "6 total length, 32 bits"
unfoldable pub total_length : List ℕ → ℕ
total_length capture = number_at 4 capture 6

-- "10 RSDP address, 64 bits"
unfoldable pub rsdp_address : List ℕ → ℕ
rsdp_address capture = number_at 8 capture 10

-- "18 n descriptors", or by W-212 of document 02 "descriptors from 26" in version 2: the size of the header ahead of them
unfoldable pub header_size : ℕ → ℕ
header_size version = if (eqb version 2) 26 18

-- "n descriptors of 12 bytes": the place of descriptor i
unfoldable pub descriptor : List ℕ → ℕ → ℕ
descriptor capture i = header_size (version capture) + 12 * i

-- "18 + 12n", or "26 + 12n": where the descriptors end
unfoldable pub descriptors_end : List ℕ → ℕ
descriptors_end capture = descriptor capture (segment_count capture)

-- the descriptors, in their order
unfoldable pub descriptors : List ℕ → List (List ℕ)
descriptors capture = map (λ i. part_at capture (descriptor capture i) 12) (numbers_below (segment_count capture))

-- a descriptor's "address 64 bits"
unfoldable pub segment_address : List ℕ → ℕ → ℕ
segment_address capture i = number_at 8 capture (descriptor capture i)

-- and its "length 32 bits"
unfoldable pub segment_length : List ℕ → ℕ → ℕ
segment_length capture i = number_at 4 capture (descriptor capture i + 8)

-- the end of segment i: the address behind its last byte
abbrev pub segment_end : List ℕ → ℕ → ℕ
segment_end capture i = segment_address capture i + segment_length capture i

-- segment i has the byte of memory at an address
unfoldable pub has_address : List ℕ → ℕ → ℕ → Bool
has_address capture address i = leb (segment_address capture i) address && ltb address (segment_end capture i)

-- the segments, by their number
unfoldable pub segments : List ℕ → List ℕ
segments capture = numbers_below (segment_count capture)

-- the lengths of the first i segments together, exactly
unfoldable pub lengths : List ℕ → ℕ → ℕ
lengths capture zero = 0
lengths capture (suc i) = lengths capture i + segment_length capture i

-- "Then the segments' bytes, in the same order": the place of segment i
unfoldable pub segment_place : List ℕ → ℕ → ℕ
segment_place capture i = descriptors_end capture + lengths capture i
