-- The descriptors of a capture: of each segment there is one, of 12 bytes, and what is read in it is the segment's address and length.
use Rattle.std.proofs.Common.{◌≡◌, ℕ, zero, suc, ◌+◌, ◌*◌, ◌≤◌, ◌<◌, List, [], ◌∷◌, map, length, take, drop, get_or, refl, ap, ◌∙◌, add-zero, suc-add, zero-add, ◌-◌, arith, get_or-drop, length-drop}
use Rattle.std.proofs.lemmas.List.{drop-take, drop-drop}
use Rattle.std.specs.Simd.{first_chunks}
use Rattle.words.specs.Bytes.{AllBytes, number_at, part_at}
use Rattle.words.specs.Lists.{numbers_from, numbers_below}
use Rattle.words.proofs.Counted.{length-made, made_at}
use Rattle.words.proofs.Numbers.{number_take, number_drop}
use Rattle.capture.specs.Fields.{version, segment_count, descriptor, descriptors, segment_address, segment_length}
use Rattle.capture.proofs.Laws.{count_small, header_bounds}

-- a descriptor's place has 16 bits
pub descriptor_small : (capture : List ℕ) (i : ℕ) → AllBytes capture → i ≤ segment_count capture → descriptor capture i + 12 < 65536
unfolding descriptor
descriptor_small capture i bytes counted = omega (arith, count_small capture bytes, (header_bounds (version capture)).1)

-- the places follow one another
pub descriptor_on : (capture : List ℕ) (i : ℕ) {start : ℕ} → start ≡ descriptor capture 0 → start + 12 * i ≡ descriptor capture i
unfolding descriptor
descriptor_on capture i first = omega (arith, first)

-- ---- the part of a capture that has them, in pieces of 12 bytes
take_within : (n m : ℕ) (bytes : List ℕ) → take n (take (n + m) bytes) ≡ take n bytes
take_within zero m bytes = refl
take_within (suc n) m [] = rw suc-add refl
take_within (suc n) m (x ∷ xs) = rw suc-add (ap (λ l. x ∷ l) (take_within n m xs))

pieces : (bytes : List ℕ) (start from k : ℕ)
    → first_chunks 12 k (take (12 * k) (drop (start + 12 * from) bytes)) ≡ map (λ i. part_at bytes (start + 12 * i) 12) (numbers_from from k)
unfolding numbers_from
pieces bytes start from zero = refl
pieces bytes start from (suc k) =
    let size : 12 * suc k ≡ 12 + 12 * k = omega arith in
    let on : start + 12 * from + 12 ≡ start + 12 * (from + 1) = omega arith in
    rw (size, take_within 12 (12 * k), drop-take 12 (12 * k), drop-drop 12 (start + 12 * from) bytes, on, pieces bytes start (from + 1) k) refl

pub in_pieces : (capture part : List ℕ) → part ≡ part_at capture (descriptor capture 0) (12 * segment_count capture)
    → first_chunks 12 (segment_count capture) part ≡ descriptors capture
unfolding descriptors descriptor numbers_below
in_pieces capture part is = rw is (pieces capture _ 0 (segment_count capture))

-- ---- one for each segment
there : (capture : List ℕ) (i : ℕ) (none : List ℕ) → i < segment_count capture → get_or (descriptors capture) i none ≡ part_at capture (descriptor capture i) 12
unfolding descriptors numbers_below
there capture i none counted =
    made_at _ 0 (segment_count capture) i none counted ∙ ap (λ j. part_at capture (descriptor capture j) 12) (zero-add i)

module _ (capture : List ℕ) {all : List (List ℕ)} (are : all ≡ descriptors capture) where
  pub descriptors_count : length all ≡ segment_count capture
  unfolding descriptors numbers_below
  descriptors_count = ap length are ∙ length-made _ 0 (segment_count capture)

  read : (k at i : ℕ) (none : List ℕ) → i < segment_count capture → at + k ≤ 12 → number_at k (get_or all i none) at ≡ number_at k capture (descriptor capture i + at)
  read k at i none counted fits =
      ap (λ l. number_at k (get_or l i none) at) are
      ∙ rw (there capture i none counted) (number_take k _ 12 at fits ∙ number_drop k capture (descriptor capture i) at)

  -- what is read in that of segment i, and that there is such a segment
  pub segment_read : {address size : ℕ} (i : ℕ) (none : List ℕ) → i < length all
      → (address ≡ number_at 8 (get_or all i none) 0) × (size ≡ number_at 4 (get_or all i none) 8)
      → (address ≡ segment_address capture i) × (size ≡ segment_length capture i) × (i < segment_count capture)
  unfolding segment_address segment_length
  segment_read i none inside said =
      let counted : i < segment_count capture = omega (arith, descriptors_count) in (
        said.0 ∙ read 8 0 i none counted (omega arith) ∙ ap (number_at 8 capture) (add-zero _),
        said.1 ∙ read 4 8 i none counted (omega arith),
        counted,
      )

-- the same of those behind segment i
pub later_read : (capture : List ℕ) {later : List (List ℕ)} (i : ℕ) → later ≡ drop (i + 1) (descriptors capture)
    → {address size : ℕ} (k : ℕ) (none : List ℕ) → k < length later
    → (address ≡ number_at 8 (get_or later k none) 0) × (size ≡ number_at 4 (get_or later k none) 8)
    → (address ≡ segment_address capture (i + 1 + k)) × (size ≡ segment_length capture (i + 1 + k)) × (i + 1 + k < segment_count capture)
later_read capture i are k none inside said =
    let here = ap (λ l. get_or l k none) are ∙ get_or-drop (i + 1) (descriptors capture) k none in
    segment_read capture refl (i + 1 + k) none (omega (arith, ap length are, length-drop (i + 1) (descriptors capture)))
    (said.0 ∙ ap (λ d. number_at 8 d 0) here, said.1 ∙ ap (λ d. number_at 4 d 8) here)

pub later_count : (capture : List ℕ) {later : List (List ℕ)} (i : ℕ) → later ≡ drop (i + 1) (descriptors capture) → length later ≡ segment_count capture - (i + 1)
later_count capture i are = omega (arith, ap length are, length-drop (i + 1) (descriptors capture), descriptors_count capture refl)
