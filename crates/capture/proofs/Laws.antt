-- Laws of the capture's definitions.
use mathlib.Core.Bool.{true, false, not, ◌&&◌, ◌||◌}
use mathlib.Core.Path.{◌≡◌, refl}
use mathlib.Core.List.{List}
use mathlib.Core.Logic.{⊎_elim}
use Prim.Native.Nat.{ℕ, zero, suc, ◌+◌, ◌-◌, ◌*◌, ◌^◌, ◌≤◌, ◌<◌}
use native.Mathlib.Nat.{eq-or-lt_of_le, le_of_suc-le-suc}
use native.Mathlib.Numerals.{add-one}
use native.Mathlib.Omega.{arith}
use lib.Dec.{eqb, ltb, leb}
use lib.ListN.{length}
use borrow.Author.Tests.{lt-ltb, le-ltb, ltb-true, ltb-false, leb-true}
use Rattle.words.proofs.Tests.{both_left, both_right, neither_left}
use Rattle.capture.specs.Fields.{version, segment_count, total_length, header_size, descriptor, descriptors_end, segment_address, segment_length, segment_end, has_address, segments, lengths, segment_place}
use Rattle.capture.specs.Rules.{wrong_total, empty_segment, ends_past_memory, end_before, starts_early, segment_broken, segment_rules}
use Rattle.capture.specs.Presence.{run_end, holds, place_in}
use Rattle.capture.specs.Reach.{reach_in, nowhere, reached}
use Rattle.words.specs.Bytes.{AllBytes}
use Rattle.words.specs.Lists.{first}
use Rattle.words.specs.Refusals.{refused, first_refusal}
use Rattle.words.proofs.Choices.{yes_if, no_if, if_cases}
use Rattle.words.proofs.Numbers.{number_small}
use Rattle.words.proofs.Verdicts.{first_in_turn}
use Rattle.std.specs.Prelude.{Ok, Err}

-- a header has 18 bytes, or 26
pub header_bounds : (version : ℕ) → (18 ≤ header_size version) × (header_size version ≤ 26)
unfolding header_size
header_bounds version =
    if_cases (λ (n : ℕ). (18 ≤ n) × (n ≤ 26)) (eqb version 2) 26 18 (λ t. (omega arith, omega arith)) (λ t. (omega arith, omega arith))

-- one segment more
pub lengths_next : (capture : List ℕ) (i : ℕ) → lengths capture (i + 1) ≡ lengths capture i + segment_length capture i
unfolding lengths
lengths_next capture i = rw add-one

-- a count has 8 bits
pub count_small : (capture : List ℕ) → AllBytes capture → segment_count capture < 256
unfolding segment_count
count_small capture bytes = bytes 5

-- a length has 32 bits
pub length_small : (capture : List ℕ) (i : ℕ) → AllBytes capture → segment_length capture i < 4294967296
unfolding segment_length
length_small capture i b = number_small 4 capture (descriptor capture i + 8) b

-- and n of them together are below n times 2^32
pub lengths_small : (capture : List ℕ) (n : ℕ) → AllBytes capture → lengths capture n ≤ 4294967296 * n
unfolding lengths
lengths_small capture zero b = omega arith
lengths_small capture (suc n) b = omega (arith, lengths_small capture n b, length_small capture n b)

-- where 5 is kept, the descriptors lie inside the capture
pub total_whole : (capture : List ℕ) → wrong_total capture ≡ false → descriptors_end capture ≤ length capture
unfolding wrong_total
total_whole capture h = ltb-false _ _ (neither_left _ _ (neither_left _ _ h))

-- 5, where they do not, and where they do
pub short_total : (capture : List ℕ) → length capture < descriptors_end capture → wrong_total capture ≡ true
unfolding wrong_total
short_total capture h = rw (lt-ltb (length capture) (descriptors_end capture) h)

pub whole_total : (capture : List ℕ) → descriptors_end capture ≤ length capture
    → wrong_total capture
    ≡ (not (eqb (total_length capture) (length capture))
    || not (eqb (descriptors_end capture + lengths capture (segment_count capture)) (length capture)))
unfolding wrong_total
whole_total capture h = rw (le-ltb (length capture) (descriptors_end capture) h)

-- where the segment before the next one ends
pub end_next : (capture : List ℕ) (i : ℕ) → end_before capture (i + 1) ≡ segment_end capture i
unfolding end_before
end_next capture i = rw add-one

-- 6 of a segment, by what its descriptor says and where the one before it ends
pub broken_told : (capture : List ℕ) (i : ℕ) {address size end : ℕ} → address ≡ segment_address capture i → size ≡ segment_length capture i
    → end ≡ end_before capture i → (eqb size 0 || ltb (2 ^ 64) (address + size) || ltb address end) ≡ segment_broken capture i
unfolding segment_broken empty_segment ends_past_memory starts_early
broken_told capture i begins long before = rw (begins, long, before)

-- a segment's bytes lie among those of the segments up to it
pub lengths_within : (capture : List ℕ) (i n : ℕ) → i < n → lengths capture i + segment_length capture i ≤ lengths capture n
unfolding lengths
lengths_within capture i zero h = absurd (omega arith)
lengths_within capture i (suc n) h =
    ⊎_elim (λ (e : i ≡ n). rw e (omega arith)) (λ (l : i < n). let r = lengths_within capture i n l in omega arith)
    (eq-or-lt_of_le (le_of_suc-le-suc h))

-- a stretch that a run holds starts and ends in it
pub holds_start : (capture : List ℕ) (address size i : ℕ) → holds capture address size i ≡ true → segment_address capture i ≤ address
unfolding holds
holds_start capture address size i h = leb-true (segment_address capture i) address (both_left _ (leb (address + size) (run_end capture i)) h)

pub holds_end : (capture : List ℕ) (address size i : ℕ) → holds capture address size i ≡ true → address + size ≤ run_end capture i
unfolding holds
holds_end capture address size i h = leb-true _ _ (both_right (leb (segment_address capture i) address) _ h)

-- an address that lies from a start to before an end; so that of a segment
pub between : (address start end : ℕ) → (leb start address && ltb address end) ≡ true → (start ≤ address) × (address < end)
between address start end h =
    (leb-true start address (both_left _ (ltb address end) h), ltb-true address end (both_right (leb start address) _ h))

pub has_bounds : (capture : List ℕ) (address i : ℕ) → has_address capture address i ≡ true
    → (segment_address capture i ≤ address) × (address < segment_end capture i)
unfolding has_address
has_bounds capture address i h = between address (segment_address capture i) (segment_end capture i) h

-- what a segment that has the address gives, by its descriptor, its place and the end of its run
pub reach_told : (capture : List ℕ) (address i : ℕ) {place start room : ℕ} → place ≡ segment_place capture i
    → start ≡ segment_address capture i → room ≡ run_end capture i - address
    → record { place = place + (address - start); room = room } ≡ reach_in capture address i
unfolding reach_in place_in
reach_told capture address i here begins left = rw (here, begins, left)

-- where the descriptors run past the end there is no room; elsewhere the segments are searched
pub reached_short : (capture : List ℕ) (address : ℕ) → length capture < descriptors_end capture → reached capture address ≡ nowhere
unfolding reached
reached_short capture address h = yes_if _ _ _ (lt-ltb (length capture) (descriptors_end capture) h)

pub reached_whole : (capture : List ℕ) (address : ℕ) → descriptors_end capture ≤ length capture
    → reached capture address ≡ first (has_address capture address) (reach_in capture address) nowhere (segments capture)
unfolding reached
reached_whole capture address h = no_if _ _ _ (le-ltb (length capture) (descriptors_end capture) h) refl

-- one segment more stands behind the one before it
pub place_next : (capture : List ℕ) (i : ℕ) → segment_place capture (i + 1) ≡ segment_place capture i + segment_length capture i
unfolding segment_place
place_next capture i = omega (arith, lengths_next capture i)

-- all places are behind the header
pub place_behind : (capture : List ℕ) (address i : ℕ) → 18 ≤ place_in capture address i
unfolding place_in segment_place descriptors_end descriptor
place_behind capture address i = omega (arith, (header_bounds (version capture)).0)

-- 6, as a search for the first broken segment
pub segments-first : (capture : List ℕ)
    → first_refusal (segment_rules capture) ≡ first (segment_broken capture) (λ i. Err (refused 6 (descriptor capture i))) (Ok tt) (segments capture)
unfolding segment_rules
segments-first capture = first_in_turn (segment_broken capture) 6 (descriptor capture) (segments capture)
