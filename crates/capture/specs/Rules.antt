-- Document 01, "The capture" and refusals 1 to 6, and 7 of W-212 of document 02: what a capture must keep, and which broken rule is
-- named.
use Rattle.std.specs.Prelude.{ℕ, zero, suc, ◌+◌, ◌^◌, Bool, not, ◌&&◌, ◌||◌, List, ◌∷◌, ◌++◌, map, eqb, ltb, length}
use Prim.Native.Char.{code}
use Rattle.words.specs.Bytes.{byte_at}
use Rattle.words.specs.Refusals.{Verdict, rule, first_refusal}
use Rattle.capture.specs.Fields.{version, segment_count, total_length, header_size, descriptor, descriptors_end, segment_address, segment_length, segment_end, segments, lengths}
use Rattle.capture.specs.Pairs.{pair_rules}

-- 1: "capture under 18 or over 65,536 bytes"; "under 26 bytes in version 2"
unfoldable pub wrong_size : List ℕ → Bool
wrong_size capture = ltb (length capture) (header_size (version capture)) || ltb 65536 (length capture)

-- 2: "Offset 0 the three letters `TBC`"
unfoldable pub wrong_mark : List ℕ → Bool
wrong_mark capture =
    not (eqb (byte_at capture 0) (code "T") && eqb (byte_at capture 1) (code "B") && eqb (byte_at capture 2) (code "C"))

-- 3: the version is "other than 1 or 2"
unfoldable pub wrong_version : List ℕ → Bool
wrong_version capture = not (eqb (version capture) 1 || eqb (version capture) 2)

-- 4: "segment count n, one byte, 1 to 16"
unfoldable pub wrong_count : List ℕ → Bool
wrong_count capture = eqb (segment_count capture) 0 || ltb 16 (segment_count capture)

-- 5: "descriptors past the end, or total length disagrees": it "equals the length handed in and 18 + 12n + the sum of the lengths";
-- "The total of a version 2 capture is 26 + 12n + the lengths."
unfoldable pub wrong_total : List ℕ → Bool
wrong_total capture =
    ltb (length capture) (descriptors_end capture)
    || not (eqb (total_length capture) (length capture))
    || not (eqb (descriptors_end capture + lengths capture (segment_count capture)) (length capture))

-- 6: "Segments are at least one byte long"
unfoldable pub empty_segment : List ℕ → ℕ → Bool
empty_segment capture i = eqb (segment_length capture i) 0

-- 6: "end at or below 2^64"
unfoldable pub ends_past_memory : List ℕ → ℕ → Bool
ends_past_memory capture i = ltb (2 ^ 64) (segment_end capture i)

-- the end of the segment before segment i; nothing ends before the first
unfoldable pub end_before : List ℕ → ℕ → ℕ
end_before capture zero = 0
end_before capture (suc i) = segment_end capture i

-- 6: "none starts before the end of the one before it"
unfoldable pub starts_early : List ℕ → ℕ → Bool
starts_early capture i = ltb (segment_address capture i) (end_before capture i)

-- 6: "a segment rule"
unfoldable pub segment_broken : List ℕ → ℕ → Bool
segment_broken capture i = empty_segment capture i || ends_past_memory capture i || starts_early capture i

-- 6, "segments are taken in turn": a broken one is named by its descriptor
unfoldable pub segment_rules : List ℕ → List Verdict
segment_rules capture = map (λ i. rule (segment_broken capture i) 6 (descriptor capture i)) (segments capture)

-- the order of refusals 1 to 7: "7, after 6"
unfoldable pub container_rules : List ℕ → List Verdict
container_rules capture =
    rule (wrong_size capture) 1 0
    ∷ rule (wrong_mark capture) 2 0
    ∷ rule (wrong_version capture) 3 0
    ∷ rule (wrong_count capture) 4 0
    ∷ rule (wrong_total capture) 5 0
    ∷ (segment_rules capture ++ pair_rules capture)

unfoldable pub verdict : List ℕ → Verdict
verdict capture = first_refusal (container_rules capture)
