-- Refusals 1 to 7 and 10: of the capture itself, and of a RSDP that is not there.
use Prim.Native.Nat.{ℕ, ◌+◌, ◌≤◌}
use native.Mathlib.Omega.{arith}
use mathlib.Core.Path.{◌≡◌, refl}
use mathlib.Core.List.{List}
use mathlib.Core.Bool.{Bool, true, false, not, ◌||◌}
use borrow.Author.Tests.{ltb-false}
use lib.Dec.{eqb, ltb}
use lib.ListN.{length}
use Rattle.words.specs.Choice.{if}
use Rattle.words.specs.Lists.{numbers_below}
use Rattle.words.specs.Refusals.{refused, first_refusal}
use Rattle.words.proofs.Tests.{neither_left}
use Rattle.capture.specs.Fields.{version, segment_count, total_length, header_size, descriptor, descriptors_end, segments, lengths}
use Rattle.capture.specs.Rules.{wrong_size, wrong_total, segment_broken, segment_rules, container_rules, verdict}
use Rattle.capture.specs.Pairs.{pair_place, pairs_of, pair_broken, pair_rules}
use Rattle.capture.specs.Presence.{presence_rules}
use Rattle.capture.proofs.Laws.{header_bounds, segments-first}
use Rattle.capture.proofs.Pins.{empty_kept, pairs_first}
use Rattle.capture.proofs.Within.{sound_length}
use Rattle.promises.proofs.Told.{is_of_capture, is_of_tables, Told, tell, tell_none, none_told, rule_told, joined-told, search_told}
use Rattle.std.specs.Prelude.{Ok, Err}

-- where 5 is kept, the descriptors are inside the capture
descriptors_inside : (capture : List ℕ) → wrong_total capture ≡ false → descriptors_end capture ≤ length capture
unfolding wrong_total
descriptors_inside capture h =
    let past = ltb (length capture) (descriptors_end capture) in
    let length-wrong = not (eqb (total_length capture) (length capture)) in
    ltb-false (length capture) (descriptors_end capture)
    (neither_left past length-wrong
    (neither_left (past || length-wrong) (not (eqb (descriptors_end capture + lengths capture (segment_count capture)) (length capture))) h))

-- where 1 is kept, a header of version 2 is
long_head : (capture : List ℕ) → wrong_size capture ≡ false → eqb (version capture) 2 ≡ true → 26 ≤ length capture
unfolding wrong_size header_size if
long_head capture h two =
    let size : header_size (version capture) ≡ 26 = rw two in
    omega (arith, size, ltb-false (length capture) (header_size (version capture)) (neither_left _ (ltb 65536 (length capture)) h))

-- 6
segments-told : (capture : List ℕ) → wrong_total capture ≡ false → Told is_of_capture capture (first_refusal (segment_rules capture))
unfolding segments numbers_below descriptors_end descriptor
segments-told capture h =
    rw (segments-first capture)
    (search_told (Told is_of_capture capture) (segment_broken capture) (λ (i : ℕ). Err (refused 6 (descriptor capture i))) (Ok tt) 0 (segment_count capture)
    (λ i l below t. tell is_of_capture capture 6 (descriptor capture i) (refl, refl, refl, refl)
    (omega (arith, (header_bounds (version capture)).0), omega (arith, descriptors_inside capture h)))
    (omega arith))

-- 7: the pairs stand in the header of a capture that breaks none of 1 to 6
pairs_told : (capture : List ℕ) → wrong_size capture ≡ false → Told is_of_capture capture (first_refusal (pair_rules capture))
unfolding numbers_below
pairs_told capture h = go (eqb (version capture) 2) refl
  where
    go : (b : Bool) → eqb (version capture) 2 ≡ b → Told is_of_capture capture (first_refusal (pair_rules capture))
    go false other = rw (empty_kept capture other) (omega arith)
    go true two =
        rw (pairs_first capture)
        (search_told (Told is_of_capture capture) (pair_broken (pairs_of capture)) (λ (k : ℕ). Err (refused 7 (pair_place k))) (Ok tt) 0 4
        (λ k l below t. tell is_of_capture capture 7 (pair_place k) (refl, refl, refl, refl) (omega arith, omega (arith, long_head capture h two)))
        (omega arith))

-- 1 to 7
pub container_told : (capture : List ℕ) → Told is_of_capture capture (first_refusal (container_rules capture))
unfolding container_rules
container_told capture =
    rule_told is_of_capture capture _ 1 0 _ (tell_none capture 1 (refl, refl, refl), refl)
    (λ long. rule_told is_of_capture capture _ 2 0 _ (tell_none capture 2 (refl, refl, refl), refl)
    (λ t. rule_told is_of_capture capture _ 3 0 _ (tell_none capture 3 (refl, refl, refl), refl)
    (λ t. rule_told is_of_capture capture _ 4 0 _ (tell_none capture 4 (refl, refl, refl), refl)
    (λ t. rule_told is_of_capture capture _ 5 0 _ (tell_none capture 5 (refl, refl, refl), refl)
    (λ t. joined-told is_of_capture capture (segment_rules capture) (pair_rules capture) (segments-told capture t) (λ sound. pairs_told capture long))))))

-- 10
pub presence_told : (capture : List ℕ) → verdict capture ≡ Ok tt → Told is_of_tables capture (first_refusal (presence_rules capture))
unfolding presence_rules descriptors_end descriptor
presence_told capture sound =
    rule_told is_of_tables capture _ 10 10 _ (tell is_of_tables capture 10 10 (refl, refl, refl, refl) (omega arith, omega (arith, sound_length capture sound, (header_bounds (version capture)).0))) (λ t. none_told is_of_tables capture)
