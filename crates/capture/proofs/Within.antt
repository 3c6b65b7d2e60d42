-- What is located in a sound capture lies inside the capture: the theorem `within`, and what upper crates need beside it.
use mathlib.Core.Bool.{true, false, not, ◌||◌, true≢false}
use mathlib.Core.List.{List, ◌++◌}
use mathlib.Core.Path.{◌≡◌, refl, sym, ap, ◌∙◌}
use Prim.Native.Nat.{ℕ, ◌+◌, ◌≤◌}
use native.Mathlib.Omega.{arith}
use lib.Dec.{eqb, ltb}
use lib.ListN.{length}
use borrow.Author.Tests.{eqb-true, ltb-false, not-false}
use Rattle.words.specs.Lists.{numbers_below}
use Rattle.words.specs.Refusals.{Verdict, unless, first_refusal}
use Rattle.words.proofs.Searches.{Hit, search_found}
use Rattle.words.proofs.Tests.{neither_right}
use Rattle.words.proofs.Verdicts.{unless_sound, unless-told, first_sound, joined_kept, joined-refused, joined_sound}
use Rattle.capture.specs.Fields.{version, header_size, segment_count, total_length, rsdp_address, descriptors_end, lengths, segment_place, segments}
use Rattle.capture.specs.Rules.{wrong_size, wrong_total, segment_rules, container_rules, verdict}
use Rattle.capture.specs.Pairs.{pair_rules}
use Rattle.capture.specs.Presence.{Stretch, Present, Absent, is_present, place_of, holds, place_in, located, rsdp_size, rsdp_stretch, presence_rules, rsdp_place, rsdp}
use Rattle.capture.proofs.Laws.{holds_start, holds_end, place_behind}
use Rattle.capture.proofs.Runs.{run_fits}
use Rattle.std.specs.Prelude.{Result, Ok, Err}
use Rattle.words.specs.declared.Refusal.{Refusal}

-- a capture that no rule refuses
abbrev pub Sound : List ℕ → Type 0
Sound capture = verdict capture ≡ Ok tt

-- no rule of its list is broken
sound_size : (capture : List ℕ) → Sound capture → wrong_size capture ≡ false
unfolding verdict container_rules
sound_size capture h = (first_sound _ 1 0 _ h).0

-- what 5 says, and the segments and the pairs
sound_rest : (capture : List ℕ) → Sound capture
    → (wrong_total capture ≡ false) × (first_refusal (segment_rules capture ++ pair_rules capture) ≡ Ok tt)
unfolding verdict container_rules
sound_rest capture h =
    first_sound _ 5 0 _ (first_sound _ 4 0 _ (first_sound _ 3 0 _ (first_sound _ 2 0 _ (first_sound _ 1 0 _ h).1).1).1).1

pub sound_segments : (capture : List ℕ) → Sound capture → first_refusal (segment_rules capture) ≡ Ok tt
sound_segments capture h = (joined_kept (segment_rules capture) (pair_rules capture) (sound_rest capture h).1).0

pub sound_pairs : (capture : List ℕ) → Sound capture → first_refusal (pair_rules capture) ≡ Ok tt
sound_pairs capture h = (joined_kept (segment_rules capture) (pair_rules capture) (sound_rest capture h).1).1

-- a sound capture has at most 65,536 bytes
pub sound_small : (capture : List ℕ) → Sound capture → length capture ≤ 65536
unfolding wrong_size
sound_small capture h =
    ltb-false 65536 (length capture)
    (neither_right (ltb (length capture) (header_size (version capture))) _ (sound_size capture h))

-- its header, descriptors and segments are all of it
pub sound_length : (capture : List ℕ) → Sound capture → descriptors_end capture + lengths capture (segment_count capture) ≡ length capture
unfolding wrong_total
sound_length capture h =
    eqb-true _ _
    (not-false _
    (neither_right
    (ltb (length capture) (descriptors_end capture) || not (eqb (total_length capture) (length capture)))
    _
    (sound_rest capture h).0))

-- a stretch that was located is held by the run from one of the segments on
abbrev pub Held : List ℕ → ℕ → ℕ → ℕ → Type 0
Held capture address size place =
    Hit (holds capture address size) (λ (i : ℕ). Present (place_in capture address i)) (Present place) 0 (segment_count capture)

pub located_held : (capture : List ℕ) (address size place : ℕ) → located capture address size ≡ Present place → Held capture address size place
unfolding located segments numbers_below
located_held capture address size place h =
    search_found (holds capture address size) (λ (i : ℕ). Present (place_in capture address i)) Absent (Present place) 0
    (segment_count capture)
    (segment_count capture)
    (omega arith)
    h
    (λ e. let z : ◌≡◌ {A = ℕ} 0 1 = cc in omega arith)

pub held_place : (capture : List ℕ) (address size place : ℕ) (s : Held capture address size place) → place_in capture address s.at ≡ place
held_place capture address size place s = let told = s.told in cc

-- what is located in a sound capture lies inside it
pub within : (capture : List ℕ) (address size place : ℕ) → Sound capture → located capture address size ≡ Present place → place + size ≤ length capture
unfolding place_in segment_place
within capture address size place sound h =
    let s = located_held capture address size place h in
    let there = held_place capture address size place s in
    let whole = sound_length capture sound in
    let before = run_fits capture s.at s.counted in
    let start = holds_start capture address size s.at s.taken in
    let end = holds_end capture address size s.at s.taken in
    omega arith

-- and so ends at 65,536 at the latest
pub within_small : (capture : List ℕ) (address size place : ℕ) → Sound capture → located capture address size ≡ Present place → place + size ≤ 65536
within_small capture address size place sound h =
    let inside = within capture address size place sound h in
    let small = sound_small capture sound in
    omega arith

-- and behind the header
pub behind : (capture : List ℕ) (address size place : ℕ) → located capture address size ≡ Present place → 18 ≤ place
behind capture address size place h =
    let s = located_held capture address size place h in
    let there = held_place capture address size place s in
    omega (arith, place_behind capture address s.at)

-- a stretch that is present stands at its place, and so does the RSDP where 10 is kept
pub present_at : (s : Stretch) → is_present s ≡ true → s ≡ Present (place_of s)
unfolding is_present place_of
present_at (Present place) h = refl
present_at Absent h = absurd (true≢false (sym h))

pub rsdp_there : (capture : List ℕ) → first_refusal (presence_rules capture) ≡ Ok tt
    → located capture (rsdp_address capture) rsdp_size ≡ Present (rsdp_place capture)
unfolding presence_rules rsdp_place rsdp_stretch
rsdp_there capture h = present_at (located capture (rsdp_address capture) rsdp_size) (not-false _ (first_sound _ 10 10 _ h).0)

-- what the answer for the RSDP tells of the rules before it, and of the place
abbrev said : Result ℕ Refusal → Verdict
said (Ok place) = Ok tt
said (Err refusal) = Err refusal

pub root_told : (capture : List ℕ) {root : Result ℕ Refusal} → rsdp capture ≡ root → first_refusal (container_rules capture ++ presence_rules capture) ≡ said root
unfolding rsdp
root_told capture h = sym (unless-told Err said (λ r. refl) _ _ refl) ∙ ap said h

rsdp_kept : (capture : List ℕ) (place : ℕ) → rsdp capture ≡ Ok place → Sound capture × (first_refusal (presence_rules capture) ≡ Ok tt)
unfolding verdict
rsdp_kept capture place h = joined_kept (container_rules capture) (presence_rules capture) (root_told capture h)

-- the answer for the RSDP, by the verdict on the capture
pub rsdp-refused : (capture : List ℕ) {refusal : Refusal} → verdict capture ≡ Err refusal → rsdp capture ≡ Err refusal
unfolding verdict rsdp
rsdp-refused capture h = joined-refused Err (container_rules capture) (presence_rules capture) _ h

pub rsdp-sound : (capture : List ℕ) → Sound capture → rsdp capture ≡ unless Err (first_refusal (presence_rules capture)) (Ok (rsdp_place capture))
unfolding verdict rsdp
rsdp-sound capture h = joined_sound Err (container_rules capture) (presence_rules capture) _ h

pub rsdp-at : (capture : List ℕ) (place : ℕ) → rsdp capture ≡ Ok place → rsdp_place capture ≡ place
unfolding rsdp
rsdp-at capture place h =
    let at : Ok (rsdp_place capture) ≡ Ok place = sym (unless_sound Err _ _ (root_told capture h)) ∙ h in
    cc

-- where the RSDP was found, its bytes are all there
pub rsdp_within : (capture : List ℕ) (place : ℕ) → rsdp capture ≡ Ok place → place + rsdp_size ≤ length capture
rsdp_within capture place h =
    let kept = rsdp_kept capture place h in
    rw (← rsdp-at capture place h) (within capture (rsdp_address capture) rsdp_size (rsdp_place capture) kept.0 (rsdp_there capture kept.1))
