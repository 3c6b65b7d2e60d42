-- In a sound capture the room at an address says which stretches from there are present: the theorems `room_present` and
-- `room_absent`. Segments share no byte, so only one of them has the address; and the byte behind the room is missing.
use mathlib.Core.Bool.{true, true≢false}
use mathlib.Core.List.{List}
use mathlib.Core.Path.{◌≡◌, refl, sym, ap, ◌∙◌}
use Prim.Native.Nat.{ℕ, zero, suc, ◌+◌, ◌-◌, ◌≤◌, ◌<◌}
use native.Mathlib.Nat.{add-zero}
use native.Mathlib.Omega.{arith}
use borrow.Author.Tests.{le-leb}
use Rattle.words.specs.Lists.{first, numbers_below}
use Rattle.words.specs.Choice.{if}
use Rattle.words.specs.Refusals.{refused, unless, first_refusal}
use Rattle.words.proofs.Searches.{Hit, search_found, search_none}
use Rattle.words.proofs.Tests.{fails}
use Rattle.capture.specs.Fields.{segment_count, rsdp_address, segment_address, has_address, segments}
use Rattle.capture.specs.Presence.{Stretch, Present, Absent, run_end, holds, place_in, is_present, place_of, located, rsdp_size, rsdp_stretch, presence_rules, rsdp_place}
use Rattle.capture.specs.Reach.{reach_in, nowhere, reached}
use Rattle.capture.specs.Memory.{Stands, Missing}
use Rattle.capture.specs.declared.Reach.{Reach}
use Rattle.capture.proofs.Laws.{holds_start, holds_end, has_bounds, reached_whole, place_behind}
use Rattle.capture.proofs.Runs.{run_reaches, covered}
use Rattle.capture.proofs.Within.{Sound, sound_length, located_held, within_small}
use Rattle.capture.proofs.Apart.{one_segment, first_byte, one_byte, run_missing}
use Rattle.std.specs.Prelude.{Result, Ok, Err}
use Rattle.words.specs.declared.Refusal.{Refusal}

module _ (capture : List ℕ) (sound : Sound capture) (address : ℕ) where
  -- the descriptors of a sound capture lie inside it, so that its segments are searched
  searched : reached capture address ≡ first (has_address capture address) (reach_in capture address) nowhere (segments capture)
  searched = reached_whole capture address (omega (arith, sound_length capture sound))

  -- a segment that has the address
  abbrev Found : Type 0
  Found = Hit (has_address capture address) (reach_in capture address) (reached capture address) 0 (segment_count capture)

  -- is found unless the search ends without an answer
  found : (nowhere ≡ reached capture address → ⊥) → Found
  unfolding segments numbers_below
  found answered =
      search_found (has_address capture address) (reach_in capture address) nowhere (reached capture address) 0 (segment_count capture)
      (segment_count capture)
      (omega arith)
      (sym searched)
      answered

  -- as it does not where there is room
  has_room : 0 < (reached capture address).room → Found
  has_room some = found (λ e. let empty : 0 ≡ (reached capture address).room = ap (λ (r : Reach). r.room) e in omega arith)

  -- nor where a segment has it: it ends at that segment
  reached_in : (i : ℕ) → i < segment_count capture → has_address capture address i ≡ true → reached capture address ≡ reach_in capture address i
  unfolding reach_in segments numbers_below
  reached_in i counted has = sym hit.told ∙ ap (reach_in capture address) (one_segment capture sound address hit.at i hit.counted counted hit.taken has)
    where
      -- an answer has a place
      missed : nowhere ≡ reached capture address → ⊥
      missed e =
          let left =
          search_none (has_address capture address) (reach_in capture address) nowhere nowhere 0 (segment_count capture) i (sym searched ∙ sym e)
          (λ k t g. let start : place_in capture address k ≡ 0 = ap (λ (r : Reach). r.place) g in omega (arith, place_behind capture address k))
          (omega arith)
          (omega arith)
          in
          true≢false (sym has ∙ left)

      hit : Found
      hit = found missed

  room_in : (i : ℕ) → i < segment_count capture → has_address capture address i ≡ true → (reached capture address).room ≡ run_end capture i - address
  unfolding reach_in
  room_in i counted has = ap (λ (r : Reach). r.room) (reached_in i counted has)

  -- a stretch from the address to the end of its run at most is held by that run
  held : (size i : ℕ) → has_address capture address i ≡ true → address + size ≤ run_end capture i → holds capture address size i ≡ true
  unfolding holds
  held size i has fits =
      rw (le-leb (segment_address capture i) address (has_bounds capture address i has).0, le-leb (address + size) (run_end capture i) fits)

  -- and so is not absent
  not_absent : (size i : ℕ) → i < segment_count capture → holds capture address size i ≡ true → located capture address size ≡ Absent → ⊥
  unfolding located segments numbers_below
  not_absent size i counted taken e =
      let left =
      search_none (holds capture address size) (λ (k : ℕ). Present (place_in capture address k)) Absent Absent 0 (segment_count capture) i e
      (λ k t g. let z : ◌≡◌ {A = ℕ} 0 1 = cc in omega arith)
      (omega arith)
      (omega arith)
      in
      true≢false (sym taken ∙ left)

  -- but present at the address's place
  pub located_in : (size i : ℕ) → i < segment_count capture → has_address capture address i ≡ true → 0 < size → address + size ≤ run_end capture i
      → located capture address size ≡ Present (place_in capture address i)
  located_in size i counted has some fits = go (located capture address size) refl
    where
      here : Stands capture address (place_in capture address i)
      here = record { segment = i; counted = counted; has = has; there = refl }

      go : (s : Stretch) → located capture address size ≡ s → located capture address size ≡ Present (place_in capture address i)
      go Absent e = absurd (not_absent size i counted (held size i has fits) e)
      go (Present place) e = e ∙ ap Present (one_byte capture sound address place _ (first_byte capture address size place some e) here)

  -- one of at least a byte that fits in the room is
  pub room_present : (size : ℕ) → 0 < size → size ≤ (reached capture address).room
      → located capture address size ≡ Present (reached capture address).place
  unfolding reach_in
  room_present size some fits =
      let h = has_room (omega arith) in
      let room : run_end capture h.at - address ≡ (reached capture address).room = ap (λ (r : Reach). r.room) h.told in
      let place : place_in capture address h.at ≡ (reached capture address).place = ap (λ (r : Reach). r.place) h.told in
      located_in size h.at h.counted h.taken some (omega arith) ∙ ap Present place

  -- what is present fits in the room
  present_fits : (size place : ℕ) → 0 < size → located capture address size ≡ Present place → size ≤ (reached capture address).room
  present_fits size place some e =
      let h = located_held capture address size place e in
      let low = holds_start capture address size h.at h.taken in
      let high = holds_end capture address size h.at h.taken in
      let c = covered capture address h.at h.counted low (omega arith) in
      let run = c.run in
      omega (arith, room_in c.at c.counted c.has)

  -- so one that does not fit is absent
  pub room_absent : (size : ℕ) → (reached capture address).room < size → located capture address size ≡ Absent
  room_absent size short = go (located capture address size) refl
    where
      go : (s : Stretch) → located capture address size ≡ s → located capture address size ≡ Absent
      go Absent e = e
      go (Present place) e = absurd (let fits = present_fits size place (omega arith) e in omega arith)

  -- the byte behind the room is missing
  pub room_missing : Missing capture (address + (reached capture address).room)
  room_missing = go (reached capture address).room refl
    where
      -- no segment has an address that has no room
      without : (reached capture address).room ≡ 0 → Missing capture address
      without e i counted =
          fails (has_address capture address i)
          (λ has. omega (arith, has_bounds capture address i has, room_in i counted has, run_reaches capture i counted))

      go : (room : ℕ) → (reached capture address).room ≡ room → Missing capture (address + (reached capture address).room)
      go zero e = rw (e, add-zero address) (without e)
      go (suc room) e =
          let h = has_room (omega arith) in
          let b = has_bounds capture address h.at h.taken in
          let ends : address + (reached capture address).room ≡ run_end capture h.at =
          omega (arith, room_in h.at h.counted h.taken, run_reaches capture h.at h.counted)
          in
          rw ends (run_missing capture sound h.at h.counted)

-- the answers for the RSDP, by the room at its address
module _ (capture : List ℕ) (sound : Sound capture) {reach : Reach} (h : reach ≡ reached capture (rsdp_address capture)) where
  rsdp_there : rsdp_size ≤ reach.room → located capture (rsdp_address capture) rsdp_size ≡ Present reach.place
  rsdp_there fits = rw h (room_present capture sound (rsdp_address capture) rsdp_size (omega arith) (rw h at fits))

  abbrev answer : Result ℕ Refusal
  answer = unless Err (first_refusal (presence_rules capture)) (Ok (rsdp_place capture))

  pub rsdp_present : rsdp_size ≤ reach.room → answer ≡ Ok reach.place
  unfolding presence_rules rsdp_place rsdp_stretch is_present place_of first_refusal unless if
  rsdp_present fits = rw (rsdp_there fits)

  pub rsdp_absent : reach.room < rsdp_size → answer ≡ Err (refused 10 10)
  unfolding presence_rules rsdp_stretch is_present first_refusal unless if
  rsdp_absent short = rw (room_absent capture sound (rsdp_address capture) rsdp_size (rw h at short))

  -- its place has 16 bits
  pub rsdp_small : rsdp_size ≤ reach.room → reach.place < 65536
  rsdp_small fits = omega (arith, within_small capture (rsdp_address capture) rsdp_size reach.place sound (rsdp_there fits))
