-- What presence means, byte by byte, and what W-206 of document 02 changed: a theorem for each statement of specs/Memory, of which
-- `bytes_in_order` and `one_byte` are in Apart.
use mathlib.Core.Bool.{Bool, true, false, true≢false}
use mathlib.Core.List.{List}
use mathlib.Core.Path.{◌≡◌, refl, sym, ◌∙◌}
use Prim.Native.Nat.{ℕ, ◌+◌, ◌≤◌, ◌<◌}
use native.Mathlib.Omega.{arith}
use lib.Dec.{ltb, leb}
use borrow.Author.Tests.{ltb-true, ltb-false, leb-true}
use Rattle.words.specs.Lists.{numbers_below}
use Rattle.words.proofs.Searches.{search_found, first_same}
use Rattle.words.proofs.Tests.{both_left, both_right}
use Rattle.capture.specs.Fields.{segment_count, segment_address, segment_end, segments}
use Rattle.capture.specs.Presence.{Stretch, Present, Absent, is_present, holds, place_in, located}
use Rattle.capture.specs.Reach.{reached}
use Rattle.capture.specs.Memory.{EveryByte, PresentExactly, AbsentMisses, inside_one, located_in_one, StillPresent, OnlyByTouching}
use Rattle.capture.proofs.Runs.{had, run_last, run_reaches}
use Rattle.capture.proofs.Within.{Sound, present_at}
use Rattle.capture.proofs.Apart.{bytes_in_order}
use Rattle.capture.proofs.Room.{located_in, room_present, room_missing}

module _ (capture : List ℕ) (sound : Sound capture) where
  -- the byte behind the room is missing, and the stretch does not fit in the room
  pub absent_misses : AbsentMisses capture
  absent_misses address size some h = ((reached capture address).room, go (ltb (reached capture address).room size) refl, room_missing capture sound address)
    where
      go : (b : Bool) → ltb (reached capture address).room size ≡ b → (reached capture address).room < size
      go true e = ltb-true _ _ e
      go false e =
          let there = room_present capture sound address size some (ltb-false _ _ e) in
          absurd (let z : ◌≡◌ {A = ℕ} 0 1 = cc in omega arith)

  pub present_exactly : PresentExactly capture
  unfolding is_present
  present_exactly address size some = (every, λ all. go (located capture address size) refl all)
    where
      every : is_present (located capture address size) ≡ true → EveryByte capture address size
      every h k inside = (_, bytes_in_order capture address size _ (present_at (located capture address size) h) k inside)

      go : (s : Stretch) → located capture address size ≡ s → EveryByte capture address size → is_present (located capture address size) ≡ true
      go (Present place) e all = rw e
      go Absent e all =
          let missed = absent_misses address size some e in
          let stands = (all missed.0 missed.1).1 in
          absurd (true≢false (sym stands.has ∙ missed.2 stands.segment stands.counted))

  -- the segment that had it is in the capture still, and its run reaches as far
  pub still_present : StillPresent capture
  unfolding located_in_one inside_one segments numbers_below
  still_present address size place some h =
      let s =
      search_found (inside_one capture address size) (λ (i : ℕ). Present (place_in capture address i)) Absent (Present place) 0 (segment_count capture)
      (segment_count capture)
      (omega arith)
      h
      (λ e. let z : ◌≡◌ {A = ℕ} 0 1 = cc in omega arith)
      in
      let low : segment_address capture s.at ≤ address = leb-true _ _ (both_left _ (leb (address + size) (segment_end capture s.at)) s.taken) in
      let high : address + size ≤ segment_end capture s.at = leb-true _ _ (both_right (leb (segment_address capture s.at) address) _ s.taken) in
      located_in capture sound address size s.at s.counted (had capture address s.at low (omega arith)) some
      (omega (arith, run_reaches capture s.at s.counted))
      ∙ s.told

-- a run of one segment ends where that does
pub only_by_touching : (capture : List ℕ) → OnlyByTouching capture
unfolding located located_in_one holds inside_one segments numbers_below
only_by_touching capture apart address size =
    first_same _ _ _ _ 0 (segment_count capture) (λ i low counted. rw (run_last capture i (omega arith) (apart i)))
