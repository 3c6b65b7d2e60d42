-- The text by the reading's answer, what an accepted reading tells of the processor list, and the room by its length.
use mathlib.Core.Path.{◌≡◌, refl, sym, ap, ◌∙◌}
use mathlib.Core.Bool.{true}
use mathlib.Core.List.{List, ◌++◌}
use Prim.Native.Nat.{ℕ, ◌*◌, ◌≤◌, ◌<◌}
use native.Mathlib.Nat.{zero-add}
use native.Mathlib.Omega.{arith}
use borrow.Author.Tests.{le-leb, lt-leb}
use lib.ListN.{length, length-append, take, drop}
use lib.Seq.{take_at, sets, sets-eq}
use Rattle.words.specs.declared.Refusal.{Refusal}
use Rattle.words.proofs.Choices.{yes_if, no_if}
use Rattle.capture.specs.Fields.{version}
use Rattle.tables.specs.declared.Strictness.TheVariants.{Strict}
use Rattle.words.specs.Rooms.{has_room, written, filled}
use Rattle.processors.specs.Listing.{processors, count}
use Rattle.processors.proofs.Filling.{twice_all, too_short, enough_room}
use Rattle.reading.specs.Scan.{scan}
use Rattle.reading.specs.Reading.{without_map, answered, madt_found, reading_of, list_after}
use Rattle.reading.specs.declared.Reading.{Reading}
use Rattle.reading.proofs.Laws.{answered_read}
use Rattle.words.specs.Refusals.{Verdict, unless}
use Rattle.words.proofs.Verdicts.{unless-refused, unless_sound}
use Rattle.text.specs.Lines.{refusal_line}
use Rattle.text.specs.Text.{map_text, text_of, outcome}
use Rattle.text.specs.Rooms.{lent}
use Rattle.words.specs.declared.NoRoom.{NoRoom}
use Rattle.text.proofs.Few.{list_long_enough}
use Rattle.std.specs.Prelude.{Result, Ok, Err}

-- one answer is not the other, and answers of one kind tell the same
not-read : {refusal : Refusal} {n : ℕ} {X : Type 0} → ◌≡◌ {A = Result ℕ Refusal} (Err refusal) (Ok n) → X
not-read e = absurd (let o : ◌≡◌ {A = ℕ} 0 1 = cc in omega arith)

same_count : {m n : ℕ} → ◌≡◌ {A = Result ℕ Refusal} (Ok m) (Ok n) → m ≡ n
same_count e = cc

same_refusal : {r refusal : Refusal} → ◌≡◌ {A = Result ℕ Refusal} (Err r) (Err refusal) → r ≡ refusal
same_refusal e = cc

-- what an accepted reading tells: of the map, and of the list that was lent to it
pub record Listed (capture : List ℕ) (n : ℕ) : Type 0 where
  pub sound : (scan Strict capture).verdict ≡ Ok tt
  pub map : (reading_of Strict capture lent).map ≡ (scan Strict capture).map
  pub few : 2 * n ≤ 512
  pub inside : 2 * n ≤ length (list_after Strict capture lent)
  pub front : take (2 * n) (list_after Strict capture lent) ≡ processors (madt_found Strict capture)

module _ (capture : List ℕ) where
  -- a sound capture is read: the list has room
  module _ (sound : (scan Strict capture).verdict ≡ Ok tt) where
    room : has_room (processors (madt_found Strict capture)) lent ≡ true
    unfolding has_room
    room = le-leb (length (processors (madt_found Strict capture))) 512 (list_long_enough capture sound)

    read : reading_of Strict capture lent ≡ record { answer = Ok (count (madt_found Strict capture)); map = (scan Strict capture).map }
    unfolding reading_of
    read = unless_sound _ _ _ sound ∙ answered_read _ _ _ room

    after : list_after Strict capture lent ≡ processors (madt_found Strict capture) ++ drop (length (processors (madt_found Strict capture))) lent
    unfolding list_after filled written
    after = unless_sound _ _ _ sound ∙ yes_if _ _ _ room

    sound-listed : {n : ℕ} → count (madt_found Strict capture) ≡ n → Listed capture n
    sound-listed {n} e =
        let entries = processors (madt_found Strict capture) in
        let two = twice_all (madt_found Strict capture) in
        let most = list_long_enough capture sound in
        let size = ap length after ∙ length-append entries (drop (length entries) lent) in
        record {
          sound = sound;
          map = ap (λ (r : Reading). r.map) read;
          few = omega arith;
          inside = omega arith;
          front = rw after (take_at entries (drop (length entries) lent) (2 * n) (omega arith));
        }

  answer-listed : {n : ℕ} → (reading_of Strict capture lent).answer ≡ Ok n → Listed capture n
  unfolding reading_of without_map
  answer-listed {n} h = by_verdict (scan Strict capture).verdict refl
    where
      by_verdict : (v : Verdict) → (scan Strict capture).verdict ≡ v → Listed capture n
      by_verdict (Ok tt) sound = sound-listed sound (same_count (sym (ap (λ (r : Reading). r.answer) (read sound)) ∙ h))
      by_verdict (Err refusal) refused = not-read (sym (ap (λ (r : Reading). r.answer) (unless-refused without_map _ (answered _ _ _) refused)) ∙ h)

  -- the text by the reading's answer
  text-refused : {refusal : Refusal} → (reading_of Strict capture lent).answer ≡ Err refusal → text_of capture ≡ refusal_line refusal
  unfolding reading_of text_of unless without_map
  text-refused {refusal} h = by_verdict (scan Strict capture).verdict refl
    where
      by_verdict : (v : Verdict) → (scan Strict capture).verdict ≡ v → text_of capture ≡ refusal_line refusal
      by_verdict (Ok tt) sound = not-read (sym h ∙ ap (λ (r : Reading). r.answer) (read sound))
      by_verdict (Err r) refused =
          rw (refused, same_refusal (sym (ap (λ (r : Reading). r.answer) (unless-refused without_map _ (answered _ _ _) refused)) ∙ h))

  text-read : {n : ℕ} → (reading_of Strict capture lent).answer ≡ Ok n
      → text_of capture ≡ map_text (version capture) (processors (madt_found Strict capture)) (reading_of Strict capture lent).map
  unfolding text_of unless
  text-read h = let l = answer-listed h in rw (l.sound, l.map)

-- of a value that is the capture's reading
module _ (capture : List ℕ) {reading : Reading} (e : reading ≡ reading_of Strict capture lent) where
  pub listed : {n : ℕ} → reading.answer ≡ Ok n → Listed capture n
  listed h = answer-listed capture (rw e at h)

  pub text-of-refusal : {refusal : Refusal} → reading.answer ≡ Err refusal → text_of capture ≡ refusal_line refusal
  text-of-refusal h = text-refused capture (rw e at h)

  -- what is written of a map is the capture's text
  pub text-of-map : {n v : ℕ} {list : List ℕ} → list ≡ list_after Strict capture lent → v ≡ version capture → reading.answer ≡ Ok n
      → map_text v (take (2 * n) list) reading.map ≡ text_of capture
  text-of-map g w h =
      let read = rw e at h in
      rw (e, g, w, (answer-listed capture read).front) (sym (text-read capture read))

-- ---- a room that is too short, and one that has room
module _ (text room : List ℕ) {n : ℕ} (e : n ≡ length text) where
  pub no_room : length room < n → (◌≡◌ {A = Result ℕ NoRoom} (Err (record {})) (outcome text room)) × (room ≡ filled text room)
  unfolding outcome has_room
  no_room h =
      let less : length room < length text = rw e at h in
      (sym (no_if _ _ _ (lt-leb (length text) (length room) less) refl), (too_short text room n less).1)

  pub has_room_lem : {room' : List ℕ} → n ≤ length room → room' ≡ sets room 0 text → (Ok n ≡ outcome text room) × (room' ≡ filled text room)
  unfolding outcome has_room written
  has_room_lem h g =
      let fits : length text ≤ length room = rw e at h in
      let all : sets room 0 text ≡ text ++ drop (length text) room = rw zero-add at (sets-eq text room 0 (omega arith)) in
      (ap Ok e ∙ sym (yes_if _ _ _ (le-leb (length text) (length room) fits)), (enough_room text room n fits refl (g ∙ all)).1)
