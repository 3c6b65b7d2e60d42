-- The C entry for the reading does what the reading does: its list is the reading's list as bytes, and its result is decoded in
-- one way.
use Prim.Native.Nat.{ℕ, zero, suc, ◌+◌, ◌*◌, ◌/◌, ◌%◌, ◌^◌, ◌<◌, ◌≤◌}
use native.Mathlib.Nat.{suc-add}
use native.Mathlib.Omega.{arith}
use mathlib.Core.Path.{◌≡◌, refl, ap, ap₂, ◌∙◌}
use mathlib.Core.Logic.{inl, inr}
use mathlib.Core.List.{List, [], ◌∷◌, ◌++◌}
use mathlib.Core.Bool.{Bool, true, false}
use borrow.Author.Tests.{leb-true, leb-false}
use lib.ListN.{length, drop}
use Rattle.words.specs.Bytes.{number_at}
use Rattle.words.specs.Choice.{if}
use Rattle.words.specs.Refusals.{Verdict, refused, unless}
use Rattle.words.proofs.Numbers.{number_past}
use Rattle.words.proofs.Choices.{yes_if, no_if}
use Rattle.words.proofs.Verdicts.{unless-refused, unless_sound}
use Rattle.tables.specs.declared.Strictness.TheVariants.{Strict}
use Rattle.lines.specs.Answers.{refusal_code}
use Rattle.processors.specs.Image.{four_bytes, image}
use Rattle.words.specs.Rooms.{has_room, written, filled}
use Rattle.processors.specs.Listing.{processors, count}
use Rattle.processors.proofs.Image.{eight_each, room_image, filled-image}
use Rattle.reading.specs.Scan.{madt_bytes, scan}
use Rattle.reading.specs.Reading.{without_map, answered, madt_found, reading_of, list_after}
use Rattle.reading.specs.Entries.{answer_in, read_code, read_result, bytes_after}
use Rattle.reading.proofs.Laws.{in_read, in_60}
use Rattle.promises.specs.Calls.{SameReading, ReadBack, TooShort, HasRead, CReading, ReadCodesApart}
use Rattle.processors.proofs.AtMost256.{at_most_256}
use Rattle.promises.proofs.EveryRefusal.{of_scan}
use Rattle.reading.proofs.Scanned.{scanned}
use Rattle.std.specs.Prelude.{Ok, Err}

-- ---- the two readings
module _ (table list : List ℕ) where
  same_room : has_room (image (processors table)) (image list) ≡ has_room (processors table) list
  same_room = room_image (processors table) list

  same_answer : (map : _) → answer_in table (image list) ≡ (answered table map list).answer
  unfolding answered without_map if
  same_answer map = go (has_room (processors table) list) refl
    where
      go : (b : Bool) → has_room (processors table) list ≡ b → answer_in table (image list) ≡ (answered table map list).answer
      go true h = in_read table (image list) (same_room ∙ h) ∙ (rw h)
      go false h = in_60 table (image list) (same_room ∙ h) ∙ (rw h)

-- no more processors than 256
count_small : (capture : List ℕ) → (scan Strict capture).verdict ≡ Ok tt → count (madt_found Strict capture) ≤ 256
unfolding madt_found
count_small capture sound =
    let s = scanned Strict capture sound in
    rw s.madt (at_most_256 (madt_bytes capture s.t.madt) s.t.madt.place s.t.sci _ s.walk)

-- ---- the three ways of the C entry
module _ (capture list : List ℕ) (sound : (scan Strict capture).verdict ≡ Ok tt) where
  abbrev bytes : List ℕ
  bytes = image (processors (madt_found Strict capture))

  no_room : has_room bytes list ≡ false → TooShort capture list
  unfolding has_room filled read_result read_code bytes_after
  no_room h =
      let less = leb-false (length bytes) (length list) h in
      record {
        sound = sound;
        short = omega (arith, eight_each (madt_found Strict capture));
        result = unless_sound _ _ _ sound ∙ ap read_code (in_60 (madt_found Strict capture) list h);
        kept = unless_sound _ _ _ sound ∙ no_if _ _ _ h refl;
      }

  with_room : has_room bytes list ≡ true → HasRead capture list
  unfolding has_room filled written read_result read_code bytes_after
  with_room h =
      let enough = leb-true (length bytes) (length list) h in
      record {
        sound = sound;
        room = omega (arith, eight_each (madt_found Strict capture));
        result = unless_sound _ _ _ sound ∙ ap read_code (in_read (madt_found Strict capture) list h);
        most = count_small capture sound;
        bytes = unless_sound _ _ _ sound ∙ yes_if _ _ _ h ∙ ap (λ (n : ℕ). bytes ++ drop n list) (eight_each (madt_found Strict capture));
      }

-- ---- reading numbers back
together : (x q r s a b c d : ℕ) → x ≡ 256 * q + a → q ≡ 256 * r + b → r ≡ 256 * s + c → d ≡ s → a + 256 * (b + 256 * (c + 256 * (d + 256 * 0))) ≡ x
together x q r s a b c d e f g h = omega arith

four_parts : (x : ℕ) → x < 2 ^ 32
    → x % 256 + 256 * (x / 256 % 256 + 256 * (x / 65536 % 256 + 256 * (x / 16777216 % 256 + 256 * 0))) ≡ x
four_parts x small =
    let second : x / 256 / 256 ≡ x / 65536 = omega arith in
    let third : x / 65536 / 256 ≡ x / 16777216 = omega arith in
    together x (x / 256) (x / 65536) (x / 16777216) _ _ _ _ (omega arith) (omega arith) (omega arith) (omega arith)

read_first : (x : ℕ) (xs : List ℕ) → x < 2 ^ 32 → number_at 4 (image (x ∷ xs)) 0 ≡ x
unfolding image four_bytes number_at
read_first x xs small = four_parts x small

number_behind : (k byte : ℕ) (bytes : List ℕ) (at : ℕ) → number_at k (byte ∷ bytes) (suc at) ≡ number_at k bytes at
unfolding number_at
number_behind zero byte bytes at = refl
number_behind (suc k) byte bytes at = rw (suc-add, number_behind k byte bytes (at + 1))

-- THE PROMISES
pub same_reading : (capture list : List ℕ) → SameReading capture list
unfolding bytes_after list_after read_result reading_of unless read_code without_map
same_reading capture list = go (scan Strict capture).verdict
  where
    go : (v : Verdict)
        → (unless (λ r. image list) v (filled (image (processors (madt_found Strict capture))) (image list)) ≡ image (unless (λ r. list) v (filled (processors (madt_found Strict capture)) list)))
        × (unless refusal_code v (read_code (answer_in (madt_found Strict capture) (image list))) ≡ read_code (unless without_map v (answered (madt_found Strict capture) (scan Strict capture).map list)).answer)
    go (Err r) = (refl, refl)
    go (Ok tt) = (filled-image (processors (madt_found Strict capture)) list, ap read_code (same_answer (madt_found Strict capture) list (scan Strict capture).map))

pub read_codes_apart : ReadCodesApart
unfolding read_code
read_codes_apart (Ok a) (Ok b) p q e = ap Ok e
read_codes_apart (Ok a) (Err b) p q e = absurd (omega arith)
read_codes_apart (Err a) (Ok b) p q e = absurd (omega arith)
read_codes_apart (Err a) (Err b) p q e = ap Err (ap₂ refused (omega arith) (omega arith))

pub c_reading : (capture list : List ℕ) → CReading capture list
unfolding read_result bytes_after
c_reading capture list = go (scan Strict capture).verdict refl
  where
    room : (sound : (scan Strict capture).verdict ≡ Ok tt) (b : Bool) → has_room (image (processors (madt_found Strict capture))) list ≡ b
        → CReading capture list
    room sound true h = inr (inr (with_room capture list sound h))
    room sound false h = inr (inl (no_room capture list sound h))

    go : (v : Verdict) → (scan Strict capture).verdict ≡ v → CReading capture list
    go (Err r) e =
        inl
        (record {
          refusal = r;
          broken = e;
          ofthetable = of_scan Strict capture r e;
          result = unless-refused _ _ _ e;
          kept = unless-refused _ _ _ e;
        })
    go (Ok tt) e = room e (has_room (image (processors (madt_found Strict capture))) list) refl

pub read_back : (list : List ℕ) → ReadBack list
unfolding image four_bytes
read_back [] small at = number_past 4 [] (4 * at) (omega arith)
read_back (x ∷ xs) small zero = read_first x xs (small 0)
read_back (x ∷ xs) small (suc at) =
    let e : 4 * suc at ≡ suc (suc (suc (suc (4 * at)))) = omega arith in
    rw (e, number_behind, number_behind, number_behind, number_behind) (read_back xs (λ i. small (suc i)) at)
