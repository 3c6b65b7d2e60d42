-- A table in a sound capture, by the place of its address and the room there: no room for the header is 20, and the room says
-- whether the table is whole.
use mathlib.Core.Bool.{Bool, true, false, not, ◌||◌}
use mathlib.Core.List.{List}
use mathlib.Core.Path.{◌≡◌, refl}
use Prim.Native.Nat.{ℕ, ◌≤◌, ◌<◌}
use native.Mathlib.Omega.{arith}
use lib.Dec.{ltb}
use borrow.Author.Tests.{ltb-true, ltb-false}
use Rattle.words.specs.Choice.{if}
use Rattle.words.specs.Refusals.{refused, unless, first_refusal}
use Rattle.capture.specs.Presence.{Present, Absent, is_present, place_of, located}
use Rattle.capture.specs.Reach.{reached}
use Rattle.capture.specs.declared.Reach.{Reach}
use Rattle.capture.proofs.Room.{room_present, room_absent}
use Rattle.capture.proofs.Within.{Sound, within_small, behind}
use Rattle.tables.specs.Table.{header_size, address_at, header_at, table_named, table_length, cut_short, table_rules, table_at}
use Rattle.tables.specs.Whole.{rules_within, table_within}
use Rattle.std.specs.Prelude.{Err}

module _ (capture : List ℕ) (field : ℕ) (sound : Sound capture) {reach : Reach} (h : reach ≡ reached capture (address_at capture field)) where
  there : (size : ℕ) → 0 < size → size ≤ reach.room → located capture (address_at capture field) size ≡ Present reach.place
  there size some fits = rw h (room_present capture sound (address_at capture field) size some (rw h at fits))

  away : (size : ℕ) → reach.room < size → located capture (address_at capture field) size ≡ Absent
  away size short = room_absent capture sound (address_at capture field) size (rw h at short)

  -- a stretch from the address is absent exactly if it does not fit
  fits_not : (size : ℕ) → 0 < size → not (is_present (located capture (address_at capture field) size)) ≡ ltb reach.room size
  unfolding is_present
  fits_not size some = go (ltb reach.room size) refl
    where
      go : (b : Bool) → ltb reach.room size ≡ b → not (is_present (located capture (address_at capture field) size)) ≡ ltb reach.room size
      go true e = rw (e, away size (ltb-true reach.room size e))
      go false e = rw (e, there size some (ltb-false reach.room size e))

  cut_told : (place : ℕ) → cut_short capture (address_at capture field) place
      ≡ (ltb (table_length capture place) header_size || ltb reach.room (table_length capture place))
  unfolding cut_short
  cut_told place = go (ltb (table_length capture place) header_size) refl
    where
      go : (b : Bool) → ltb (table_length capture place) header_size ≡ b
          → (ltb (table_length capture place) header_size || not (is_present (located capture (address_at capture field) (table_length capture place))))
          ≡ (ltb (table_length capture place) header_size || ltb reach.room (table_length capture place))
      go true e = rw e
      go false e =
          let long = ltb-false (table_length capture place) header_size e in
          rw (fits_not (table_length capture place) (omega arith))

  pub table_20 : reach.room < header_size → table_at capture field ≡ Err (refused 20 field)
  unfolding table_at table_rules header_at is_present first_refusal unless if
  table_20 short = rw (away header_size short)

  pub table_within_lem : header_size ≤ reach.room → table_at capture field ≡ table_within capture reach.place reach.room
  unfolding table_at table_rules table_named header_at is_present place_of table_within rules_within first_refusal unless if
  table_within_lem fits = rw (there header_size (omega arith) fits, cut_told reach.place)

  -- place and room have 16 bits
  pub place_small : header_size ≤ reach.room → reach.place < 65536
  place_small fits =
      omega (arith, within_small capture (address_at capture field) header_size reach.place sound (there header_size (omega arith) fits))

  pub room_small : header_size ≤ reach.room → reach.room < 65536
  room_small fits =
      let here = there reach.room (omega arith) (omega arith) in
      let inside = within_small capture (address_at capture field) reach.room reach.place sound here in
      let past = behind capture (address_at capture field) reach.room reach.place here in
      omega arith
