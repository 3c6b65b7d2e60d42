-- What some structures of a MADT make, with one structure more: what of it changes, and what stays.
use mathlib.Core.Path.{◌≡◌, refl, sym, ap, ◌∙◌}
use mathlib.Core.Bool.{Bool, true, false}
use mathlib.Core.List.{List, [], ◌∷◌, ◌++◌, map}
use Prim.Native.Nat.{ℕ, ◌+◌, ◌<◌}
use native.Mathlib.Omega.{arith}
use lib.Dec.{leb}
use lib.ListN.{length, set, length-append}
use borrow.Author.Tests.{le-leb}
use Rattle.words.specs.Bytes.{byte_at}
use Rattle.words.specs.Choice.{if}
use Rattle.words.proofs.Those.{those_more, those_same, map_more, length-map}
use Rattle.kinds.specs.Makers.{core_of, is_enabled, lio_of, ht_of, eio_of, msi_of, lpc_of}
use Rattle.kinds.specs.Used.{no_lio, no_ht, no_eio, no_bio, no_msi, no_lpc, said_lio}
use Rattle.lines.specs.declared.Map.{Map}
use Rattle.lines.specs.declared.Places.{Places}
use Rattle.madt.specs.Pieces.{Whole}
use Rattle.madt.specs.Rules.{is_type, one_too_many}
use Rattle.madt.specs.Contents.{of_type, how_many, made, standing, the_one, in_four, bridge_of, map_of, places_of, MadeBy, is_enabled_core, enabled_cores}
use Rattle.madt.proofs.Types.{of_core, of_lio, of_ht_lem, of_eio_lem, of_msi, of_bio_lem, of_lpc}

-- ---- one element more of a kind
one_longer : {A : Type 0} (none : A) (xs : List A) (x : A) → the_one none (xs ++ (x ∷ [])) ≡ x
unfolding the_one
one_longer none [] x = refl
one_longer none (y ∷ xs) x = one_longer y xs x

four_longer : {A : Type 0} (none : A) (xs : List A) (x : A) → length xs < 4 → in_four none (xs ++ (x ∷ [])) ≡ set (in_four none xs) (length xs) x
four_longer none [] x l = refl
four_longer none (a ∷ []) x l = refl
four_longer none (a ∷ b ∷ []) x l = refl
four_longer none (a ∷ b ∷ c ∷ []) x l = refl
four_longer none (a ∷ b ∷ c ∷ d ∷ xs) x l = absurd (omega arith)

-- ---- one structure more, of the type with a number, or of another
module _ (number : ℕ) (all : List Whole) (x : Whole) where
  abbrev more : List Whole
  more = all ++ (x ∷ [])

  module _ (t : is_type number x.bytes ≡ true) where
    of_more : of_type number more ≡ of_type number all ++ (x ∷ [])
    unfolding of_type
    of_more = those_more _ all x t

    pub count_more : how_many number more ≡ how_many number all + 1
    count_more = ap length of_more ∙ length-append (of_type number all) (x ∷ [])

    made_more : {A : Type 0} (maker : List ℕ → A) → made number maker more ≡ made number maker all ++ (maker x.bytes ∷ [])
    unfolding made
    made_more maker = rw of_more (map_more _ (of_type number all) x)

    standing_more : (base : ℕ) → standing number base more ≡ standing number base all ++ ((base + x.at) ∷ [])
    unfolding standing
    standing_more base = rw of_more (map_more _ (of_type number all) x)

  module _ (t : is_type number x.bytes ≡ false) where
    of_same : of_type number more ≡ of_type number all
    unfolding of_type
    of_same = those_same _ all x t

    pub count_same : how_many number more ≡ how_many number all
    count_same = ap length of_same

    made_same : {A : Type 0} (maker : List ℕ → A) → made number maker more ≡ made number maker all
    unfolding made
    made_same maker = rw of_same

    standing_same : (base : ℕ) → standing number base more ≡ standing number base all
    unfolding standing
    standing_same base = rw of_same

pub made_many : {A : Type 0} (number : ℕ) (maker : List ℕ → A) (all : List Whole) → length (made number maker all) ≡ how_many number all
unfolding made
made_many number maker all = length-map _ (of_type number all)

pub standing_many : (number base : ℕ) (all : List Whole) → length (standing number base all) ≡ how_many number all
unfolding standing
standing_many number base all = length-map _ (of_type number all)

-- ---- a kind as the map holds it, and its places beside it
-- one at most
pub record One {A : Type 0} (number : ℕ) (maker : List ℕ → A) (none : A) (base : ℕ) (all : List Whole) (value : A) (place : ℕ) : Type 0 where
  pub held : value ≡ the_one none (made number maker all)
  pub stands : place ≡ the_one 0 (standing number base all)

-- four at most: their count, the array and the places
pub record Four {A : Type 0} (number : ℕ) (maker : List ℕ → A) (none : A) (base : ℕ) (all : List Whole) (count : ℕ) (array : List A) (places : List ℕ) : Type 0 where
  pub counted : count ≡ how_many number all
  pub held : array ≡ in_four none (made number maker all)
  pub stands : places ≡ in_four 0 (standing number base all)

module _ {A : Type 0} {number : ℕ} {maker : List ℕ → A} {none : A} {base : ℕ} {all : List Whole} (x : Whole) where
  module _ {value : A} {place : ℕ} (k : One number maker none base all value place) where
    pub one_more : is_type number x.bytes ≡ true → One number maker none base (all ++ (x ∷ [])) (maker x.bytes) (base + x.at)
    one_more t =
        record {
          held = rw (made_more number all x t maker) (sym (one_longer none (made number maker all) _));
          stands = rw (standing_more number all x t base) (sym (one_longer 0 (standing number base all) _));
        }

    pub one_same : is_type number x.bytes ≡ false → One number maker none base (all ++ (x ∷ [])) value place
    one_same t = record { held = rw (made_same number all x t maker) k.held; stands = rw (standing_same number all x t base) k.stands }

  module _ {count : ℕ} {array : List A} {places : List ℕ} (k : Four number maker none base all count array places) where
    pub four_more : is_type number x.bytes ≡ true → how_many number all < 4
        → Four number maker none base (all ++ (x ∷ [])) (count + 1) (set array count (maker x.bytes)) (set places count (base + x.at))
    four_more t free =
        record {
          counted = rw (count_more number all x t, k.counted);
          held = rw (made_more number all x t maker, k.counted, k.held, sym (made_many number maker all))
              (sym (four_longer none (made number maker all) (maker x.bytes) (omega (arith, made_many number maker all))));
          stands = rw (standing_more number all x t base, k.counted, k.stands, sym (standing_many number base all))
              (sym (four_longer 0 (standing number base all) (base + x.at) (omega (arith, standing_many number base all))));
        }

    pub four_same : is_type number x.bytes ≡ false → Four number maker none base (all ++ (x ∷ [])) count array places
    four_same t =
        record {
          counted = rw (count_same number all x t) k.counted;
          held = rw (made_same number all x t maker) k.held;
          stands = rw (standing_same number all x t base) k.stands;
        }

-- ---- a map and its places, kind by kind
pub record Parts (base sci : ℕ) (pins : ℕ → ℕ) (all : List Whole) (map : Map) (places : Places) : Type 0 where
  pub lio : One 18 (λ s. said_lio (lio_of s)) no_lio base all map.lio places.lio
  pub ht : One 19 ht_of no_ht base all map.ht places.ht
  pub eios : Four 20 eio_of no_eio base all map.eiocount map.eios places.eios
  pub bios : Four 22 (bridge_of pins) no_bio base all map.biocount map.bios places.bios
  pub msis : Four 21 msi_of no_msi base all map.msicount map.msis places.msis
  pub lpc : One 23 lpc_of no_lpc base all map.lpc places.lpc
  pub number : map.sci ≡ sci

module _ {base sci : ℕ} {pins : ℕ → ℕ} {all : List Whole} {map : Map} {places : Places} (k : Parts base sci pins all map places) where
  -- together they are what the structures make
  pub map_of_lem : map ≡ map_of sci pins all
  unfolding map_of
  map_of_lem =
      rw (sym k.lio.held, sym k.ht.held, sym k.eios.held, sym k.eios.counted, sym k.bios.held, sym k.bios.counted, sym k.msis.held, sym k.msis.counted, sym k.lpc.held, sym k.number)

  pub places_of_lem : places ≡ places_of base all
  unfolding places_of
  places_of_lem = rw (sym k.lio.stands, sym k.ht.stands, sym k.eios.stands, sym k.bios.stands, sym k.msis.stands, sym k.lpc.stands)

-- ---- 38: one too many of its kind, by what the map has
-- a kind that is there once or not at all is there if there is one
there : {A : Type 0} (present : A → Bool) (none : A) (made : List ℕ → A) (xs : List Whole) → present none ≡ false
    → ((s : List ℕ) → present (made s) ≡ true) → present (the_one none (map (λ x. made x.bytes) xs)) ≡ leb 1 (length xs)
unfolding the_one
there present none made [] absent always = absent
there present none made (x ∷ xs) absent always = last x xs ∙ sym (le-leb 1 (length (x ∷ xs)) (omega arith))
  where
    last : (y : Whole) (ys : List Whole) → present (the_one (made y.bytes) (map (λ x. made x.bytes) ys)) ≡ true
    last y [] = always y.bytes
    last y (z ∷ zs) = last z zs

-- the structures that made a map are so many of each kind
module _ (s : List ℕ) (pins : ℕ → ℕ) (all : List Whole) {cores : ℕ} {m : Map} (by : MadeBy pins all cores m) where
  pub full_core : byte_at s 0 ≡ 17 → leb 256 cores ≡ one_too_many (how_many (byte_at s 0) all) s
  unfolding one_too_many
  full_core t = rw (of_core s _ _ _ _ _ _ _ _ t, t, by.0)

  pub full_lio : byte_at s 0 ≡ 18 → m.lio.present ≡ one_too_many (how_many (byte_at s 0) all) s
  unfolding one_too_many map_of made lio_of said_lio if
  full_lio t =
      rw (of_lio s _ _ _ _ _ _ _ _ t, t)
      (ap (λ (x : Map). x.lio.present) by.1
      ∙ there (λ x. x.present) no_lio (λ s. said_lio (lio_of s)) (of_type 18 all) refl (λ s. refl))

  -- nor is an HT ever one too many
  pub full_ht : byte_at s 0 ≡ 19 → false ≡ one_too_many (how_many (byte_at s 0) all) s
  unfolding one_too_many
  full_ht t = sym (of_ht_lem s _ _ _ _ _ _ _ _ t)

  -- there is an HT, and so many EIO
  pub ht_there : m.ht.present ≡ leb 1 (how_many 19 all)
  unfolding map_of made ht_of
  ht_there = ap (λ (x : Map). x.ht.present) by.1 ∙ there (λ x. x.present) no_ht ht_of (of_type 19 all) refl (λ s. refl)

  pub eios_counted : m.eiocount ≡ how_many 20 all
  unfolding map_of
  eios_counted = ap (λ (x : Map). x.eiocount) by.1

  pub full_eio : byte_at s 0 ≡ 20 → leb 4 m.eiocount ≡ one_too_many (how_many (byte_at s 0) all) s
  unfolding one_too_many map_of
  full_eio t = rw (of_eio_lem s _ _ _ _ _ _ _ _ t, t) (ap (λ (x : Map). leb 4 x.eiocount) by.1)

  pub full_msi : byte_at s 0 ≡ 21 → leb 4 m.msicount ≡ one_too_many (how_many (byte_at s 0) all) s
  unfolding one_too_many map_of
  full_msi t = rw (of_msi s _ _ _ _ _ _ _ _ t, t) (ap (λ (x : Map). leb 4 x.msicount) by.1)

  pub full_bio : byte_at s 0 ≡ 22 → leb 4 m.biocount ≡ one_too_many (how_many (byte_at s 0) all) s
  unfolding one_too_many map_of
  full_bio t = rw (of_bio_lem s _ _ _ _ _ _ _ _ t, t) (ap (λ (x : Map). leb 4 x.biocount) by.1)

  pub full_lpc : byte_at s 0 ≡ 23 → m.lpc.present ≡ one_too_many (how_many (byte_at s 0) all) s
  unfolding one_too_many map_of made lpc_of
  full_lpc t =
      rw (of_lpc s _ _ _ _ _ _ _ _ t, t)
      (ap (λ (x : Map). x.lpc.present) by.1 ∙ there (λ x. x.present) no_lpc lpc_of (of_type 23 all) refl (λ s. refl))

-- ---- the processors
-- what the type and the flags tell of a structure
module _ (s : List ℕ) where
  pub of_another_type : is_type 17 s ≡ false → is_enabled_core s ≡ false
  unfolding is_enabled_core
  of_another_type t = rw t

  pub by_its_flags : {live : Bool} → is_type 17 s ≡ true → is_enabled (core_of s) ≡ live → is_enabled_core s ≡ live
  unfolding is_enabled_core
  by_its_flags t h = rw t h

-- one structure more
module _ (all : List Whole) (x : Whole) where
  pub enabled_same : is_enabled_core x.bytes ≡ false → enabled_cores (all ++ (x ∷ [])) ≡ enabled_cores all
  unfolding enabled_cores
  enabled_same h = those_same _ all x h

  pub enabled_more : is_enabled_core x.bytes ≡ true → enabled_cores (all ++ (x ∷ [])) ≡ enabled_cores all ++ (x ∷ [])
  unfolding enabled_cores
  enabled_more h = those_more _ all x h
