-- Document 01, "What comes back": "The map holds the used fields of LIO, EIO, BIO, MSI and LPC" (and HT) ", in table order, and the SCI
-- number, but no places, addresses or register sizes; its unused places, an unused half's byte among them, hold 0". Here: what
-- some whole structures of a MADT make, and where they stand.
use Rattle.std.specs.Prelude.{ℕ, ◌+◌, Bool, ◌&&◌, List, [], ◌∷◌, map, ◌≡◌, length, get_or}
use Rattle.words.specs.Lists.{those}
use Rattle.kinds.specs.Makers.{core_of, is_enabled, lio_of, ht_of, eio_of, msi_of, bio_of, with_pins, lpc_of}
use Rattle.kinds.specs.Used.{no_lio, no_ht, no_eio, no_bio, no_msi, no_lpc, said_lio}
use Rattle.kinds.specs.declared.Bio.{Bio}
use Rattle.lines.specs.declared.Map.{Map}
use Rattle.lines.specs.declared.Places.{Places}
use Rattle.madt.specs.Pieces.{Whole}
use Rattle.madt.specs.Rules.{is_type}
use Rattle.madt.specs.declared.Found.{Found}

-- ---- the structures of one type, "in table order"
unfoldable pub of_type : ℕ → List Whole → List Whole
of_type number all = those (λ x. is_type number x.bytes) all

-- how many there are
abbrev pub how_many : ℕ → List Whole → ℕ
how_many number all = length (of_type number all)

-- what each of them makes of its own bytes
unfoldable pub made : {A : Type 0} → ℕ → (List ℕ → A) → List Whole → List A
made number maker all = map (λ x. maker x.bytes) (of_type number all)

-- where each of them stands in the capture; the MADT stands at `base`
unfoldable pub standing : ℕ → ℕ → List Whole → List ℕ
standing number base all = map (λ x. base + x.at) (of_type number all)

-- ---- a kind of which there is one at most, and a kind with four places; an unused place holds `none`. (Of several it is the last: 38 or
-- 34 refuses them.)
unfoldable pub the_one : {A : Type 0} → A → List A → A
the_one none [] = none
the_one none (x ∷ xs) = the_one x xs

abbrev pub in_four : {A : Type 0} → A → List A → List A
in_four none xs = get_or xs 0 none ∷ get_or xs 1 none ∷ get_or xs 2 none ∷ get_or xs 3 none ∷ []

-- "The map's BIO gets this count" (W-212 of document 02): a bridge with as many inputs as bridges of its hardware ID have
unfoldable pub bridge_of : (ℕ → ℕ) → List ℕ → Bio
bridge_of pins s = with_pins (pins (bio_of s).node) (bio_of s)

-- ---- the map of some structures, with an SCI number, where `pins` tells how many inputs the bridges with a hardware ID have
unfoldable pub map_of : ℕ → (ℕ → ℕ) → List Whole → Map
map_of sci pins all =
    record {
      lio = the_one no_lio (made 18 (λ s. said_lio (lio_of s)) all);
      ht = the_one no_ht (made 19 ht_of all);
      eiocount = how_many 20 all;
      eios = in_four no_eio (made 20 eio_of all);
      biocount = how_many 22 all;
      bios = in_four no_bio (made 22 (bridge_of pins) all);
      msicount = how_many 21 all;
      msis = in_four no_msi (made 21 msi_of all);
      lpc = the_one no_lpc (made 23 lpc_of all);
      sci = sci;
    }

-- their places
unfoldable pub places_of : ℕ → List Whole → Places
places_of base all =
    record {
      lio = the_one 0 (standing 18 base all);
      ht = the_one 0 (standing 19 base all);
      eios = in_four 0 (standing 20 base all);
      bios = in_four 0 (standing 22 base all);
      msis = in_four 0 (standing 21 base all);
      lpc = the_one 0 (standing 23 base all);
    }

-- so many CORE and a map are what some structures make
abbrev pub MadeBy : (ℕ → ℕ) → List Whole → ℕ → Map → Type 0
MadeBy pins all cores map = (cores ≡ how_many 17 all) × (map ≡ map_of map.sci pins all)

-- ---- the processors: a structure, whose own bytes are s, is an enabled CORE
unfoldable pub is_enabled_core : List ℕ → Bool
is_enabled_core s = is_type 17 s && is_enabled (core_of s)

-- "each enabled CORE, in table order"
unfoldable pub enabled_cores : List Whole → List Whole
enabled_cores all = those (λ x. is_enabled_core x.bytes) all

-- where some structures stand in the table
abbrev pub offsets_of : List Whole → List ℕ
offsets_of some = map (λ x. x.at) some

-- ---- all of it
unfoldable pub found_in : ℕ → ℕ → (ℕ → ℕ) → List Whole → Found
found_in base sci pins all = record { map = map_of sci pins all; places = places_of base all; enabled = length (enabled_cores all) }

-- nothing found: the empty map, without bridges that could have inputs
abbrev pub nothing : ℕ → Found
nothing sci = found_in 0 sci (λ id. 0) []
