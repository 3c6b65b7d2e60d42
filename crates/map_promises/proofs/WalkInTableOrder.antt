-- The map of a MADT that is not refused holds what each of its structures makes, in table order.
use Prim.Native.Nat.{ℕ, ◌+◌, ◌≤◌}
use native.Mathlib.Omega.{arith}
use mathlib.Core.Path.{◌≡◌, refl, sym, ◌∙◌, ap}
use mathlib.Core.List.{List, [], ◌∷◌, ◌++◌, map}
use mathlib.Core.Bool.{Bool, true, false}
use lib.ListN.{length, get_or, length-append}
use Rattle.words.specs.Choice.{if}
use Rattle.words.specs.Lists.{those}
use Rattle.words.proofs.Choices.{yes_if}
use Rattle.kinds.specs.Makers.{lio_of, ht_of, eio_of, msi_of, lpc_of}
use Rattle.kinds.specs.Used.{no_lio, no_ht, no_eio, no_bio, no_msi, no_lpc, said_lio}
use Rattle.madt.specs.Pieces.{Whole}
use Rattle.madt.specs.Rules.{is_type}
use Rattle.madt.specs.Contents.{of_type, how_many, made, standing, the_one, in_four, bridge_of, map_of, places_of, found_in}
use Rattle.madt.proofs.Contents.{made_many, standing_many}
use Rattle.madt.proofs.Accepted.{rules_sound, found_is, few_lios, one_kind, few_eios, few_msis, few_bios, few_lpcs}
use Rattle.map_promises.specs.Walks.{InTableOrder, WalkInTableOrder}
use Rattle.map_promises.proofs.Shelves.{one_at, past, at_four}

-- ---- lists behind each other
those-joined : {A : Type 0} (test : A → Bool) (xs ys : List A) → those test (xs ++ ys) ≡ those test xs ++ those test ys
unfolding those if
those-joined test [] ys = refl
those-joined {A} test (x ∷ xs) ys = go (test x) (those-joined test xs ys)
  where
    go : (b : Bool) → those test (xs ++ ys) ≡ those test xs ++ those test ys
        → if b (x ∷ those test (xs ++ ys)) (those test (xs ++ ys)) ≡ if b (x ∷ those test xs) (those test xs) ++ those test ys
    go true e = ap (λ (r : List A). x ∷ r) e
    go false e = e

behind : {A B : Type 0} (f : A → B) (none : B) (xs : List A) (x : A) (ys : List A) → get_or (map f (xs ++ (x ∷ ys))) (length xs) none ≡ f x
behind f none [] x ys = refl
behind f none (y ∷ xs) x ys = behind f none xs x ys

-- ---- a structure of a type, among all
module _ (number : ℕ) (before later : List Whole) (x : Whole) {all : List Whole} (e : all ≡ before ++ (x ∷ later)) (t : is_type number x.bytes ≡ true) where
  of_type_lem : of_type number all ≡ of_type number before ++ (x ∷ of_type number later)
  unfolding of_type those
  of_type_lem =
      ap (those (λ y. is_type number y.bytes)) e
      ∙ those-joined (λ y. is_type number y.bytes) before (x ∷ later)
      ∙ ap (λ (r : List Whole). those (λ y. is_type number y.bytes) before ++ r) (yes_if _ _ _ t)

  pub made_at : {A : Type 0} (maker : List ℕ → A) (none : A) → get_or (made number maker all) (how_many number before) none ≡ maker x.bytes
  unfolding made
  made_at maker none = rw of_type_lem (behind (λ y. maker y.bytes) none (of_type number before) x (of_type number later))

  pub standing-at : (base : ℕ) → get_or (standing number base all) (how_many number before) 0 ≡ base + x.at
  unfolding standing
  standing-at base = rw of_type_lem (behind (λ y. base + y.at) 0 (of_type number before) x (of_type number later))

  -- a kind of which there is one at most: none stands before it
  pub alone : how_many number all ≤ 1 → how_many number before ≡ 0
  alone few =
      let many = ap length of_type_lem ∙ length-append (of_type number before) (x ∷ of_type number later) in
      let z : how_many number before + length (x ∷ of_type number later) ≤ 1 = omega arith in
      omega arith

  pub one_made : {A : Type 0} (maker : List ℕ → A) (none : A) → how_many number all ≤ 1 → the_one none (made number maker all) ≡ maker x.bytes
  one_made maker none few =
      one_at none (made number maker all) (omega (arith, made_many number maker all))
      ∙ ap (λ (n : ℕ). get_or (made number maker all) n none) (sym (alone few)) ∙ made_at maker none

  pub one_standing : (base : ℕ) → how_many number all ≤ 1 → the_one 0 (standing number base all) ≡ base + x.at
  one_standing base few =
      one_at 0 (standing number base all) (omega (arith, standing_many number base all))
      ∙ ap (λ (n : ℕ). get_or (standing number base all) n 0) (sym (alone few)) ∙ standing-at base

  pub four_made : {A : Type 0} (maker : List ℕ → A) (none : A) → how_many number all ≤ 4
      → get_or (in_four none (made number maker all)) (how_many number before) none ≡ maker x.bytes
  four_made maker none few =
      at_four none (made number maker all) (omega (arith, made_many number maker all)) (how_many number before) ∙ made_at maker none

  pub four_standing : (base : ℕ) → how_many number all ≤ 4 → get_or (in_four 0 (standing number base all)) (how_many number before) 0 ≡ base + x.at
  four_standing base few =
      at_four 0 (standing number base all) (omega (arith, standing_many number base all)) (how_many number before) ∙ standing-at base

-- of a kind that is not there the map has none
none_made : {A : Type 0} (number : ℕ) (maker : List ℕ → A) (none : A) (all : List Whole) → how_many number all ≡ 0 → the_one none (made number maker all) ≡ none
none_made number maker none all z =
    one_at none (made number maker all) (omega (arith, made_many number maker all)) ∙ past none (made number maker all) 0 (omega (arith, made_many number maker all))

in_table_order : (base sci : ℕ) (pins : ℕ → ℕ) (all : List Whole) → how_many 18 all ≤ 1 → how_many 19 all ≤ 1 → how_many 20 all ≤ 4 → how_many 21 all ≤ 4 → how_many 22 all ≤ 4 → how_many 23 all ≤ 1
    → InTableOrder base pins all (map_of sci pins all) (places_of base all)
unfolding map_of places_of
in_table_order base sci pins all lios hts eios msis bios lpcs =
    record {
      lio = λ b l x e t. (one_made 18 b l x e t (λ s. said_lio (lio_of s)) no_lio lios, one_standing 18 b l x e t base lios);
      ht = λ b l x e t. (one_made 19 b l x e t ht_of no_ht hts, one_standing 19 b l x e t base hts);
      eio = λ b l x e t. (four_made 20 b l x e t eio_of no_eio eios, four_standing 20 b l x e t base eios);
      msi = λ b l x e t. (four_made 21 b l x e t msi_of no_msi msis, four_standing 21 b l x e t base msis);
      bio = λ b l x e t. (four_made 22 b l x e t (bridge_of pins) no_bio bios, four_standing 22 b l x e t base bios);
      lpc = λ b l x e t. (one_made 23 b l x e t lpc_of no_lpc lpcs, one_standing 23 b l x e t base lpcs);
      counts = (refl, refl, refl);
      nolio = none_made 18 (λ s. said_lio (lio_of s)) no_lio all;
      noht = none_made 19 ht_of no_ht all;
      nolpc = none_made 23 lpc_of no_lpc all;
    }

-- THE PROMISE
pub walk_in_table_order : (table : List ℕ) (base sci : ℕ) (pins : ℕ → ℕ) → WalkInTableOrder table base sci pins
unfolding found_in
walk_in_table_order table base sci pins h =
    let r = rules_sound table base sci pins h in
    rw (found_is table base sci pins h)
    (in_table_order base sci pins _ (few_lios table base r) (one_kind table base r).0 (few_eios table base r) (few_msis table base r) (few_bios table base r) (few_lpcs table base r))
