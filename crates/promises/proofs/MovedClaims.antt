-- Claims that all stand so much further on: a search names the structures that it named before, so much further on. And the claims of a
-- walk stand as far on as its MADT does.
use Prim.Native.Nat.{ℕ, ◌+◌}
use native.Mathlib.Omega.{arith}
use mathlib.Core.Bool.{Bool, true, false, ◌&&◌, true≢false}
use mathlib.Core.List.{List, [], ◌∷◌, ◌++◌, map, map-append}
use mathlib.Core.Path.{◌≡◌, refl, sym, ap, ◌∙◌}
use borrow.Author.Tests.{ltb-true, ltb-false, lt-ltb, le-ltb}
use lib.Dec.{ltb}
use lib.ListN.{length, take}
use lib.Seq.{take-nil}
use Rattle.words.specs.Choice.{if}
use Rattle.kinds.specs.Makers.{lio_of, ht_of, eio_of, msi_of, lpc_of}
use Rattle.kinds.specs.Used.{no_lio, no_ht, no_eio, no_bio, no_msi, no_lpc, said_lio}
use Rattle.kinds.proofs.Used.{lio_present, ht_present, lpc_present}
use Rattle.clashes.specs.Folds.{fold}
use Rattle.clashes.specs.Rules.{clash, lone}
use Rattle.clashes.specs.Search.{sooner, nearer, partner, better, first_clash, lonelier, first_lone}
use Rattle.clashes.specs.declared.Claim.{Claim}
use Rattle.parts.specs.Claims.{lio_claim, eio_claim, bio_claim, msi_claim}
use Rattle.lines.specs.Says.{Said, says}
use Rattle.lines.specs.Claims.{placed, claims}
use Rattle.lines.specs.declared.Places.{Places}
use Rattle.madt.specs.Pieces.{Whole}
use Rattle.madt.specs.Contents.{of_type, made, standing, the_one, in_four, bridge_of, map_of, places_of, offsets_of}
use Rattle.std.specs.Prelude.{Option, Some, None}

-- a choice between two moved things
if_moved : {A : Type 0} (f : A → A) (b : Bool) (x y : A) → if b (f x) (f y) ≡ f (if b x y)
unfolding if
if_moved f true x y = refl
if_moved f false x y = refl

-- a fold over moved elements, where each step moves with them
fold_moved : {A B : Type 0} (f : B → B) (g : A → A) (step step' : B → A → B) → ((b : B) (x : A) → step (f b) (g x) ≡ f (step' b x)) → (b : B) (xs : List A)
    → fold step (f b) (map g xs) ≡ f (fold step' b xs)
unfolding fold
fold_moved f g step step' h b [] = refl
fold_moved {A} {B} f g step step' h b (x ∷ xs) = ap (λ (c : B). fold step c (map g xs)) (h b x) ∙ fold_moved f g step step' h (step' b x) xs

module _ (by : ℕ) where
  -- so much further on
  pub moved_claim : Claim → Claim
  moved_claim x =
      record { place = by + x.place; numbers = x.numbers; vectors = x.vectors; node = x.node; hub = x.hub; low = x.low; high = x.high }

  unfoldable pub moved_spot : Option ℕ → Option ℕ
  moved_spot None = None
  moved_spot (Some p) = Some (by + p)

  unfoldable pub moved_pair : Option (ℕ × ℕ) → Option (ℕ × ℕ)
  moved_pair None = None
  moved_pair (Some (p, q)) = Some ((by + p), (by + q))

  -- the order stays
  same_order : (p q : ℕ) → ltb (by + p) (by + q) ≡ ltb p q
  same_order p q = go (ltb p q) refl
    where
      go : (b : Bool) → ltb p q ≡ b → ltb (by + p) (by + q) ≡ b
      go true e = let less = ltb-true p q e in lt-ltb (by + p) (by + q) (omega arith)
      go false e = let more = ltb-false p q e in le-ltb (by + p) (by + q) (omega arith)

  sooner_moved : (best : Option ℕ) (p : ℕ) → sooner (moved_spot best) (by + p) ≡ moved_spot (sooner best p)
  unfolding sooner moved_spot
  sooner_moved None p = refl
  sooner_moved (Some q) p = rw (same_order p q) (if_moved moved_spot (ltb p q) (Some p) (Some q))

  -- ---- the search
  module _ (rule : ℕ) where
    same_clash : (x y : Claim) → clash rule (moved_claim x) (moved_claim y) ≡ clash rule x y
    unfolding clash moved_claim
    same_clash x y = refl

    nearer_moved : (x : Claim) (best : Option ℕ) (y : Claim) → nearer rule (moved_claim x) (moved_spot best) (moved_claim y) ≡ moved_spot (nearer rule x best y)
    unfolding nearer moved_claim
    nearer_moved x best y =
        rw (same_order y.place x.place, same_clash x y, sooner_moved best y.place)
        (if_moved moved_spot (ltb y.place x.place && clash rule x y) (sooner best y.place) best)

    partner_moved : (x : Claim) (all : List Claim) → partner rule (moved_claim x) (map moved_claim all) ≡ moved_spot (partner rule x all)
    unfolding partner moved_spot
    partner_moved x all = fold_moved moved_spot moved_claim _ _ (nearer_moved x) None all

    better_moved : (best : Option (ℕ × ℕ)) (p : ℕ) (with : Option ℕ) → better (moved_pair best) (by + p) (moved_spot with) ≡ moved_pair (better best p with)
    unfolding better moved_pair moved_spot
    better_moved best p None = refl
    better_moved None p (Some q) = refl
    better_moved (Some (o, w)) p (Some q) = rw (same_order p o) (if_moved moved_pair (ltb p o) (Some (p, q)) (Some (o, w)))

    pub clash_moved : (all : List Claim) → first_clash rule (map moved_claim all) ≡ moved_pair (first_clash rule all)
    unfolding first_clash moved_pair moved_claim
    clash_moved all = fold_moved moved_pair moved_claim _ _ step None all
      where
        step : (best : Option (ℕ × ℕ)) (x : Claim)
            → better (moved_pair best) (moved_claim x).place (partner rule (moved_claim x) (map moved_claim all)) ≡ moved_pair (better best x.place (partner rule x all))
        step best x = rw (partner_moved x all) (better_moved best x.place (partner rule x all))

  -- ---- 42
  pub lone_moved : (nodes : List ℕ) (all : List Claim) → first_lone nodes (map moved_claim all) ≡ moved_spot (first_lone nodes all)
  unfolding first_lone lonelier moved_spot moved_claim
  lone_moved nodes all = fold_moved moved_spot moved_claim _ _ step None all
    where
      step : (best : Option ℕ) (x : Claim) → lonelier nodes (moved_spot best) (moved_claim x) ≡ moved_spot (lonelier nodes best x)
      step best x = rw (sooner_moved best x.place) (if_moved moved_spot (lone nodes x) (sooner best x.place) best)

-- ---- where structures stand
-- of a kind of which there is one at most, and there is
module _ (base : ℕ) where
  last_moved : (p : ℕ) (xs : List Whole) → the_one (base + p) (map (λ x. base + x.at) xs) ≡ base + the_one p (map (λ x. x.at) xs)
  unfolding the_one
  last_moved p [] = refl
  last_moved p (x ∷ xs) = last_moved x.at xs

  one_moved : {A : Type 0} (maker : List ℕ → A) (none : A) (there : A → Bool) → there none ≡ false → (xs : List Whole)
      → there (the_one none (map (λ x. maker x.bytes) xs)) ≡ true → the_one 0 (map (λ x. base + x.at) xs) ≡ base + the_one 0 (map (λ x. x.at) xs)
  unfolding the_one
  one_moved maker none there absent [] present = absurd (true≢false (sym present ∙ absent))
  one_moved maker none there absent (x ∷ xs) present = last_moved x.at xs

  -- the claims of a kind with four places
  module _ {A : Type 0} (claim : A → ℕ → Claim) (moves : (x : A) (p : ℕ) → claim x (base + p) ≡ moved_claim base (claim x p)) (none : A) (maker : List ℕ → A) where
    claim_moved : (x : Whole) → claim (maker x.bytes) (base + x.at) ≡ moved_claim base (claim (maker x.bytes) x.at)
    claim_moved x = moves (maker x.bytes) x.at

    placed_moved : (xs : List Whole) → let some = take (length xs) (in_four none (map (λ x. maker x.bytes) xs)) in
        placed claim some (in_four 0 (map (λ x. base + x.at) xs)) ≡ map (moved_claim base) (placed claim some (in_four 0 (map (λ x. x.at) xs)))
    unfolding placed
    placed_moved [] = refl
    placed_moved (x ∷ []) = rw (claim_moved x)
    placed_moved (x ∷ y ∷ []) = rw (claim_moved x, claim_moved y)
    placed_moved (x ∷ y ∷ z ∷ []) = rw (claim_moved x, claim_moved y, claim_moved z)
    placed_moved (x ∷ y ∷ z ∷ w ∷ more) = rw (take-nil {A = A} (length more), claim_moved x, claim_moved y, claim_moved z, claim_moved w)

-- ---- the structures of a MADT, and the map that they make
-- where they stand in the table
abbrev stand_in : ℕ → List Whole → List ℕ
stand_in number all = offsets_of (of_type number all)

abbrev pub offsets : List Whole → Places
offsets all =
    record {
      lio = the_one 0 (stand_in 18 all);
      ht = the_one 0 (stand_in 19 all);
      eios = in_four 0 (stand_in 20 all);
      bios = in_four 0 (stand_in 22 all);
      msis = in_four 0 (stand_in 21 all);
      lpc = the_one 0 (stand_in 23 all);
    }

-- and in the capture, where the MADT stands at `base`
module _ (sci : ℕ) (pins : ℕ → ℕ) (all : List Whole) (base : ℕ) where
  abbrev said : Said
  said = says (map_of sci pins all)

  lio_moved : said.lio.present ≡ true → (places_of base all).lio ≡ base + (offsets all).lio
  unfolding places_of standing map_of made
  lio_moved h = one_moved base (λ s. said_lio (lio_of s)) no_lio (λ x. x.present) refl (of_type 18 all) (sym (lio_present _) ∙ h)

  pub ht_moved : said.ht.present ≡ true → (places_of base all).ht ≡ base + (offsets all).ht
  unfolding places_of standing map_of made
  ht_moved h = one_moved base ht_of no_ht (λ x. x.present) refl (of_type 19 all) (sym (ht_present _) ∙ h)

  pub lpc_moved : said.lpc.present ≡ true → (places_of base all).lpc ≡ base + (offsets all).lpc
  unfolding places_of standing map_of made
  lpc_moved h = one_moved base lpc_of no_lpc (λ x. x.present) refl (of_type 23 all) (sym (lpc_present _) ∙ h)

  pub claims_moved : said.lio.present ≡ true → claims said (places_of base all) ≡ map (moved_claim base) (claims said (offsets all))
  unfolding claims places_of standing map_of made moved_claim
  claims_moved h =
      rw (
        lio_moved h,
        placed_moved base eio_claim (λ x p. refl) no_eio eio_of (of_type 20 all),
        placed_moved base bio_claim (λ x p. refl) no_bio (bridge_of pins) (of_type 22 all),
        placed_moved base msi_claim (λ x p. refl) no_msi msi_of (of_type 21 all),
      )
      (go (lio_claim said.lio (offsets all).lio) (placed eio_claim said.eios (offsets all).eios) (placed bio_claim said.bios (offsets all).bios) (placed msi_claim said.msis (offsets all).msis))
    where
      go : (lio : Claim) (eios bios msis : List Claim)
          → let f = moved_claim base in
          (f lio ∷ []) ++ map f eios ++ map f bios ++ map f msis ≡ map f ((lio ∷ []) ++ eios ++ bios ++ msis)
      go lio eios bios msis =
          ap (λ (cs : List Claim). moved_claim base lio ∷ cs)
          (ap (λ (cs : List Claim). cs ++ map (moved_claim base) msis) (sym (map-append (moved_claim base) eios bios)) ∙ sym (map-append (moved_claim base) (eios ++ bios) msis))
