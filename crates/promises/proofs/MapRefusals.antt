-- Refusals 40 to 54: what a map breaks, at the MADT, the FADT, or a structure that the walk found.
use Prim.Native.Nat.{ℕ, ◌<◌, ◌≤◌}
use native.Mathlib.Omega.{arith}
use mathlib.Core.Path.{◌≡◌, refl, sym, ◌∙◌, ap}
use mathlib.Core.Logic.{⊎_elim}
use mathlib.Core.List.{List, Memᴰ}
use mathlib.Core.Bool.{Bool, true, false, not, ◌||◌, true≢false}
use borrow.Author.Tests.{not-false}
use lib.Dec.{eqb, ltb}
use lib.ListN.{length}
use Rattle.kinds.proofs.Used.{lio_present, ht_present, lpc_present}
use Rattle.clashes.specs.Rules.{lone}
use Rattle.clashes.specs.Search.{sooner, first_clash, lonelier, first_lone}
use Rattle.clashes.specs.Told.{at_later, at_both, spotted}
use Rattle.clashes.specs.declared.Claim.{Claim}
use Rattle.lines.specs.Says.{Said, says}
use Rattle.lines.specs.Hubs.{hubs, nodes}
use Rattle.lines.specs.Claims.{claims}
use Rattle.lines.specs.Rules.{rule40, rules_to_45, rules_from_51, map_rules}
use Rattle.lines.specs.declared.Map.{Map}
use Rattle.lines.specs.declared.Places.{Places}
use Rattle.words.specs.Refusals.{rule, first_refusal}
use Rattle.words.proofs.Choices.{if_cases}
use Rattle.words.proofs.Tests.{neither_left}
use Rattle.words.proofs.Verdicts.{rule_kept}
use Rattle.map_promises.specs.Structures.{Structure, lio, eio, bio, msi, place_of, claim_of}
use Rattle.map_promises.proofs.Bridges.{no_bridge_lem, no_input_lem}
use Rattle.map_promises.proofs.Kept.{named-unwired}
use Rattle.map_promises.proofs.Meetings.{of_member}
use Rattle.map_promises.proofs.SearchNames.{search_names}
use Rattle.map_promises.proofs.WalkKeepsBooks.{Standing}
use Rattle.promises.proofs.Told.{is_from_40, Told, Named, NamedBoth, Inside, tell, tell_both, none_told, more_told, fold-told}
use Rattle.std.specs.Prelude.{Option, Ok, Some, None}

module _ (capture : List ℕ) where
  -- a rule that is broken at a place inside the capture
  broken_told : (n : ℕ) (bad : Bool) (place : ℕ) → Named is_from_40 n → (bad ≡ true → Inside capture place) → Told is_from_40 capture (rule bad n place)
  broken_told n bad place named at = if_cases (Told is_from_40 capture) bad _ _ (λ t. tell is_from_40 capture n place named (at t)) (λ t. omega arith)

  -- a search that finds nothing, or names a place inside the capture
  abbrev SpotTold : Option ℕ → Type 0
  SpotTold None = 0 < 1
  SpotTold (Some p) = Inside capture p

  -- or two that stand inside it, the second not at 0
  abbrev PairTold : Option (ℕ × ℕ) → Type 0
  PairTold None = 0 < 1
  PairTold (Some (p, q)) = Inside capture p × (0 < q) × (q < p)

  later_told : (n : ℕ) (c : Option (ℕ × ℕ)) → Named is_from_40 n → PairTold c → Told is_from_40 capture (at_later n c)
  unfolding at_later
  later_told n None named at = at
  later_told n (Some (p, q)) named at = tell is_from_40 capture n p named at.0

  both_told : (n : ℕ) (c : Option (ℕ × ℕ)) → NamedBoth is_from_40 n → PairTold c → Told is_from_40 capture (at_both n c)
  unfolding at_both
  both_told n None named at = at
  both_told n (Some (p, q)) named at = tell_both is_from_40 capture n p q named at.0 at.1 at.2

  spotted-told : (n : ℕ) (s : Option ℕ) → Named is_from_40 n → SpotTold s → Told is_from_40 capture (spotted n s)
  unfolding spotted
  spotted-told n None named at = at
  spotted-told n (Some p) named at = tell is_from_40 capture n p named at

  sooner-told : (best : Option ℕ) (p : ℕ) → SpotTold best → Inside capture p → SpotTold (sooner best p)
  unfolding sooner
  sooner-told None p b at = at
  sooner-told (Some q) p b at = if_cases SpotTold (ltb p q) _ _ (λ t. at) (λ t. b)

  -- 41 and 51 to 53: of claims inside the capture
  clash-told : (all : List Claim) → ((x : Claim) → Memᴰ x all → Inside capture x.place) → (rule : ℕ) → PairTold (first_clash rule all)
  clash-told all inside rule = go (first_clash rule all) refl
    where
      go : (c : Option (ℕ × ℕ)) → first_clash rule all ≡ c → PairTold c
      go None e = omega arith
      go (Some (p, q)) e =
          let f = search_names rule all p q e in
          let x = inside f.x f.x_listed in
          let y = inside f.y f.y_listed in
          ((omega (arith, f.earlier), omega (arith, f.x_at, x.1)), omega (arith, f.y_at, y.0), f.earlier)

  -- 42: a claim that stands alone
  lone-told : (nodes : List ℕ) (all : List Claim) → ((x : Claim) → Memᴰ x all → lone nodes x ≡ true → Inside capture x.place)
      → SpotTold (first_lone nodes all)
  unfolding first_lone lonelier
  lone-told nodes all inside =
      fold-told SpotTold (lonelier nodes) all
      (λ best x m b. if_cases SpotTold (lone nodes x) _ _ (λ t. sooner-told best x.place b (inside x m t)) (λ t. b))
      None
      (omega arith)

-- 40: there is a LIO
pub lio_there : (said : Said) (madt : ℕ) → rule40 said madt ≡ Ok tt → said.lio.present ≡ true
lio_there said madt h =
    let absent = not said.lio.present in
    let none = eqb (length (hubs said)) 0 in
    not-false _ (neither_left absent none (rule_kept (absent || none) 40 madt h))

-- a claim stands where its structure does
claim_at : (said : Said) (places : Places) (s : Structure) → (claim_of said places s).place ≡ place_of places s
claim_at said places lio = refl
claim_at said places (eio e) = refl
claim_at said places (bio j) = refl
claim_at said places (msi m) = refl

-- the LIO's claim never stands alone
lio-not-lone : (said : Said) (places : Places) (nodes : List ℕ) → lone nodes (claim_of said places lio) ≡ false
lio-not-lone said places nodes = refl

module _ (capture : List ℕ) {next : ℕ} {map : Map} {places : Places} (b : Standing next map places) (ends : next ≤ length capture) where
  claims_before : (x : Claim) → Memᴰ x (claims (says map) places) → x.place < length capture
  claims_before x m =
      let w = of_member (says map) places x m in
      let at : x.place ≡ (claim_of (says map) places w.0).place = ap (λ (c : Claim). c.place) w.2 in
      omega (arith, at, claim_at (says map) places w.0, b.before w.0 w.1)

  -- with a LIO none stands at 0
  claims_inside : map.lio.present ≡ true → (x : Claim) → Memᴰ x (claims (says map) places) → Inside capture x.place
  claims_inside present x m =
      let w = of_member (says map) places x m in
      let at : x.place ≡ (claim_of (says map) places w.0).place = ap (λ (c : Claim). c.place) w.2 in
      let there : 0 < place_of places w.0 = ⊎_elim (λ e. rw e (b.liobehind present)) (λ l. l) (b.behind w.0 w.1) in
      (omega (arith, at, claim_at (says map) places w.0), claims_before x m)

  lone_inside : (nodes : List ℕ) (x : Claim) → Memᴰ x (claims (says map) places) → lone nodes x ≡ true → Inside capture x.place
  lone_inside nodes x m t =
      let w = of_member (says map) places x m in
      let at : x.place ≡ (claim_of (says map) places w.0).place = ap (λ (c : Claim). c.place) w.2 in
      ⊎_elim
      (λ e. absurd (true≢false (sym t ∙ ap (lone nodes) (w.2 ∙ ap (claim_of (says map) places) e) ∙ lio-not-lone (says map) places nodes)))
      (λ l. (omega (arith, at, claim_at (says map) places w.0), claims_before x m))
      (b.behind w.0 w.1)

  -- 43 and 45: an LPC that lacks a bridge or an input is there
  lpc_inside : (says map).lpc.present ≡ true → Inside capture places.lpc
  lpc_inside h = (b.lpcbehind (sym (lpc_present map.lpc) ∙ h), omega (arith, b.lpcbefore))

  -- 44: an HT that names an input is there
  ht_inside : (says map).ht.present ≡ true → Inside capture places.ht
  ht_inside h = (b.htbehind (sym (ht_present map.ht) ∙ h), omega (arith, b.htbefore))

  -- 40 to 54
  pub map-told : (madt fadt : ℕ) → Inside capture madt → Inside capture fadt → Told is_from_40 capture (first_refusal (map_rules (says map) places madt fadt))
  unfolding map_rules rules_to_45 rules_from_51
  map-told madt fadt m f =
      let all = claims (says map) places in
      more_told is_from_40 capture _ _ (broken_told capture 40 _ madt (refl, refl, refl, refl) (λ t. m))
      (λ kept.
      let present = sym (lio_present map.lio) ∙ lio_there (says map) madt kept in
      let clash = clash-told capture all (claims_inside present) in
      more_told is_from_40 capture _ _ (later_told capture 41 (first_clash 41 all) (refl, refl, refl, refl) (clash 41))
      (λ z. more_told is_from_40 capture _ _ (spotted-told capture 42 (first_lone (nodes (says map)) all) (refl, refl, refl, refl) (lone-told capture (nodes (says map)) all (lone_inside (nodes (says map)))))
      (λ z. more_told is_from_40 capture _ _ (broken_told capture 43 _ places.lpc (refl, refl, refl, refl) (λ h. lpc_inside (no_bridge_lem (says map) h).0))
      (λ z. more_told is_from_40 capture _ _ (broken_told capture 44 _ places.ht (refl, refl, refl, refl) (λ h. ht_inside (named-unwired (says map) h).0))
      (λ z. more_told is_from_40 capture _ _ (broken_told capture 45 _ places.lpc (refl, refl, refl, refl) (λ h. lpc_inside (no_input_lem (says map) h).0))
      (λ z. more_told is_from_40 capture _ _ (both_told capture 51 (first_clash 51 all) (refl, refl, refl, refl) (clash 51))
      (λ z. more_told is_from_40 capture _ _ (both_told capture 52 (first_clash 52 all) (refl, refl, refl, refl) (clash 52))
      (λ z. more_told is_from_40 capture _ _ (both_told capture 53 (first_clash 53 all) (refl, refl, refl, refl) (clash 53))
      (λ z. more_told is_from_40 capture _ _ (broken_told capture 54 _ fadt (refl, refl, refl, refl) (λ t. f)) (λ z. none_told is_from_40 capture))))))))))
