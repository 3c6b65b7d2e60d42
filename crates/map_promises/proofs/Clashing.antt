-- Each of 41 to 45 and 51 to 53 is told of a map exactly where it is the first that is broken, and names what the documents name.
use Prim.Native.Nat.{ℕ, zero, suc, ◌<◌}
use native.Mathlib.Omega.{arith}
use mathlib.Core.Path.{◌≡◌, refl, sym, ◌∙◌}
use mathlib.Core.Logic.{inr}
use mathlib.Core.List.{List, [], ◌∷◌}
use mathlib.Core.Bool.{true, false}
use lib.ListN.{get_or}
use Rattle.words.specs.Choice.{if}
use Rattle.words.specs.Refusals.{Verdict, refused_with, rule, unless, first_refusal}
use Rattle.words.proofs.Verdicts.{first_kept, first-told}
use Rattle.clashes.specs.Search.{first_clash, first_lone}
use Rattle.clashes.specs.Told.{at_later, at_both, spotted}
use Rattle.clashes.specs.declared.Claim.{Claim}
use Rattle.parts.specs.Inputs.{names_unwired}
use Rattle.lines.specs.Says.{Said, says}
use Rattle.lines.specs.Hubs.{nodes}
use Rattle.lines.specs.Claims.{claims}
use Rattle.lines.specs.Rules.{too_many, no_bridge, no_input, rule_clash, ranges_kept, rule51, rule52, rule53, rule54, rules_to_45, rules_from_51, map_rules, first_broken}
use Rattle.lines.specs.declared.Map.{Map}
use Rattle.lines.specs.declared.Places.{Places}
use Rattle.map_promises.specs.Structures.{Structure, Placed}
use Rattle.map_promises.specs.Clashing.{ShareNode, ShareNumber, ShareVector, ShareCore, Sharing, TwoNode, LoneBio, TwoNumber, TwoVector, TwoCore, Names, NamesLater, NamesLone, OnePlace, KeepsTo40, KeepsTo42, KeepsTo43, KeepsTo44, KeepsTo45, NoBridge, NamesUnwired, NoInput, RefusedWith, OthersCarryNone, NodeExactly, LoneExactly, BridgeExactly, WiredExactly, InputExactly, NumberExactly, VectorExactly, CoreExactly}
use Rattle.map_promises.proofs.Bridges.{no_bridge_lem, bridge_gone, no_input_lem, input_gone}
use Rattle.map_promises.proofs.Hubs.{bio_hub, names-lone, finds_lone}
use Rattle.map_promises.proofs.Kept.{unwired-named, named-unwired}
use Rattle.map_promises.proofs.Meetings.{Agrees, names, sharing, no_sharing, finds_two, finds_nothing}
use Rattle.map_promises.proofs.Sharing.{node_agrees, number_agrees, vector_agrees, core_agrees, number_sharing, sharing_number, vector_sharing, sharing_vector}
use Rattle.map_promises.proofs.Unused.{lio_said}
use Rattle.map_promises.proofs.Verdicts.{hub_there, later_kept, both_kept, spotted_kept, later_told, both_told, spotted-told, rule_read, position, Second, own, told_at}
use Rattle.std.specs.Prelude.{Ok, Err, None}

module _ (map : Map) (places : Places) (madt fadt : ℕ) where
  abbrev said : Said
  said = says map

  abbrev all : List Claim
  all = claims said places

  abbrev rules : List Verdict
  rules = map_rules said places madt fadt

  abbrev Told : ℕ → ℕ → ℕ → Type 0
  Told n p q = RefusedWith map places madt fadt n p q

  -- with 38 kept, the verdict is that of the rules from 40 on
  from_40 : too_many map ≡ false → first_broken map places madt fadt ≡ first_refusal rules
  unfolding first_broken
  from_40 few = first_kept (too_many map) 38 madt rules few refl

  -- a number that is told is that of the first broken rule
  told : too_many map ≡ false → (n p q : ℕ) → Told n p q
      → (get_or rules (position n) (Ok tt) ≡ Err (refused_with n p q)) × ((i : ℕ) → i < position n → get_or rules i (Ok tt) ≡ Ok tt)
  told few n p q h = told_at said places madt fadt n p q (sym (from_40 few) ∙ h)

  -- ---- 43
  module _ (h : KeepsTo42 map places madt) where
    bridge_told : (p q : ℕ) → Told 43 p q → NoBridge said × OnePlace (λ p. p ≡ places.lpc) p q
    unfolding map_rules rules_to_45 rules_from_51 if
    bridge_told p q t =
        let r = (told h.to40.r38 43 p q t).0 in
        let w = rule_read (no_bridge said.lpc said.bios) 43 places.lpc 43 p q r in
        (no_bridge_lem said w.3, (w.2, w.1))

    bridge_tells : NoBridge said → (p : ℕ) × (q : ℕ) × Told 43 p q
    unfolding map_rules rules_to_45 rules_from_51 first_refusal unless if
    bridge_tells w = (places.lpc, 0, from_40 h.to40.r38 ∙ rw (h.to40.r40, h.r41, h.r42, bridge_gone said w))

  -- ---- 44
  module _ (h : KeepsTo43 map places madt) where
    wired-told : (p q : ℕ) → Told 44 p q → NamesUnwired said × OnePlace (λ p. p ≡ places.ht) p q
    unfolding map_rules rules_to_45 rules_from_51 if
    wired-told p q t =
        let r = (told h.to42.to40.r38 44 p q t).0 in
        let w = rule_read (names_unwired said.lio said.ht) 44 places.ht 44 p q r in
        (named-unwired said w.3, (w.2, w.1))

    wired-tells : NamesUnwired said → (p : ℕ) × (q : ℕ) × Told 44 p q
    unfolding map_rules rules_to_45 rules_from_51 first_refusal unless if
    wired-tells w =
        let to42 = h.to42 in
        (places.ht, 0, from_40 to42.to40.r38 ∙ rw (to42.to40.r40, to42.r41, to42.r42, h.r43, unwired-named said w))

  -- ---- 45
  module _ (h : KeepsTo44 map places madt) where
    input_told : (p q : ℕ) → Told 45 p q → NoInput said × OnePlace (λ p. p ≡ places.lpc) p q
    unfolding map_rules rules_to_45 rules_from_51 if
    input_told p q t =
        let r = (told h.to43.to42.to40.r38 45 p q t).0 in
        let w = rule_read (no_input said.lpc said.bios) 45 places.lpc 45 p q r in
        (no_input_lem said w.3, (w.2, w.1))

    input_tells : NoInput said → (p : ℕ) × (q : ℕ) × Told 45 p q
    unfolding map_rules rules_to_45 rules_from_51 first_refusal unless if
    input_tells w =
        let to42 = h.to43.to42 in
        (places.lpc, 0, from_40 to42.to40.r38 ∙ rw (to42.to40.r40, to42.r41, to42.r42, h.to43.r43, h.r44, input_gone said w))

  module _ (ok : Placed said places) where
    -- ---- 41 and 42
    module _ (h : KeepsTo40 map madt) where
      eios : Agrees said 41 (ShareNode said)
      eios = node_agrees said h.ranges

      node_told : (p q : ℕ) → Told 41 p q → TwoNode said × OnePlace (NamesLater said places (ShareNode said)) p q
      unfolding map_rules rules_to_45 rules_from_51 if
      node_told p q t =
          let w = later_told 41 41 p q (first_clash 41 all) (told h.r38 41 p q t).0 in
          let named = names said places ok eios p w.2.0 w.2.1 in
          (sharing said places ok eios p w.2.0 named, ((w.2.0, named), w.1))

      node_tells : TwoNode said → (p : ℕ) × (q : ℕ) × Told 41 p q
      unfolding map_rules rules_to_45 rules_from_51 first_refusal unless at_later
      node_tells w =
          let f = finds_two said places ok eios w in
          (f.0, 0, from_40 h.r38 ∙ rw (h.r40, f.2))

      lone-told : (p q : ℕ) → Told 42 p q → ((TwoNode said → ⊥) × LoneBio said) × OnePlace (NamesLone said places) p q
      unfolding map_rules rules_to_45 rules_from_51 if
      lone-told p q t =
          let r = told h.r38 42 p q t in
          let w = spotted-told 42 42 p q (first_lone (nodes said) all) r.0 in
          let n = names-lone said h.ranges places ok p w.2 in
          let never = no_sharing said places ok eios (later_kept 41 (first_clash 41 all) (r.1 1 (omega arith))) in
          ((never, (n.j, n.lone)), (n, w.1))

      lone-tells : (TwoNode said → ⊥) → LoneBio said → (p : ℕ) × (q : ℕ) × Told 42 p q
      unfolding map_rules rules_to_45 rules_from_51 first_refusal unless at_later spotted
      lone-tells never w =
          let f = finds_lone said h.ranges places ok w in
          (f.0, 0, from_40 h.r38 ∙ rw (h.r40, finds_nothing said places ok eios never, f.1))

    -- ---- 51 to 53
    module _ (h : KeepsTo45 map places madt) where
      abbrev to42 : KeepsTo42 map places madt
      to42 = h.to44.to43.to42

      abbrev ranged : ranges_kept said ≡ true
      ranged = to42.to40.ranges

      abbrev few : too_many map ≡ false
      few = to42.to40.r38

      numbers : Agrees said 51 (ShareNumber said)
      numbers = number_agrees said ranged

      vectors : Agrees said 52 (ShareVector said)
      vectors = vector_agrees said ranged (hub_there said madt to42.to40.r40) (bio_hub said ranged places ok (spotted_kept 42 (first_lone (nodes said) all) to42.r42))

      cores : Agrees said 53 (ShareCore said)
      cores = core_agrees said ranged (lio_said map.lio).0 (lio_said map.lio).1

      -- where a clash is told, two structures share, and both are named
      clash-told : {n : ℕ} {Share : Structure → Structure → Type 0} → Agrees said n Share → get_or rules (position n) (Ok tt) ≡ rule_clash n all
          → (p q : ℕ) → Told n p q → Sharing said Share × Names said places Share p q
      clash-told {n} agrees own p q t =
          let w = both_told n n p q (first_clash n all) (sym own ∙ (told few n p q t).0) in
          let named = names said places ok agrees p q w.1 in
          (sharing said places ok agrees p q named, named)

      -- the searches before it found nothing
      clash_none : (k n m : ℕ) → get_or rules k (Ok tt) ≡ rule_clash n all → k < position m → (p q : ℕ) → Told m p q → first_clash n all ≡ None
      clash_none k n m own l p q t = both_kept n (first_clash n all) (sym own ∙ (told few m p q t).1 k l)

      -- with the rules below 51 kept, the verdict is that of the rest
      from_51 : first_broken map places madt fadt ≡ first_refusal (rule51 all ∷ rule52 all ∷ rule53 all ∷ rule54 said fadt ∷ [])
      unfolding map_rules rules_to_45 rules_from_51 first_refusal unless
      from_51 = from_40 few ∙ rw (to42.to40.r40, to42.r41, to42.r42, h.to44.to43.r43, h.to44.r44, h.r45)

      no_number : (TwoNumber said → ⊥) → first_clash 51 all ≡ None
      no_number never = finds_nothing said places ok numbers (λ w. never (sharing_number said w))

      number_none : first_clash 51 all ≡ None → TwoNumber said → ⊥
      number_none e w = no_sharing said places ok numbers e (number_sharing said w)

      no_vector : (TwoVector said → ⊥) → first_clash 52 all ≡ None
      no_vector never = finds_nothing said places ok vectors (λ w. never (sharing_vector said w))

      vector_none : first_clash 52 all ≡ None → TwoVector said → ⊥
      vector_none e w = no_sharing said places ok vectors e (vector_sharing said w)

      number_told : (p q : ℕ) → Told 51 p q → TwoNumber said × Names said places (ShareNumber said) p q
      unfolding map_rules rules_to_45 rules_from_51 if
      number_told p q t =
          let w = clash-told numbers refl p q t in
          (sharing_number said w.0, w.1)

      number_tells : TwoNumber said → (p : ℕ) × (q : ℕ) × Told 51 p q
      unfolding first_refusal unless at_both
      number_tells w =
          let f = finds_two said places ok numbers (number_sharing said w) in
          (f.0, f.1, from_51 ∙ rw f.2)

      vector_told : (p q : ℕ) → Told 52 p q → ((TwoNumber said → ⊥) × TwoVector said) × Names said places (ShareVector said) p q
      unfolding map_rules rules_to_45 rules_from_51 if
      vector_told p q t =
          let w = clash-told vectors refl p q t in
          let never = number_none (clash_none 6 51 52 refl (omega arith) p q t) in
          ((never, sharing_vector said w.0), w.1)

      vector_tells : (TwoNumber said → ⊥) → TwoVector said → (p : ℕ) × (q : ℕ) × Told 52 p q
      unfolding first_refusal unless at_both
      vector_tells never w =
          let f = finds_two said places ok vectors (vector_sharing said w) in
          (f.0, f.1, from_51 ∙ rw (no_number never, f.2))

      core_told : (p q : ℕ) → Told 53 p q
          → ((TwoNumber said → ⊥) × (TwoVector said → ⊥) × TwoCore said) × Names said places (ShareCore said) p q
      unfolding map_rules rules_to_45 rules_from_51 if
      core_told p q t =
          let w = clash-told cores refl p q t in
          let never = number_none (clash_none 6 51 53 refl (omega arith) p q t) in
          let none = vector_none (clash_none 7 52 53 refl (omega arith) p q t) in
          ((never, none, w.0), w.1)

      core_tells : (TwoNumber said → ⊥) → (TwoVector said → ⊥) → TwoCore said → (p : ℕ) × (q : ℕ) × Told 53 p q
      unfolding first_refusal unless at_both
      core_tells never none w =
          let f = finds_two said places ok cores w in
          (f.0, f.1, from_51 ∙ rw (no_number never, no_vector none, f.2))

-- 38 tells the MADT alone; then the rules from 40 on
second_told : (map : Map) (places : Places) (madt fadt k n p q : ℕ)
    → get_or (rule (too_many map) 38 madt ∷ map_rules (says map) places madt fadt) k (Ok tt) ≡ Err (refused_with n p q) → Second n q
second_told map places madt fadt zero n p q h = inr (rule_read (too_many map) 38 madt n p q h).1
second_told map places madt fadt (suc k) n p q h = (own (says map) places madt fadt k n p q h).1

-- THE PROMISES
pub others_carry_none : (map : Map) (places : Places) (madt fadt : ℕ) → OthersCarryNone map places madt fadt
unfolding first_broken
others_carry_none map places madt fadt n p q h = let w = first-told _ h in second_told map places madt fadt w.k n p q w.told

pub node_exactly : (map : Map) (places : Places) (madt fadt : ℕ) → NodeExactly map places madt fadt
node_exactly map places madt fadt ok h = (node_told map places madt fadt ok h, node_tells map places madt fadt ok h)

pub lone-exactly : (map : Map) (places : Places) (madt fadt : ℕ) → LoneExactly map places madt fadt
lone-exactly map places madt fadt ok h = (lone-told map places madt fadt ok h, λ w. lone-tells map places madt fadt ok h w.0 w.1)

pub bridge_exactly : (map : Map) (places : Places) (madt fadt : ℕ) → BridgeExactly map places madt fadt
bridge_exactly map places madt fadt h = (bridge_told map places madt fadt h, bridge_tells map places madt fadt h)

pub wired-exactly : (map : Map) (places : Places) (madt fadt : ℕ) → WiredExactly map places madt fadt
wired-exactly map places madt fadt h = (wired-told map places madt fadt h, wired-tells map places madt fadt h)

pub input_exactly : (map : Map) (places : Places) (madt fadt : ℕ) → InputExactly map places madt fadt
input_exactly map places madt fadt h = (input_told map places madt fadt h, input_tells map places madt fadt h)

pub number_exactly : (map : Map) (places : Places) (madt fadt : ℕ) → NumberExactly map places madt fadt
number_exactly map places madt fadt ok h = (number_told map places madt fadt ok h, number_tells map places madt fadt ok h)

pub vector_exactly : (map : Map) (places : Places) (madt fadt : ℕ) → VectorExactly map places madt fadt
vector_exactly map places madt fadt ok h = (vector_told map places madt fadt ok h, λ w. vector_tells map places madt fadt ok h w.0 w.1)

pub core_exactly : (map : Map) (places : Places) (madt fadt : ℕ) → CoreExactly map places madt fadt
core_exactly map places madt fadt ok h = (core_told map places madt fadt ok h, λ w. core_tells map places madt fadt ok h w.0 w.1 w.2)
