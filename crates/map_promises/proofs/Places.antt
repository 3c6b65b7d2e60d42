-- Whether a map breaks a rule does not hang on the places of its structures.
use Prim.Native.Nat.{ℕ}
use mathlib.Core.Path.{◌≡◌, ◌∙◌, ap}
use mathlib.Core.Bool.{Bool, true, false, not, ◌&&◌, ◌||◌}
use mathlib.Core.List.{◌∷◌}
use lib.Dec.{eqb}
use lib.ListN.{length}
use Rattle.words.specs.Refusals.{rule, unless, first_refusal, is_sound}
use Rattle.words.proofs.Verdicts.{is_sound_lem, rule_sound, rule_kept, each_sound}
use Rattle.kinds.specs.Ranges.{bit_in_both}
use Rattle.clashes.specs.Rules.{lone}
use Rattle.clashes.specs.Search.{first_clash, first_lone}
use Rattle.clashes.proofs.Logic.{and_right}
use Rattle.clashes.proofs.Searched.{none_lone, lone_none}
use Rattle.parts.specs.Inputs.{names_unwired}
use Rattle.lines.specs.Says.{Said, says}
use Rattle.lines.specs.Hubs.{hubs, nodes}
use Rattle.lines.specs.Claims.{claims}
use Rattle.lines.specs.Routes.{arrival}
use Rattle.lines.specs.Rules.{too_many, both_kinds, no_bridge, no_input, lost, ranges_kept, rule_clash, rules_to_45, rules_from_51, map_rules, first_broken, keeps_rules, slot_places}
use Rattle.lines.specs.declared.Map.{Map}
use Rattle.lines.specs.declared.Places.{Places}
use Rattle.lines.proofs.Counts.{counts, few_of_kept}
use Rattle.map_promises.specs.Structures.{claim_of, Placed}
use Rattle.map_promises.specs.Statements.{PlacesDoNotMatter}
use Rattle.map_promises.proofs.Meetings.{same_claim, member, of_member, itself, no_sharing, finds_nothing}
use Rattle.map_promises.proofs.Slots.{slots_placed}
use Rattle.map_promises.proofs.Verdicts.{later_kept, kept_later, both_kept, kept_both, spotted_kept, kept_spotted}
use Rattle.std.specs.Prelude.{Ok, None}

module _ (said : Said) (p q : Places) (op : Placed said p) (oq : Placed said q) where
  -- no clash here, no clash there
  clash_moves : (rule : ℕ) → first_clash rule (claims said p) ≡ None → first_clash rule (claims said q) ≡ None
  clash_moves rule h =
      finds_nothing said q oq (itself said rule) (no_sharing said p op (itself said rule) h)

module _ (said : Said) (p q : Places) (op : Placed said p) where
  lone_moves : first_lone (nodes said) (claims said p) ≡ None → first_lone (nodes said) (claims said q) ≡ None
  lone_moves h =
      lone_none (nodes said) (claims said q)
      (λ x mx.
      let v = of_member said q x mx in
      ap (lone (nodes said)) v.2 ∙ ap (lone (nodes said)) (same_claim said q p v.0)
      ∙ none_lone (nodes said) (claims said p) h (claim_of said p v.0) (member said p op v.0 v.1))

-- a rule with a known place is kept wherever that is
known : (bad : Bool) (n here there : ℕ) → rule bad n here ≡ Ok tt → rule bad n there ≡ Ok tt
known bad n here there h = rule_sound bad n there (rule_kept bad n here h)

-- no rule is broken here, none there
moves : (map : Map) (p q : Places) → Placed (says map) p → Placed (says map) q → (a b c d : ℕ)
    → first_broken map p a b ≡ Ok tt → first_broken map q c d ≡ Ok tt
unfolding first_broken map_rules rules_to_45 rules_from_51 first_refusal unless
moves map p q op oq a b c d h =
    let said = says map in
    let f = each_sound (rule (too_many map) 38 a ∷ map_rules said p a b) h in
    let bad40 = not said.lio.present || eqb (length (hubs said)) 0 in
    let bad43 = no_bridge said.lpc said.bios in
    let bad44 = names_unwired said.lio said.ht in
    let bad45 = no_input said.lpc said.bios in
    let bad54 = lost (arrival said said.sci) in
    let clash : (n : ℕ) → rule_clash n (claims said p) ≡ Ok tt → rule_clash n (claims said q) ≡ Ok tt =
    λ n k. kept_both n (first_clash n (claims said q)) (clash_moves said p q op oq n (both_kept n (first_clash n (claims said p)) k)) in
    let e38 = known (too_many map) 38 a c (f 0) in
    let e40 = known bad40 40 a c (f 1) in
    let e41 = kept_later 41 (first_clash 41 (claims said q)) (clash_moves said p q op oq 41 (later_kept 41 (first_clash 41 (claims said p)) (f 2))) in
    let e42 = kept_spotted 42 (first_lone (nodes said) (claims said q)) (lone_moves said p q op (spotted_kept 42 (first_lone (nodes said) (claims said p)) (f 3))) in
    let e43 = known bad43 43 p.lpc q.lpc (f 4) in
    let e44 = known bad44 44 p.ht q.ht (f 5) in
    let e45 = known bad45 45 p.lpc q.lpc (f 6) in
    let e51 = clash 51 (f 7) in
    let e52 = clash 52 (f 8) in
    let e53 = clash 53 (f 9) in
    let e54 = known bad54 54 b d (f 10) in
    rw (e38, e40, e41, e42, e43, e44, e45, e51, e52, e53, e54)

few_of_first : (map : Map) (places : Places) (madt fadt : ℕ) → first_broken map places madt fadt ≡ Ok tt → too_many map ≡ false
unfolding first_broken
few_of_first map places madt fadt h =
    rule_kept (too_many map) 38 madt (each_sound (rule (too_many map) 38 madt ∷ map_rules (says map) places madt fadt) h 0)

to_kept : (map : Map) (places : Places) (madt fadt : ℕ) → Placed (says map) places → ranges_kept (says map) ≡ true
    → bit_in_both (says map).lio ≡ false → both_kinds (says map) ≡ false → first_broken map places madt fadt ≡ Ok tt → keeps_rules map ≡ true
unfolding keeps_rules is_sound
to_kept map places madt fadt ok ranged apart one h =
    rw (ranged, apart, one, moves map places slot_places ok (slots_placed map (counts map few)) madt fadt 0 0 h)
  where
    few : too_many map ≡ false
    few = few_of_first map places madt fadt h

kept_to : (map : Map) (places : Places) (madt fadt : ℕ) → Placed (says map) places → keeps_rules map ≡ true → first_broken map places madt fadt ≡ Ok tt
unfolding keeps_rules
kept_to map places madt fadt ok h =
    let w = ranges_kept (says map) && not (bit_in_both (says map).lio) && not (both_kinds (says map)) in
    let v = is_sound_lem (first_broken map slot_places 0 0) (and_right w (is_sound (first_broken map slot_places 0 0)) h) in
    moves map slot_places places (slots_placed map (counts map (few_of_kept map h))) ok 0 0 madt fadt v

-- THE PROMISE
pub places_do_not_matter : (map : Map) → PlacesDoNotMatter map
places_do_not_matter map places madt fadt ok = (to_kept map places madt fadt ok, kept_to map places madt fadt ok)
