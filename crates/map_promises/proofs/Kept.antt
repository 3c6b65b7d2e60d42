-- What it tells of a map that it keeps the rules, as facts about its structures.
use Prim.Native.Nat.{ℕ, ◌+◌, ◌-◌, ◌<◌, ◌≤◌}
use native.Mathlib.Omega.{arith}
use mathlib.Core.Path.{◌≡◌, refl, sym, ◌∙◌, ap}
use mathlib.Core.Logic.{⊎_elim}
use mathlib.Core.List.{◌∷◌}
use mathlib.Core.Bool.{true, not, ◌&&◌, true≢false}
use borrow.Author.Tests.{eqb-true, not-true, not-false}
use lib.Bits.{bit_and}
use lib.Dec.{eqb}
use lib.ListN.{length, get_or}
use Rattle.words.specs.Lists.{every}
use Rattle.words.specs.Refusals.{rule, is_sound}
use Rattle.words.proofs.Verdicts.{is_sound_lem, rule_kept, each_sound}
use Rattle.kinds.specs.Ranges.{bit_in_both}
use Rattle.clashes.specs.Search.{first_clash, first_lone}
use Rattle.clashes.proofs.Logic.{and_left, and_right, is_false}
use Rattle.parts.specs.Inputs.{wired, core_vector, input_for, is_named, names_unwired}
use Rattle.lines.specs.Says.{Said, says}
use Rattle.lines.specs.Hubs.{hubs, nodes}
use Rattle.lines.specs.Claims.{claims}
use Rattle.lines.specs.Rules.{too_many, both_kinds, no_bridge, no_input, ranges_kept, rule_clash, rules_to_45, rules_from_51, map_rules, first_broken, keeps_rules, slot_places}
use Rattle.lines.specs.declared.Map.{Map}
use Rattle.lines.proofs.Counts.{counts, few_of_kept}
use Rattle.map_promises.specs.Sources.{pin, slot, eio_at, hub_at, bio_at, msi_at, IsBehind}
use Rattle.map_promises.specs.Structures.{Structure, lio, eio}
use Rattle.map_promises.specs.Clashing.{Enters, NamesUnwired, Sharing, TwoNode, TwoNumber, TwoVector, TwoCore}
use Rattle.map_promises.proofs.Bridges.{behind_bridge}
use Rattle.map_promises.proofs.Hubs.{OwnHub, each_hub, bio_hub}
use Rattle.map_promises.proofs.Logic.{is_bool, order}
use Rattle.map_promises.proofs.Members.{every-at, not-every}
use Rattle.map_promises.proofs.Meetings.{no_sharing}
use Rattle.map_promises.proofs.Ranged.{bio-fits}
use Rattle.map_promises.proofs.Sharing.{node_agrees, number_agrees, vector_agrees, core_agrees, number_sharing, vector_sharing}
use Rattle.map_promises.proofs.Slots.{slots_placed}
use Rattle.map_promises.proofs.Unused.{lio_said}
use Rattle.map_promises.proofs.Verdicts.{hub_there, later_kept, both_kept, spotted_kept}
use Rattle.std.specs.Prelude.{Ok, None}

-- ---- the bytes of an HT
-- a byte names an input that is not wired
pub unwired-named : (said : Said) → NamesUnwired said → names_unwired said.lio said.ht ≡ true
unfolding names_unwired
unwired-named said w =
    rw (w.0, is_false (every (wired said.lio) said.ht.bytes) (λ t. true≢false (sym (every-at 0 (wired said.lio) said.ht.bytes t w.1 w.2) ∙ w.3)))

pub named-unwired : (said : Said) → names_unwired said.lio said.ht ≡ true → NamesUnwired said
unfolding names_unwired
named-unwired said h =
    let all = every (wired said.lio) said.ht.bytes in
    let w = not-every 0 (wired said.lio) said.ht.bytes (not-true all (and_right said.ht.present (not all) h)) in
    (and_left said.ht.present (not all) h, w.0, w.1, w.2)

-- a byte names an input
named_byte : (said : Said) (i : ℕ) → is_named said.ht i ≡ true
    → (said.ht.present ≡ true) × (n : ℕ) × (n < length said.ht.bytes) × (get_or said.ht.bytes n 0 ≡ i)
unfolding is_named
named_byte said i h =
    let none = every (λ b. not (eqb b i)) said.ht.bytes in
    let w = not-every 0 (λ b. not (eqb b i)) said.ht.bytes (not-true none (and_right said.ht.present (not none) h)) in
    (and_left said.ht.present (not none) h, w.0, w.1, eqb-true _ _ (not-false _ w.2))

-- the rules, as facts about what is said
pub record Good (said : Said) : Type 0 where
  pub ranged : ranges_kept said ≡ true
  pub masks : bit_and said.lio.low.mask said.lio.high.mask ≡ 0
  pub some : length (hubs said) ≡ 0 → ⊥
  pub no41 : TwoNode said → ⊥
  pub hub : (j : ℕ) → j < length said.bios → OwnHub said j
  pub no44 : NamesUnwired said → ⊥
  pub behind : said.lpc.present ≡ true → (j : ℕ) × IsBehind said j
  pub no51 : TwoNumber said → ⊥
  pub no52 : TwoVector said → ⊥
  pub no53 : TwoCore said → ⊥

pub good : (map : Map) → keeps_rules map ≡ true → Good (says map)
unfolding keeps_rules first_broken map_rules rules_to_45 rules_from_51
good map h =
    let said = says map in
    let two = ranges_kept said && not (bit_in_both said.lio) in
    let w = two && not (both_kinds said) in
    let r = and_left two (not (both_kinds said)) (and_left w (is_sound (first_broken map slot_places 0 0)) h) in
    let v = is_sound_lem (first_broken map slot_places 0 0) (and_right w (is_sound (first_broken map slot_places 0 0)) h) in
    let ranged = and_left (ranges_kept said) (not (bit_in_both said.lio)) r in
    let apart = not-true (bit_in_both said.lio) (and_right (ranges_kept said) (not (bit_in_both said.lio)) r) in
    let ok = slots_placed map (counts map (few_of_kept map h)) in
    let f = each_sound (rule (too_many map) 38 0 ∷ map_rules said slot_places 0 0) v in
    let some = hub_there said 0 (f 1) in
    let hub = bio_hub said ranged slot_places ok (spotted_kept 42 (first_lone (nodes said) (claims said slot_places)) (f 3)) in
    let low0 = (lio_said map.lio).0 in
    let high0 = (lio_said map.lio).1 in
    let none : (n : ℕ) → rule_clash n (claims said slot_places) ≡ Ok tt → first_clash n (claims said slot_places) ≡ None =
    λ n. both_kept n (first_clash n (claims said slot_places)) in
    record {
      ranged = ranged;
      masks = eqb-true _ 0 (not-false (eqb (bit_and said.lio.low.mask said.lio.high.mask) 0) apart);
      some = some;
      no41 = no_sharing said slot_places ok (node_agrees said ranged) (later_kept 41 (first_clash 41 (claims said slot_places)) (f 2));
      hub = hub;
      behind = behind_bridge said
          (rule_kept (no_bridge said.lpc said.bios) 43 14 (f 4))
          (rule_kept (no_input said.lpc said.bios) 45 14 (f 6));
      no44 = λ w. true≢false (sym (unwired-named said w) ∙ rule_kept (names_unwired said.lio said.ht) 44 15 (f 5));
      no51 = λ w. no_sharing said slot_places ok (number_agrees said ranged) (none 51 (f 7)) (number_sharing said w);
      no52 = λ w. no_sharing said slot_places ok (vector_agrees said ranged some hub) (none 52 (f 8)) (vector_sharing said w);
      no53 = no_sharing said slot_places ok (core_agrees said ranged low0 high0) (none 53 (f 9));
    }

-- two numbers that cannot differ are equal
same : (i j : ℕ) → ((i ≡ j → ⊥) → ⊥) → i ≡ j
same i j h =
    ⊎_elim (λ lt. absurd (h (λ e. omega arith))) (⊎_elim (λ e. e) (λ gt. absurd (h (λ e. omega arith)))) (order i j)

module _ (said : Said) (g : Good said) where
  -- two EIO that share are one
  one_eio : {Share : Structure → Structure → Type 0} → (Sharing said Share → ⊥)
      → (i j : ℕ) → i < length said.eios → j < length said.eios → Share (eio i) (eio j) → i ≡ j
  one_eio never i j hi hj w =
      same i j (λ n. never (record { s = eio i; t = eio j; s_in = hi; t_in = hj; differ = λ q. n cc; share = w }))

  -- 41: two EIO of one node are one
  pub eio_node : (i j : ℕ) → i < length said.eios → j < length said.eios → (eio_at said i).node ≡ (eio_at said j).node → i ≡ j
  eio_node i j hi hj e = one_eio g.no41 i j hi hj ((eio_at said i).node, refl, sym e)

  -- 53: two EIO of one cascade are one
  pub eio_core : (i j : ℕ) → i < length said.eios → j < length said.eios → (eio_at said i).cascade ≡ (eio_at said j).cascade → i ≡ j
  eio_core i j hi hj e = one_eio g.no53 i j hi hj ((eio_at said i).cascade, refl, sym e)

  -- 53: no EIO enters where a half of the LIO does
  pub eio-not-lio : (e : ℕ) → e < length said.eios → Enters said lio (eio_at said e).cascade → ⊥
  eio-not-lio e k h =
      g.no53
      (record {
        s = eio e;
        t = lio;
        s_in = k;
        t_in = omega arith;
        differ = λ z. let o : ◌≡◌ {A = ℕ} 0 1 = cc in omega arith;
        share = ((eio_at said e).cascade, refl, h);
      })

  -- ---- hubs
  -- 41: two hubs of one node are one
  pub hub_node : (i j : ℕ) → i < length (hubs said) → j < length (hubs said) → (hub_at said i).node ≡ (hub_at said j).node → i ≡ j
  hub_node i j hi hj =
      each_hub said (λ i x. (j : ℕ) → j < length (hubs said) → x.node ≡ (hub_at said j).node → i ≡ j)
      (λ y. each_hub said (λ j z. 0 ≡ z.node → 0 ≡ j) (λ _ e. refl) (λ n. absurd (true≢false (sym y ∙ n))))
      (λ n i k. each_hub said (λ j z. (eio_at said i).node ≡ z.node → i ≡ j) (λ y. absurd (true≢false (sym y ∙ n))) (λ _ j l e. eio_node i j k l e))
      i hi j hj

  -- 53: what enters with one number by two hubs is one vector of one hub; the HT is alone
  pub hub_core : (i j v w : ℕ) → i < length (hubs said) → j < length (hubs said)
      → (hub_at said i).core v ≡ (hub_at said j).core w → (hub_at said i).above + v ≡ (hub_at said j).above + w → (i ≡ j) × (v ≡ w)
  hub_core i j v w hi hj =
      each_hub said
      (λ i x. (j : ℕ) → j < length (hubs said) → x.core v ≡ (hub_at said j).core w → x.above + v ≡ (hub_at said j).above + w → (i ≡ j) × (v ≡ w))
      (λ y. each_hub said (λ j z. core_vector said.lio (input_for said.ht v) ≡ z.core w → 256 + v ≡ z.above + w → (0 ≡ j) × (v ≡ w))
      (λ _ c n. (refl, omega arith)) (λ n j l c e. absurd (true≢false (sym y ∙ n))))
      (λ n i k. each_hub said (λ j z. (eio_at said i).cascade ≡ z.core w → 0 + v ≡ z.above + w → (i ≡ j) × (v ≡ w))
      (λ y. absurd (true≢false (sym y ∙ n))) (λ _ j l c e. (eio_core i j k l c, omega arith)))
      i hi j hj

  -- nor does a LIO input enter where a hub leads to: an EIO enters by a core vector of its own, and numbers of the HT begin at 256
  pub hub_not_lio : (e v i : ℕ) → e < length (hubs said) → (hub_at said e).above + v ≡ i → i < 32 → Enters said lio ((hub_at said e).core v) → ⊥
  hub_not_lio e v i k =
      each_hub said (λ e x. x.above + v ≡ i → i < 32 → Enters said lio (x.core v) → ⊥)
      (λ y n l. absurd (omega arith)) (λ n e l m s. eio-not-lio e l) e k

  -- ---- 44: a named input is wired
  pub named-wired : (i : ℕ) → is_named said.ht i ≡ true → wired said.lio i ≡ true
  named-wired i h =
      let w = named_byte said i h in
      ⊎_elim
      (λ no. absurd (g.no44 (w.0, w.1, w.2, ap (wired said.lio) w.3 ∙ no)))
      (λ yes. yes)
      (is_bool (wired said.lio i))

  -- 52: two bridges of one node are one
  pub bio_node : (i j : ℕ) → i < length said.bios → j < length said.bios → (bio_at said i).node ≡ (bio_at said j).node → i ≡ j
  bio_node i j hi hj e =
      let w = g.hub i hi in
      let some : (k : ℕ) → k < length said.bios → 0 < (bio_at said k).pins = λ k l. (bio-fits said g.ranged k l).3 in
      same i j
      (λ n. g.no52 (pin i 0, pin j 0, (hi, some i hi), (hj, some j hj), (λ q. n cc), w.0, 0, w.1, (w.2, refl), (w.2 ∙ e, refl)))

  -- 51: two bridges that own one global number are one
  pub bio_number : (i j n : ℕ) → i < length said.bios → j < length said.bios
      → (bio_at said i).base ≤ n → n < (bio_at said i).base + (bio_at said i).pins → (bio_at said j).base ≤ n → n < (bio_at said j).base + (bio_at said j).pins → i ≡ j
  bio_number i j n hi hj a b c d =
      same i j
      (λ z. g.no51 (
        pin i (n - (bio_at said i).base),
        pin j (n - (bio_at said j).base),
        (hi, omega arith),
        (hj, omega arith),
        (λ q. z cc),
        n,
        omega arith,
        omega arith,
      ))

  -- 52: two MSI that have one slot are one
  pub msi_slot : (i j s : ℕ) → i < length said.msis → j < length said.msis
      → (msi_at said i).start ≤ s → s < (msi_at said i).start + (msi_at said i).count
      → (msi_at said j).start ≤ s → s < (msi_at said j).start + (msi_at said j).count → i ≡ j
  msi_slot i j s hi hj a b c d =
      let l : 0 < length (hubs said) = omega (arith, g.some) in
      same i j
      (λ z. g.no52 (slot i s 0, slot j s 0, (hi, l, a, b), (hj, l, c, d), (λ q. z cc), 0, s, l, (refl, refl), (refl, refl)))

  -- 52: no slot is a pin's extended vector
  pub bio-msi : (j m s : ℕ) → j < length said.bios → m < length said.msis
      → s < (bio_at said j).pins → (msi_at said m).start ≤ s → s < (msi_at said m).start + (msi_at said m).count → ⊥
  bio-msi j m s hj hm a b c =
      let w = g.hub j hj in
      g.no52 (
        pin j s,
        slot m s w.0,
        (hj, a),
        (hm, w.1, b, c),
        (λ z. let o : ◌≡◌ {A = ℕ} 0 1 = cc in omega arith),
        w.0,
        s,
        w.1,
        (w.2, refl),
        (refl, refl),
      )
