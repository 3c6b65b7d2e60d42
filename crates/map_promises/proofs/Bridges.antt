-- The LPC's bridge, by its place: there is one, or 43 is broken, and then its input is one that it has, or 45 is.
use Prim.Native.Nat.{ℕ, zero, suc, ◌<◌}
use native.Mathlib.Omega.{arith}
use mathlib.Core.Path.{◌≡◌, refl, sym, ◌∙◌, ap}
use mathlib.Core.Logic.{◌⊎◌, inl, inr, ⊎_elim}
use mathlib.Core.Bool.{Bool, true, false, not, ◌&&◌, true≢false}
use borrow.Author.Tests.{eqb-true, eq-eqb, ne_eqb, leb-true, leb-false, le-leb}
use lib.Dec.{eqb, leb}
use lib.ListN.{length, take, get_or, length-take}
use lib.Seq.{get_or-take}
use Rattle.words.specs.Lists.{first, every}
use Rattle.kinds.specs.Used.{no_bio}
use Rattle.kinds.specs.declared.Bio.{Bio}
use Rattle.clashes.proofs.Logic.{and_left, and_right, both_true}
use Rattle.parts.specs.Inputs.{is_bridge}
use Rattle.lines.specs.Says.{Said}
use Rattle.lines.specs.Rules.{no_bridge, no_input}
use Rattle.map_promises.specs.Sources.{bio_at, is_lpc_bridge, IsBehind}
use Rattle.map_promises.specs.Clashing.{NoBridge, NoInput}
use Rattle.map_promises.proofs.Logic.{same_bool, neq, order}
use Rattle.map_promises.proofs.Members.{every-at, at_every, finds_first, finds_none, first_or_none}

module _ (said : Said) where
  -- the bridge at place j is the LPC's
  abbrev Bridge : ℕ → Type 0
  Bridge j = (j < length said.bios) × (is_lpc_bridge said j ≡ true)

  -- it has the LPC's node
  pub bridge_node : (j : ℕ) → is_lpc_bridge said j ≡ true → (bio_at said j).node ≡ said.lpc.node
  bridge_node j h = eqb-true _ _ (and_left (is_bridge said.lpc (bio_at said j)) (every (λ b. not (is_bridge said.lpc b)) (take j said.bios)) h)

  -- where no BIO has that, there is none
  abbrev None : Type 0
  None = (j : ℕ) → j < length said.bios → (bio_at said j).node ≡ said.lpc.node → ⊥

  bridge_or_none : ((j : ℕ) × Bridge j) ⊎ None
  bridge_or_none =
      ⊎_elim
      (λ w. inl (w.0, (w.1.0, both_true (is_bridge said.lpc (bio_at said w.0)) _ w.1.1 w.1.2)))
      (λ n. inr (λ j l. neq _ _ (every-at no_bio (λ b. not (is_bridge said.lpc b)) said.bios n j l)))
      (first_or_none no_bio (is_bridge said.lpc) said.bios)

  -- what a search for it answers
  of_bridge : {R : Type 0} (found : Bio → R) (none : R) (j : ℕ) → Bridge j → first (is_bridge said.lpc) found none said.bios ≡ found (bio_at said j)
  of_bridge found none j b =
      let here = is_bridge said.lpc (bio_at said j) in
      let before = every (λ b. not (is_bridge said.lpc b)) (take j said.bios) in
      finds_first no_bio (is_bridge said.lpc) found none said.bios j (b.0, and_left here before b.1, and_right here before b.1)

  of_none : {R : Type 0} (found : Bio → R) (none : R) → None → first (is_bridge said.lpc) found none said.bios ≡ none
  of_none found none n = finds_none no_bio (is_bridge said.lpc) found none said.bios (λ j l t. n j l (eqb-true _ _ t))

  -- ---- 43
  pub no_bridge_lem : no_bridge said.lpc said.bios ≡ true → NoBridge said
  unfolding no_bridge
  no_bridge_lem h =
      let none = every (λ b. not (is_bridge said.lpc b)) said.bios in (
        and_left said.lpc.present none h,
        λ j l. neq _ _ (every-at no_bio (λ b. not (is_bridge said.lpc b)) said.bios (and_right said.lpc.present none h) j l),
      )

  pub bridge_gone : NoBridge said → no_bridge said.lpc said.bios ≡ true
  unfolding no_bridge
  bridge_gone w =
      both_true said.lpc.present _ w.0
      (at_every no_bio (λ b. not (is_bridge said.lpc b)) said.bios (λ j l. rw (ne_eqb (bio_at said j).node said.lpc.node (w.1 j l))))

  -- ---- 45
  -- a bridge lacks the input
  abbrev short : Bio → Bool
  short b = leb b.pins said.lpc.cascade

  pub no_input_lem : no_input said.lpc said.bios ≡ true → NoInput said
  unfolding no_input
  no_input_lem h =
      let lacks = first (is_bridge said.lpc) short false said.bios in
      let t = and_right said.lpc.present lacks h in
      ⊎_elim
      (λ w. (and_left said.lpc.present lacks h, w.0, w.1.0, w.1.1, leb-true _ _ (sym (of_bridge short false w.0 w.1) ∙ t)))
      (λ n. absurd (true≢false (sym t ∙ of_none short false n)))
      bridge_or_none

  pub input_gone : NoInput said → no_input said.lpc said.bios ≡ true
  unfolding no_input
  input_gone w =
      both_true said.lpc.present _ w.0 (of_bridge short false w.1 (w.2, w.3) ∙ le-leb _ _ w.4)

  -- ---- an LPC that lacks neither has both
  pub behind_bridge : no_bridge said.lpc said.bios ≡ false → no_input said.lpc said.bios ≡ false → said.lpc.present ≡ true
      → (j : ℕ) × IsBehind said j
  unfolding no_input
  behind_bridge has43 has45 p =
      ⊎_elim
      (λ w. (w.0, ((w.1.0, leb-false _ _ (sym (of_bridge short false w.0 w.1) ∙ (rw p at has45))), w.1.1)))
      (λ n. absurd (true≢false (sym (bridge_gone (p, n)) ∙ has43)))
      bridge_or_none

  -- ---- where all bridges have the LPC's node, the first is the LPC's
  module _ (alike : (j : ℕ) → j < length said.bios → (bio_at said j).node ≡ said.lpc.node) where
    first_bridge : 0 < length said.bios → is_lpc_bridge said 0 ≡ true
    first_bridge some = both_true (is_bridge said.lpc (bio_at said 0)) _ (eq-eqb _ _ (alike 0 some)) refl

    -- and no other is
    pub only_first : (j : ℕ) → j < length said.bios → is_lpc_bridge said j ≡ true → j ≡ 0
    only_first zero l h = refl
    only_first (suc j) l h =
        let here = is_bridge said.lpc (bio_at said (suc j)) in
        let before = every (λ b. not (is_bridge said.lpc b)) (take (suc j) said.bios) in
        let few : 0 < length (take (suc j) said.bios) = omega (arith, length-take (suc j) said.bios) in
        let own : get_or (take (suc j) said.bios) 0 no_bio ≡ bio_at said 0 = get_or-take (suc j) said.bios 0 no_bio (omega arith) in
        let other = every-at no_bio (λ b. not (is_bridge said.lpc b)) (take (suc j) said.bios) (and_right here before h) 0 few in
        absurd (neq (bio_at said 0).node said.lpc.node (rw own at other) (alike 0 (omega arith)))

    -- 43 and 45
    pub none_as_before : no_bridge said.lpc said.bios ≡ (said.lpc.present && eqb (length said.bios) 0)
    unfolding no_bridge
    none_as_before =
        ap (λ (t : Bool). said.lpc.present && t)
        (same_bool _ _
        (λ t. eq-eqb _ _ (no_bios (λ some. neq _ _ (every-at no_bio (λ b. not (is_bridge said.lpc b)) said.bios t 0 some) (alike 0 some))))
        (λ t. at_every no_bio (λ b. not (is_bridge said.lpc b)) said.bios (λ j l. absurd (let e : length said.bios ≡ 0 = eqb-true _ _ t in omega arith))))
      where
        no_bios : (0 < length said.bios → ⊥) → length said.bios ≡ 0
        no_bios never = ⊎_elim (λ some. absurd (never some)) (λ none. ⊎_elim (λ e. omega arith) (λ l. omega arith) none) (order 0 (length said.bios))

    pub input_as_before : 0 < length said.bios → no_input said.lpc said.bios ≡ (said.lpc.present && short (bio_at said 0))
    unfolding no_input
    input_as_before some = ap (λ (t : Bool). said.lpc.present && t) (of_bridge short false 0 (some, first_bridge some))
