-- Each global number is answered by whose it is: a source's with its arrival, an unwired input's and an LPC line's as such, and
-- the rest with no owner.
use Prim.Native.Nat.{ℕ, ◌+◌, ◌-◌, ◌<◌, ◌≤◌}
use native.Mathlib.Nat.{add-sub_cancel_left}
use native.Mathlib.Omega.{arith}
use mathlib.Core.Path.{◌≡◌, refl, sym, ◌∙◌, ap, ap₂}
use mathlib.Core.Logic.{◌⊎◌, inl, inr, ⊎_elim}
use mathlib.Core.Bool.{true, false, true≢false}
use borrow.Author.Tests.{leb-true, ltb-true, le-leb, lt-ltb, le-ltb}
use lib.Dec.{leb, ltb}
use lib.ListN.{length}
use Rattle.std.specs.Prelude.{Ok}
use Rattle.words.specs.Choice.{if}
use Rattle.words.proofs.Choices.{yes_if}
use Rattle.clashes.proofs.Logic.{and_left, and_right, both_true, is_false}
use Rattle.parts.specs.Inputs.{wired, is_named, owns}
use Rattle.kinds.specs.Used.{no_bio}
use Rattle.lines.specs.Says.{Said, says}
use Rattle.lines.specs.Hubs.{hubs}
use Rattle.lines.specs.Routes.{lio_arrival, bio_owner, owner, arrival_of, arrival, through}
use Rattle.lines.specs.Rules.{keeps_rules}
use Rattle.lines.specs.Answers.{route_of}
use Rattle.lines.specs.declared.Map.{Map}
use Rattle.lines.specs.declared.Owner.{Owner}
use Rattle.lines.specs.declared.Owner.TheVariants.{LpcInput, LioInput, BioInput, Nobody}
use Rattle.lines.specs.declared.Route.{Route}
use Rattle.lines.specs.declared.Route.TheVariants.{Arrives, NoOwner, Unwired}
use Rattle.map_promises.specs.Sources.{input, pin, slot, bio_at, IsBehind}
use Rattle.map_promises.specs.Routing.{IsSourced, IsUnwired, IsLpcLine, Rest, RouteIsSources, UnwiredExactly, NoOwnerExactly, Owns, OwnerExactly}
use Rattle.map_promises.proofs.Bridges.{bridge_node}
use Rattle.map_promises.proofs.Kept.{Good, good, named-wired, bio_number}
use Rattle.map_promises.proofs.Logic.{same_answer, order, is_bool, wired_small}
use Rattle.map_promises.proofs.Members.{finds, found_or_not}
use Rattle.map_promises.proofs.NoTwoAlike.{pin_at, every_source_arrives}
use Rattle.map_promises.proofs.Ranged.{bio-fits}

-- ---- whose a number is
module _ (said : Said) where
  owner-lpc : (n : ℕ) → n < 16 → said.lpc.present ≡ true → owner said n ≡ LpcInput
  unfolding owner if
  owner-lpc n l p = rw (lt-ltb n 16 l, p)

  pub owner_nobody : (n : ℕ) → n < 16 → said.lpc.present ≡ false → owner said n ≡ Nobody
  unfolding owner if
  owner_nobody n l p = rw (lt-ltb n 16 l, p)

  pub owner-lio : (n : ℕ) → 16 ≤ n → n < 48 → is_named said.ht (n - 16) ≡ false → owner said n ≡ LioInput (n - 16)
  unfolding owner if
  owner-lio n l h free = rw (le-ltb n 16 l, lt-ltb n 48 h, free)

  -- a named input is nobody's
  pub owner-named : (n : ℕ) → 16 ≤ n → n < 48 → is_named said.ht (n - 16) ≡ true → owner said n ≡ Nobody
  unfolding owner if
  owner-named n l h named = rw (le-ltb n 16 l, lt-ltb n 48 h, named)

  pub owner-bio : (n : ℕ) → 48 ≤ n → owner said n ≡ bio_owner said.bios n
  unfolding owner if
  owner-bio n l = rw (le-ltb n 16 (omega arith), le-ltb n 48 l)

-- a map that keeps the rules is routed as it says
pub routed : (map : Map) → keeps_rules map ≡ true → (n : ℕ) → route_of map n ≡ Ok (arrival_of (says map) (owner (says map) n))
unfolding route_of arrival
routed map h n = yes_if _ _ _ h

-- an input that is not wired
not-wired : (said : Said) (i : ℕ) → wired said.lio i ≡ false → lio_arrival said.lio i ≡ Unwired
unfolding lio_arrival if
not-wired said i h = rw h

module _ (map : Map) (kept : keeps_rules map ≡ true) where
  abbrev said : Said
  said = says map

  abbrev g : Good said
  g = good map kept

  -- a bridge owns its numbers alone
  owned : (j n : ℕ) → j < length said.bios → (bio_at said j).base ≤ n → n < (bio_at said j).base + (bio_at said j).pins
      → bio_owner said.bios n ≡ BioInput (bio_at said j).node (n - (bio_at said j).base)
  unfolding bio_owner
  owned j n k a b =
      finds no_bio (owns n) (λ x. BioInput x.node (n - x.base)) Nobody said.bios j k
      (both_true (leb (bio_at said j).base n) (ltb n ((bio_at said j).base + (bio_at said j).pins)) (le-leb _ _ a) (lt-ltb _ _ b))
      (λ i h t.
      ap (λ m. BioInput (bio_at said m).node (n - (bio_at said m).base))
      (bio_number said g i j n h k
      (leb-true _ _ (and_left (leb (bio_at said i).base n) (ltb n ((bio_at said i).base + (bio_at said i).pins)) t))
      (ltb-true _ _ (and_right (leb (bio_at said i).base n) (ltb n ((bio_at said i).base + (bio_at said i).pins)) t)) a b))

  -- ---- where each kind of number is routed
  -- the LPC lines go where the pin of its bridge does
  pub lpc-line : (n : ℕ) → n < 16 → said.lpc.present ≡ true → (j : ℕ) → IsBehind said j
      → route_of map n ≡ Ok (through (hubs said) (bio_at said j).node said.lpc.cascade)
  unfolding arrival_of
  lpc-line n l p j b =
      routed map kept n ∙ ap Ok (ap (arrival_of said) (owner-lpc said n l p) ∙ ap (λ node. through (hubs said) node said.lpc.cascade) (sym (bridge_node said j b.1)))

  input_routed : (i : ℕ) → i < 32 → is_named said.ht i ≡ false → route_of map (16 + i) ≡ Ok (lio_arrival said.lio i)
  unfolding arrival_of
  input_routed i l free =
      let same : 16 + i - 16 ≡ i = add-sub_cancel_left 16 i in
      routed map kept (16 + i) ∙ rw (owner-lio said (16 + i) (omega arith) (omega arith) (rw same free), same)

  pin_routed : (j v : ℕ) → j < length said.bios → v < (bio_at said j).pins
      → route_of map ((bio_at said j).base + v) ≡ Ok (through (hubs said) (bio_at said j).node v)
  unfolding arrival_of
  pin_routed j v k l =
      let base = (bio_at said j).base in
      let f = bio-fits said g.ranged j k in
      let o = owner-bio said (base + v) (omega arith) ∙ owned j (base + v) k (omega arith) (omega arith) in
      routed map kept (base + v) ∙ ap Ok (ap (arrival_of said) o ∙ ap (through (hubs said) (bio_at said j).node) (add-sub_cancel_left base v))

  route_is_source : RouteIsSources map
  route_is_source (input i) n p e = ap (route_of map) (sym e) ∙ input_routed i (wired_small said.lio i p.0) p.1
  route_is_source (pin j v) n p e = ap (route_of map) (sym e) ∙ pin_routed j v p.0 p.1
  route_is_source (slot m s f) n p e = absurd e

  unwired_routed : (n : ℕ) → IsUnwired said n → route_of map n ≡ Ok Unwired
  unwired_routed n u =
      let free = is_false (is_named said.ht u.0) (λ t. true≢false (sym (named-wired said g u.0 t) ∙ u.2)) in
      ap (route_of map) (sym u.3) ∙ input_routed u.0 u.1 free ∙ ap Ok (not-wired said u.0 u.2)

  -- ---- every number is of one kind
  -- it arrives somewhere
  abbrev Lands : ℕ → Type 0
  Lands n = (vector : ℕ) × (number : ℕ) × (route_of map n ≡ Ok (Arrives vector number))

  lpc_lands : (n : ℕ) → IsLpcLine said n → Lands n
  lpc_lands n l =
      let w = g.behind l.1 in
      let a = pin_at said g w.0 said.lpc.cascade w.1.0.0 in
      (_, _, lpc-line n l.0 l.1 w.0 w.1 ∙ ap Ok a.3)

  source_lands : (n : ℕ) → IsSourced said n → Lands n
  source_lands n s =
      let a = every_source_arrives said g s.0 s.1 in
      (a.0, a.1, route_is_source s.0 n s.1 s.2 ∙ ap Ok a.2)

  abbrev Kinds : ℕ → Type 0
  Kinds n = IsLpcLine said n ⊎ (IsSourced said n ⊎ (IsUnwired said n ⊎ (route_of map n ≡ Ok NoOwner)))

  -- what owns it, but for nobody
  abbrev Holds : Owner → ℕ → Type 0
  Holds LpcInput n = Owns said LpcInput n
  Holds (LioInput i) n = Owns said (LioInput i) n
  Holds (BioInput node v) n = Owns said (BioInput node v) n
  Holds Nobody n = 0 < 1

  held_low : (n : ℕ) → n < 16 → Holds (owner said n) n
  held_low n l =
      ⊎_elim (λ no. rw (owner_nobody said n l no) (omega arith)) (λ yes. rw (owner-lpc said n l yes) (l, yes)) (is_bool said.lpc.present)

  held_lio : (n : ℕ) → 16 ≤ n → n < 48 → Holds (owner said n) n
  held_lio n a b =
      ⊎_elim
      (λ free. rw (owner-lio said n a b free) (omega arith, free, omega arith))
      (λ named. rw (owner-named said n a b named) (omega arith))
      (is_bool (is_named said.ht (n - 16)))

  held_pin : (n j : ℕ) → 48 ≤ n → j < length said.bios → owns n (bio_at said j) ≡ true → Holds (owner said n) n
  held_pin n j a k t =
      let base = (bio_at said j).base in
      let end = base + (bio_at said j).pins in
      let low : base ≤ n = leb-true _ _ (and_left (leb base n) (ltb n end) t) in
      let high : n < end = ltb-true _ _ (and_right (leb base n) (ltb n end) t) in
      rw (owner-bio said n a ∙ owned j n k low high) (j, (k, omega arith), omega arith, refl)

  held_bio : (n : ℕ) → 48 ≤ n → Holds (owner said n) n
  unfolding bio_owner
  held_bio n a =
      ⊎_elim
      (λ w. held_pin n w.0 a w.1 w.2)
      (λ w. rw (owner-bio said n a ∙ w.1) (omega arith))
      (found_or_not no_bio (owns n) (λ b. BioInput b.node (n - b.base)) Nobody said.bios)

  held : (n : ℕ) → Holds (owner said n) n
  held n =
      ⊎_elim
      (held_low n)
      (λ r. let a : 16 ≤ n = ⊎_elim (λ z. omega arith) (λ z. omega arith) r in
      ⊎_elim (held_lio n a) (λ s. held_bio n (⊎_elim (λ z. omega arith) (λ z. omega arith) s)) (order n 48))
      (order n 16)

  kind : (n : ℕ) → Kinds n
  unfolding arrival_of
  kind n = go (owner said n) refl (held n)
    where
      go : (o : Owner) → owner said n ≡ o → Holds o n → Kinds n
      go LpcInput e h = inl h
      go (LioInput i) e h =
          ⊎_elim (λ no. inr (inr (inl (i, h.0, no, h.2)))) (λ yes. inr (inl (input i, (yes, h.1), h.2))) (is_bool (wired said.lio i))
      go (BioInput node v) e h = inr (inl (pin h.0 v, h.1, h.2))
      go Nobody e h = inr (inr (inr (routed map kept n ∙ ap (λ (o : Owner). Ok (arrival_of said o)) e)))

  -- ---- the three answers are told apart
  lands_unwired : (n : ℕ) → Lands n → route_of map n ≡ Ok Unwired → ⊥
  lands_unwired n a e = let z : Arrives a.0 a.1 ≡ Unwired = same_answer (sym a.2 ∙ e) in let o : ◌≡◌ {A = ℕ} 0 1 = cc in omega arith

  lands_unowned : (n : ℕ) → Lands n → route_of map n ≡ Ok NoOwner → ⊥
  lands_unowned n a e = let z : Arrives a.0 a.1 ≡ NoOwner = same_answer (sym a.2 ∙ e) in let o : ◌≡◌ {A = ℕ} 0 1 = cc in omega arith

  unwired_unowned : (n : ℕ) → route_of map n ≡ Ok Unwired → route_of map n ≡ Ok NoOwner → ⊥
  unwired_unowned n d e = let z : ◌≡◌ {A = Route} Unwired NoOwner = same_answer (sym d ∙ e) in let o : ◌≡◌ {A = ℕ} 0 1 = cc in omega arith

  of_unwired : (n : ℕ) → route_of map n ≡ Ok Unwired → IsUnwired said n
  of_unwired n e =
      ⊎_elim
      (λ l. absurd (lands_unwired n (lpc_lands n l) e))
      (⊎_elim (λ s. absurd (lands_unwired n (source_lands n s) e)) (⊎_elim (λ u. u) (λ o. absurd (unwired_unowned n e o))))
      (kind n)

  of_unowned : (n : ℕ) → route_of map n ≡ Ok NoOwner → Rest said n
  of_unowned n e =
      record {
        sourced = λ s. lands_unowned n (source_lands n s) e;
        unwired = λ u. unwired_unowned n (unwired_routed n u) e;
        lpc = λ l. lands_unowned n (lpc_lands n l) e;
      }

  unowned : (n : ℕ) → Rest said n → route_of map n ≡ Ok NoOwner
  unowned n r =
      ⊎_elim
      (λ l. absurd (r.lpc l))
      (⊎_elim (λ s. absurd (r.sourced s)) (⊎_elim (λ u. absurd (r.unwired u)) (λ o. o)))
      (kind n)

  -- ---- the owner that is told is the one that owns the number
  owns_it : (n : ℕ) → Owns said (owner said n) n
  unfolding arrival_of
  owns_it n = go (owner said n) refl (held n)
    where
      go : (o : Owner) → owner said n ≡ o → Holds o n → Owns said o n
      go LpcInput e h = h
      go (LioInput i) e h = h
      go (BioInput node v) e h = h
      go Nobody e h = of_unowned n (routed map kept n ∙ ap (λ (o : Owner). Ok (arrival_of said o)) e)

  -- where nothing else has the number, nobody owns it
  nobody_owns : (n : ℕ) → Rest said n → owner said n ≡ Nobody
  nobody_owns n r = go (owner said n) refl (held n)
    where
      go : (o : Owner) → owner said n ≡ o → Holds o n → owner said n ≡ Nobody
      go LpcInput e h = absurd (r.lpc h)
      go (LioInput i) e h =
          absurd (⊎_elim (λ no. r.unwired (i, h.0, no, h.2)) (λ yes. r.sourced (input i, (yes, h.1), h.2)) (is_bool (wired said.lio i)))
      go (BioInput node v) e h = absurd (r.sourced (pin h.0 v, h.1, h.2))
      go Nobody e h = e

  owned_so : (whose : Owner) (n : ℕ) → Owns said whose n → owner said n ≡ whose
  owned_so LpcInput n h = owner-lpc said n h.0 h.1
  owned_so (LioInput i) n h =
      let same : n - 16 ≡ i = omega (arith, h.2) in
      owner-lio said n (omega (arith, h.2)) (omega (arith, h.0, h.2)) (rw same h.1) ∙ ap LioInput same
  owned_so (BioInput node v) n h =
      let base = (bio_at said h.0).base in
      let f = bio-fits said g.ranged h.0 h.1.0 in
      let less = h.1.1 in
      let is = h.2 in
      let same : n - base ≡ v = omega arith in
      owner-bio said n (omega arith) ∙ owned h.0 n h.1.0 (omega arith) (omega arith) ∙ ap₂ BioInput h.3 same
  owned_so Nobody n h = nobody_owns n h

-- THE PROMISES
pub route_is_sources : (map : Map) → keeps_rules map ≡ true → RouteIsSources map
route_is_sources map h = route_is_source map h

pub unwired-exactly : (map : Map) → keeps_rules map ≡ true → UnwiredExactly map
unwired-exactly map h n = (of_unwired map h n, unwired_routed map h n)

pub no_owner_exactly : (map : Map) → keeps_rules map ≡ true → NoOwnerExactly map
no_owner_exactly map h n = (of_unowned map h n, unowned map h n)

pub owner-exactly : (map : Map) → keeps_rules map ≡ true → OwnerExactly map
owner-exactly map h whose n = ((λ e. rw e at (owns_it map h n)), owned_so map h whose n)
