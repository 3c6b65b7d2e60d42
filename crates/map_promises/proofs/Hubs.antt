-- The hubs of a map, one by one: the HT, or the EIO. And rule 42: every bridge has a hub of its node, or the first that has none is named.
use Prim.Native.Nat.{ℕ, ◌<◌}
use native.Mathlib.Omega.{arith}
use mathlib.Core.Path.{◌≡◌, refl, sym, ◌∙◌, ap, subst}
use mathlib.Core.Logic.{◌⊎◌, inl, inr, ⊎_elim}
use mathlib.Core.List.{List, [], ◌∷◌, map}
use mathlib.Core.Bool.{Bool, true, false, not, true≢false}
use borrow.Author.Tests.{eqb-true, ne_eqb}
use lib.Dec.{eqb}
use lib.ListN.{length, get_or, length-map}
use Rattle.words.specs.Choice.{if}
use Rattle.kinds.specs.Used.{no_eio}
use Rattle.clashes.specs.Rules.{no_node, is_missing, lone}
use Rattle.clashes.specs.Search.{first_lone}
use Rattle.clashes.specs.declared.Claim.{Claim}
use Rattle.clashes.proofs.Searched.{none_lone}
use Rattle.lines.specs.Says.{Said}
use Rattle.lines.specs.Hubs.{Hub, eio_hub, ht_hub, hubs, hubs_of, nodes, nodes_of}
use Rattle.lines.specs.Claims.{claims}
use Rattle.lines.specs.Rules.{ranges_kept}
use Rattle.lines.specs.declared.Places.{Places}
use Rattle.lines.proofs.Landing.{every_made, ht_alone, eios_only}
use Rattle.map_promises.specs.Sources.{eio_at, no_hub, hub_at, bio_at}
use Rattle.map_promises.specs.Structures.{Structure, lio, eio, bio, msi, IsIn, claim_of, Placed}
use Rattle.map_promises.specs.Clashing.{IsLone, LoneBio, NamesLone}
use Rattle.map_promises.proofs.Logic.{is_bool, neq}
use Rattle.map_promises.proofs.Members.{every-at, at_every, found_or_not}
use Rattle.map_promises.proofs.Meetings.{member, of_member}
use Rattle.map_promises.proofs.Ranged.{bio-fits}
use Rattle.map_promises.proofs.SearchNames.{search_lone}
use Rattle.map_promises.proofs.Shelves.{map_at}
use Rattle.std.specs.Prelude.{Option, Some, None}

module _ (said : Said) where
  -- what holds of the HT alone, where there is one, and of each EIO, where there is none, holds of each hub at its place
  pub each_hub : (P : ℕ → Hub → Type 0)
      → (said.ht.present ≡ true → P 0 (ht_hub said.lio said.ht))
      → (said.ht.present ≡ false → (e : ℕ) → e < length said.eios → P e (eio_hub (eio_at said e)))
      → (e : ℕ) → e < length (hubs said) → P e (hub_at said e)
  each_hub P of_ht of_eio = ⊎_elim without with (is_bool said.ht.present)
    where
      of_list : (l : List Hub) → hubs said ≡ l → ((e : ℕ) → e < length l → P e (get_or l e no_hub)) → (e : ℕ) → e < length (hubs said) → P e (hub_at said e)
      of_list l same each = rw same each

      without : said.ht.present ≡ false → (e : ℕ) → e < length (hubs said) → P e (hub_at said e)
      without n =
          of_list (map eio_hub said.eios) (eios_only said.lio said.ht said.eios n)
          (λ e l.
          let k : e < length said.eios = omega (arith, length-map said.eios eio_hub) in
          subst (P e) (sym (map_at eio_hub no_eio no_hub said.eios e k)) (of_eio n e k))

      with : said.ht.present ≡ true → (e : ℕ) → e < length (hubs said) → P e (hub_at said e)
      with y =
          of_list (ht_hub said.lio said.ht ∷ []) (ht_alone said.lio said.ht said.eios y)
          (λ e l. let z : e ≡ 0 = omega arith in rw z (of_ht y))

  -- their nodes
  nodes_are : nodes said ≡ map (λ (h : Hub). h.node) (hubs said)
  unfolding nodes_of hubs_of if
  nodes_are = go said.ht.present
    where
      made : (eios : List _) → map (λ e. e.node) eios ≡ map (λ (h : Hub). h.node) (map eio_hub eios)
      made [] = refl
      made (e ∷ es) = ap (λ (l : List ℕ). e.node ∷ l) (made es)

      go : (b : Bool) → if b (0 ∷ []) (map (λ e. e.node) said.eios) ≡ map (λ (h : Hub). h.node) (if b (ht_hub said.lio said.ht ∷ []) (map eio_hub said.eios))
      go true = refl
      go false = made said.eios

-- the hub of a bridge
abbrev pub OwnHub : Said → ℕ → Type 0
OwnHub said j = (e : ℕ) × (e < length (hubs said)) × ((hub_at said e).node ≡ (bio_at said j).node)

module _ (said : Said) (ranged : ranges_kept said ≡ true) (p : Places) (ok : Placed said p) where
  -- no hub has its node, or there is one
  is-missing : (n : ℕ) → ((e : ℕ) → e < length (hubs said) → not (eqb (hub_at said e).node n) ≡ true) → is_missing n (nodes said) ≡ true
  is-missing n f =
      ap (is_missing n) (nodes_are said) ∙ every_made (λ (h : Hub). h.node) (λ m. not (eqb m n)) (hubs said)
      ∙ at_every no_hub (λ (h : Hub). not (eqb h.node n)) (hubs said) f

  missing : (n : ℕ) → is_missing n (nodes said) ≡ true → (e : ℕ) → e < length (hubs said) → not (eqb (hub_at said e).node n) ≡ true
  missing n h =
      every-at no_hub (λ (h : Hub). not (eqb h.node n)) (hubs said)
      (sym (every_made (λ (h : Hub). h.node) (λ m. not (eqb m n)) (hubs said)) ∙ ap (is_missing n) (sym (nodes_are said)) ∙ h)

  hub_or_none : (j : ℕ) → j < length said.bios → (is_missing (bio_at said j).node (nodes said) ≡ true) ⊎ OwnHub said j
  hub_or_none j k =
      let n = (bio_at said j).node in
      ⊎_elim
      (λ w. inr (w.0, w.1, eqb-true _ _ w.2))
      (λ w. inl (is-missing n (λ e l. rw (w.0 e l))))
      (found_or_not no_hub (λ h. eqb h.node n) (λ h. h) no_hub (hubs said))

  -- a BIO's claim stands alone exactly where no hub has its node
  lone_is : (j : ℕ) → j < length said.bios → lone (nodes said) (claim_of said p (bio j)) ≡ is_missing (bio_at said j).node (nodes said)
  lone_is j k = let l = (bio-fits said ranged j k).0 in rw (ne_eqb (bio_at said j).node no_node (omega arith))

  pub bio_hub : first_lone (nodes said) (claims said p) ≡ None → (j : ℕ) → j < length said.bios → OwnHub said j
  bio_hub kept j k =
      ⊎_elim
      (λ none.
      absurd
      (true≢false
      (sym none ∙ sym (lone_is j k) ∙ none_lone (nodes said) (claims said p) kept (claim_of said p (bio j)) (member said p ok (bio j) k))))
      (λ h. h)
      (hub_or_none j k)

  -- ---- what the search for it names
  -- only a BIO stands alone
  lone_one : (s : Structure) → IsIn said s → lone (nodes said) (claim_of said p s) ≡ true → (j : ℕ) × (s ≡ bio j) × IsLone said j
  lone_one lio k h = absurd (true≢false (sym h))
  lone_one (eio e) k h = absurd (true≢false (sym h))
  lone_one (msi m) k h = absurd (true≢false (sym h))
  lone_one (bio j) k h =
      (j, refl, (k, λ e l. neq (hub_at said e).node (bio_at said j).node (missing (bio_at said j).node (sym (lone_is j k) ∙ h) e l)))

  one_lone : (j : ℕ) → IsLone said j → lone (nodes said) (claim_of said p (bio j)) ≡ true
  one_lone j w = lone_is j w.0 ∙ ⊎_elim (λ none. none) (λ h. absurd (w.1 h.0 h.1 h.2)) (hub_or_none j w.0)

  pub names-lone : (q : ℕ) → first_lone (nodes said) (claims said p) ≡ Some q → NamesLone said p q
  names-lone q h =
      let f = search_lone (nodes said) (claims said p) q h in
      let x = of_member said p f.0.0 f.0.1 in
      let w = lone_one x.0 x.1 (ap (lone (nodes said)) (sym x.2) ∙ f.0.2) in
      record {
        j = w.0;
        lone = w.2;
        at = ap (λ (c : Claim). c.place) (sym (x.2 ∙ ap (claim_of said p) w.1)) ∙ f.0.3;
        first = λ i l. f.1 (claim_of said p (bio i)) (member said p ok (bio i) l.0) (one_lone i l);
      }

  pub finds_lone : LoneBio said → (q : ℕ) × (first_lone (nodes said) (claims said p) ≡ Some q)
  finds_lone w = go (first_lone (nodes said) (claims said p)) refl
    where
      go : (s : Option ℕ) → first_lone (nodes said) (claims said p) ≡ s → (q : ℕ) × (first_lone (nodes said) (claims said p) ≡ Some q)
      go (Some q) e = (q, e)
      go None e = let h = bio_hub e w.0 w.1.0 in absurd (w.1.1 h.0 h.1 h.2)
