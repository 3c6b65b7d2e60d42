-- A search among the claims of a map, said of its structures: it finds a clash exactly where two structures share what the rule
-- speaks of, wherever they stand, and names the first that shares with an earlier one.
use Prim.Native.Nat.{ℕ, ◌<◌, ◌≤◌}
use native.Mathlib.Omega.{arith}
use mathlib.Core.Path.{◌≡◌, refl, sym, ◌∙◌, ap, ap₂}
use mathlib.Core.Logic.{◌⊎◌, inl, inr, ⊎_elim}
use mathlib.Core.List.Memᴰ
use mathlib.Core.List.{List, [], ◌∷◌, ◌++◌, Memᴰ}
use mathlib.Core.Bool.{true, true≢false}
use borrow.Author.Tests.{lt-ltb}
use Rattle.clashes.specs.Rules.{clash}
use Rattle.clashes.specs.Search.{first_clash}
use Rattle.clashes.specs.declared.Claim.{Claim}
use Rattle.clashes.proofs.Searched.{hits, clear}
use Rattle.clashes.proofs.Symmetric.{clash_back}
use Rattle.parts.specs.Claims.{lio_claim, eio_claim, bio_claim, msi_claim}
use Rattle.kinds.specs.Used.{no_eio, no_bio, no_msi}
use Rattle.lines.specs.Says.{Said}
use Rattle.lines.specs.Claims.{placed, claims}
use Rattle.lines.specs.Rules.{slot_places}
use Rattle.lines.specs.declared.Places.{Places}
use Rattle.map_promises.specs.Structures.{Structure, lio, eio, bio, msi, IsIn, place_of, claim_of, Placed}
use Rattle.map_promises.specs.Clashing.{Sharing, Names}
use Rattle.map_promises.proofs.Logic.{order}
use Rattle.map_promises.proofs.Members.{placed_at, placed_of}
use Rattle.map_promises.proofs.SearchNames.{FirstClash, search_names}
use Rattle.std.specs.Prelude.{Option, Some, None}

-- two structures clash by a rule, wherever they stand
abbrev pub Clash : Said → ℕ → Structure → Structure → Type 0
Clash said rule s t = clash rule (claim_of said slot_places s) (claim_of said slot_places t) ≡ true

-- a claim but for its place
abbrev unplaced : Claim → Claim
unplaced x =
    record
    { place = 0; numbers = x.numbers; vectors = x.vectors; node = x.node; hub = x.hub; low = x.low; high = x.high }

pub same_claim : (said : Said) (p q : Places) (s : Structure) → unplaced (claim_of said p s) ≡ unplaced (claim_of said q s)
same_claim said p q lio = refl
same_claim said p q (eio e) = refl
same_claim said p q (bio j) = refl
same_claim said p q (msi m) = refl

clash_unplaced : (rule : ℕ) (x y : Claim) → clash rule x y ≡ clash rule (unplaced x) (unplaced y)
unfolding clash
clash_unplaced rule x y = refl

-- places do not make a clash
pub clash_anywhere : (said : Said) (rule : ℕ) (p q : Places) (s t : Structure)
    → clash rule (claim_of said p s) (claim_of said p t) ≡ clash rule (claim_of said q s) (claim_of said q t)
clash_anywhere said rule p q s t =
    clash_unplaced rule (claim_of said p s) (claim_of said p t)
    ∙ ap₂ (clash rule) (same_claim said p q s) (same_claim said p q t)
    ∙ sym (clash_unplaced rule (claim_of said q s) (claim_of said q t))

place_is : (said : Said) (p : Places) (s : Structure) → (claim_of said p s).place ≡ place_of p s
place_is said p lio = refl
place_is said p (eio e) = refl
place_is said p (bio j) = refl
place_is said p (msi m) = refl

module _ (said : Said) (p : Places) where
  abbrev ls : List Claim
  ls = lio_claim said.lio p.lio ∷ []

  abbrev es : List Claim
  es = placed eio_claim said.eios p.eios

  abbrev bs : List Claim
  bs = placed bio_claim said.bios p.bios

  abbrev ms : List Claim
  ms = placed msi_claim said.msis p.msis

-- every structure's claim is listed
pub member : (said : Said) (p : Places) → Placed said p → (s : Structure) → IsIn said s → Memᴰ (claim_of said p s) (claims said p)
unfolding claims
member said p ok lio k =
    Memᴰ.append_left (ms said p) (Memᴰ.append_left (bs said p) (Memᴰ.append_left {s = ls said p} (es said p) (Memᴰ.head refl)))
member said p ok (eio e) k =
    Memᴰ.append_left (ms said p)
    (Memᴰ.append_left (bs said p) (Memᴰ.append_right (ls said p) (placed_at eio_claim no_eio said.eios p.eios ok.eios e k)))
member said p ok (bio j) k =
    Memᴰ.append_left (ms said p)
    (Memᴰ.append_right (ls said p ++ es said p) (placed_at bio_claim no_bio said.bios p.bios ok.bios j k))
member said p ok (msi m) k =
    Memᴰ.append_right (ls said p ++ es said p ++ bs said p) (placed_at msi_claim no_msi said.msis p.msis ok.msis m k)

abbrev pub Of : Said → Places → Claim → Type 0
Of said p x = (s : Structure) × IsIn said s × (x ≡ claim_of said p s)

-- every claim that is listed is a structure's
pub of_member : (said : Said) (p : Places) (x : Claim) → Memᴰ x (claims said p) → Of said p x
unfolding claims
of_member said p x h =
    ⊎_elim
    (⊎_elim
    (⊎_elim
    (λ k. (lio, omega arith, Memᴰ.eq_of_singleton k))
    (λ k. let r = placed_of eio_claim no_eio said.eios p.eios x k in (eio r.0, r.1, r.2)))
    (λ k. let r = placed_of bio_claim no_bio said.bios p.bios x k in (bio r.0, r.1, r.2)))
    (λ k. let r = placed_of msi_claim no_msi said.msis p.msis x k in (msi r.0, r.1, r.2))
    (three (Memᴰ.append_cases (ls said p ++ es said p ++ bs said p) h))
  where
    two : Memᴰ x (ls said p ++ es said p) ⊎ Memᴰ x (bs said p)
        → (Memᴰ x (ls said p) ⊎ Memᴰ x (es said p)) ⊎ Memᴰ x (bs said p)
    two (inl k) = inl (Memᴰ.append_cases (ls said p) k)
    two (inr k) = inr k

    three : Memᴰ x (ls said p ++ es said p ++ bs said p) ⊎ Memᴰ x (ms said p)
        → ((Memᴰ x (ls said p) ⊎ Memᴰ x (es said p)) ⊎ Memᴰ x (bs said p)) ⊎ Memᴰ x (ms said p)
    three (inl k) = inl (two (Memᴰ.append_cases (ls said p ++ es said p) k))
    three (inr k) = inr k

module _ (said : Said) (p : Places) (ok : Placed said p) (rule : ℕ) where
  -- of two that clash the later one is found
  met : (s t : Structure) → IsIn said s → IsIn said t → place_of p t < place_of p s
      → clash rule (claim_of said p s) (claim_of said p t) ≡ true → first_clash rule (claims said p) ≡ None → ⊥
  met s t ks kt lt c h =
      let before : (claim_of said p t).place < (claim_of said p s).place = rw (place_is said p t, place_is said p s) lt in
      let e : hits rule (claim_of said p s) (claim_of said p t) ≡ true = rw (lt-ltb _ _ before, c) in
      true≢false
      (sym e
      ∙ clear rule (claims said p) h (claim_of said p s) (claim_of said p t) (member said p ok s ks) (member said p ok t kt))

  no_clash : first_clash rule (claims said p) ≡ None → (s t : Structure) → IsIn said s → IsIn said t → (s ≡ t → ⊥) → Clash said rule s t → ⊥
  no_clash h s t ks kt n w =
      let c : clash rule (claim_of said p s) (claim_of said p t) ≡ true = clash_anywhere said rule p slot_places s t ∙ w in
      ⊎_elim
      (λ lt. met t s kt ks lt (clash_back rule (claim_of said p s) (claim_of said p t) c) h)
      (⊎_elim (λ e. n (ok.apart s t ks kt e)) (λ gt. met s t ks kt gt c h))
      (order (place_of p s) (place_of p t))

-- ---- a rule and what it speaks of
-- two structures clash by a rule where they share something, and only there
pub record Agrees (said : Said) (rule : ℕ) (Share : Structure → Structure → Type 0) : Type 0 where
  pub shares : (s t : Structure) → IsIn said s → IsIn said t → Clash said rule s t → Share s t
  pub clashes : (s t : Structure) → IsIn said s → IsIn said t → (s ≡ t → ⊥) → Share s t → Clash said rule s t

-- the clash itself is such
pub itself : (said : Said) (rule : ℕ) → Agrees said rule (Clash said rule)
itself said rule = record { shares = λ s t ks kt c. c; clashes = λ s t ks kt n c. c }

module _ (said : Said) (places : Places) (ok : Placed said places) {rule : ℕ} {Share : Structure → Structure → Type 0} (a : Agrees said rule Share) where
  -- what shares clashes where it stands
  clashing : (s t : Structure) → IsIn said s → IsIn said t → place_of places t < place_of places s → Share s t
      → clash rule (claim_of said places s) (claim_of said places t) ≡ true
  clashing s t ks kt l w =
      clash_anywhere said rule places slot_places s t
      ∙ a.clashes s t ks kt (λ e. let z : place_of places s ≡ place_of places t = ap (place_of places) e in omega arith) w

  -- what the search names is the first structure that shares with an earlier one
  pub names : (p q : ℕ) → first_clash rule (claims said places) ≡ Some (p, q) → Names said places Share p q
  names p q h =
      let f = search_names rule (claims said places) p q h in
      let x = of_member said places f.x f.x_listed in
      let y = of_member said places f.y f.y_listed in
      let s_at : place_of places x.0 ≡ p =
      sym (place_is said places x.0) ∙ sym (ap (λ (c : Claim). c.place) x.2) ∙ f.x_at in
      let t_at : place_of places y.0 ≡ q =
      sym (place_is said places y.0) ∙ sym (ap (λ (c : Claim). c.place) y.2) ∙ f.y_at in
      let met : Clash said rule x.0 y.0 =
      clash_anywhere said rule slot_places places x.0 y.0 ∙ ap₂ (clash rule) (sym x.2) (sym y.2) ∙ f.clashes in
      record {
        s = x.0;
        t = y.0;
        s_in = x.1;
        t_in = y.1;
        s_at = s_at;
        t_at = t_at;
        earlier = f.earlier;
        share = a.shares x.0 y.0 x.1 y.1 met;
        first = λ u v ku kv l w. first f u v ku kv l (clashing u v ku kv l w);
        earliest = λ v kv l w. earliest f v kv l (ap (λ c. clash rule c (claim_of said places v)) x.2 ∙ clashing x.0 v x.1 kv (omega arith) w);
      }
    where
      first : FirstClash rule (claims said places) p q → (u v : Structure) → IsIn said u → IsIn said v → place_of places v < place_of places u
          → clash rule (claim_of said places u) (claim_of said places v) ≡ true → p ≤ place_of places u
      first f u v ku kv l c =
          let l' : (claim_of said places v).place < (claim_of said places u).place = rw (place_is said places v, place_is said places u) l in
          let r = f.first (claim_of said places u) (claim_of said places v) (member said places ok u ku) (member said places ok v kv) l' c in
          omega (arith, place_is said places u)

      earliest : (f : FirstClash rule (claims said places) p q) (v : Structure) → IsIn said v → place_of places v < p
          → clash rule f.x (claim_of said places v) ≡ true → q ≤ place_of places v
      earliest f v kv l c =
          let r = f.earliest (claim_of said places v) (member said places ok v kv) (omega (arith, place_is said places v)) c in
          omega (arith, place_is said places v)

  -- a search that finds nothing
  pub no_sharing : first_clash rule (claims said places) ≡ None → Sharing said Share → ⊥
  no_sharing h w =
      no_clash said places ok rule h w.s w.t w.s_in w.t_in w.differ (a.clashes w.s w.t w.s_in w.t_in w.differ w.share)

  -- one that finds two
  pub sharing : (p q : ℕ) → Names said places Share p q → Sharing said Share
  sharing p q n =
      record {
        s = n.s;
        t = n.t;
        s_in = n.s_in;
        t_in = n.t_in;
        differ = λ e. let z : place_of places n.s ≡ place_of places n.t = ap (place_of places) e in omega (arith, n.s_at, n.t_at, n.earlier);
        share = n.share;
      }

  pub finds_two : Sharing said Share → (p : ℕ) × (q : ℕ) × (first_clash rule (claims said places) ≡ Some (p, q))
  finds_two w = go (first_clash rule (claims said places)) refl
    where
      go : (c : Option (ℕ × ℕ)) → first_clash rule (claims said places) ≡ c → (p : ℕ) × (q : ℕ) × (first_clash rule (claims said places) ≡ Some (p, q))
      go None e = absurd (no_sharing e w)
      go (Some (p, q)) e = (p, q, e)

  pub finds_nothing : (Sharing said Share → ⊥) → first_clash rule (claims said places) ≡ None
  finds_nothing never = go (first_clash rule (claims said places)) refl
    where
      go : (c : Option (ℕ × ℕ)) → first_clash rule (claims said places) ≡ c → first_clash rule (claims said places) ≡ None
      go None e = e
      go (Some (p, q)) e = absurd (never (sharing p q (names p q e)))
