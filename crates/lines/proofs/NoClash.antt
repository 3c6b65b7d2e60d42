-- A map that passes the quick test breaks none of 41, 42 and 51 to 53, wherever its structures stand.
use Prim.Native.Nat.{ℕ}
use native.Mathlib.Omega.{arith}
use mathlib.Core.Path.{◌≡◌, refl, ◌∙◌}
use mathlib.Core.Logic.{◌⊎◌, inl, inr, ⊎_elim}
use mathlib.Core.List.Memᴰ
use mathlib.Core.List.{List, [], ◌∷◌, ◌++◌, Memᴰ}
use mathlib.Core.Bool.{Bool, true, false, not, ◌&&◌, ◌||◌, and-false}
use borrow.Author.Tests.{le-ltb, not-true}
use lib.Dec.{eqb}
use Rattle.words.specs.Lists.{every}
use Rattle.words.specs.Refusals.{unless, first_refusal}
use Rattle.kinds.specs.declared.Bio.{Bio}
use Rattle.clashes.specs.Rules.{no_node, clash, is_missing, lone}
use Rattle.clashes.specs.Apart.{apart}
use Rattle.clashes.specs.Search.{first_clash}
use Rattle.clashes.specs.Told.{at_later, at_both, spotted}
use Rattle.clashes.specs.declared.Claim.{Claim}
use Rattle.clashes.proofs.Logic.{and_left, and_right}
use Rattle.clashes.proofs.Apart.{apart-clash, apart_clash_back}
use Rattle.clashes.proofs.Searched.{hits, quiet as none-hits, lone_none}
use Rattle.parts.specs.Claims.{no_run, lio_claim, eio_claim, bio_claim, msi_claim}
use Rattle.lines.specs.Says.{Said}
use Rattle.lines.specs.Claims.{placed, claims}
use Rattle.lines.specs.Hubs.{nodes}
use Rattle.lines.specs.Quiet.{far_from, still_each, eios_quiet, bios_quiet, msis_quiet, quiet}
use Rattle.lines.specs.Rules.{rule40, rule43, rule44, rule45, rule54, rules_to_45, rules_from_51, map_rules}
use Rattle.lines.specs.declared.Places.{Places}
use Rattle.std.specs.Prelude.{None}

-- ---- lists of claims without a clash
module _ (rule : ℕ) where
  -- no claim clashes with one that stands before it
  abbrev AllClear : List Claim → Type 0
  AllClear l = (x y : Claim) → Memᴰ x l → Memᴰ y l → hits rule x y ≡ false

  abbrev Neither : Claim → Claim → Type 0
  Neither x y = (clash rule x y ≡ false) × (clash rule y x ≡ false)

  -- no claim of the one list clashes with one of the other
  abbrev Strangers : List Claim → List Claim → Type 0
  Strangers s t = (x y : Claim) → Memᴰ x s → Memᴰ y t → Neither x y

  no_hit : (x y : Claim) → clash rule x y ≡ false → hits rule x y ≡ false
  no_hit x y h = rw (h, and-false)

  clear_one : (x : Claim) → AllClear (x ∷ [])
  clear_one x y z my mz = rw (Memᴰ.eq_of_singleton my, Memᴰ.eq_of_singleton mz, le-ltb x.place x.place (omega arith))

  clear_append : (s t : List Claim) → AllClear s → AllClear t → Strangers s t → AllClear (s ++ t)
  clear_append s t a b k x y mx my = go (Memᴰ.append_cases s mx) (Memᴰ.append_cases s my)
    where
      go : Memᴰ x s ⊎ Memᴰ x t → Memᴰ y s ⊎ Memᴰ y t → hits rule x y ≡ false
      go (inl p) (inl q) = a x y p q
      go (inl p) (inr q) = no_hit x y (k x y p q).0
      go (inr p) (inl q) = no_hit x y (k y x q p).1
      go (inr p) (inr q) = b x y p q

  strangers_append : (s t u : List Claim) → Strangers s u → Strangers t u → Strangers (s ++ t) u
  strangers_append s t u a b x y mx my = ⊎_elim (λ p. a x y p my) (λ p. b x y p my) (Memᴰ.append_cases s mx)

  apart_neither : (x y : Claim) → apart x y ≡ true → Neither x y
  apart_neither x y h = (apart-clash rule x y h, apart_clash_back rule x y h)

-- ---- the claims of one kind, each with its place
module _ {A : Type 0} (claim : A → ℕ → Claim) where
  each_placed : (t : A → Bool) (P : Claim → Type 0) → ((y : A) (p : ℕ) → t y ≡ true → P (claim y p)) → (xs : List A) (ps : List ℕ)
      → every t xs ≡ true → (c : Claim) → Memᴰ c (placed claim xs ps) → P c
  unfolding placed
  each_placed t P f [] ps h c m = absurd (Memᴰ.not-nil m)
  each_placed t P f (x ∷ xs) [] h c m = absurd (Memᴰ.not-nil m)
  each_placed t P f (x ∷ xs) (p ∷ ps) h c m =
      ⊎_elim (λ e. rw e (f x p (and_left (t x) (every t xs) h))) (each_placed t P f xs ps (and_right (t x) (every t xs) h) c) (Memᴰ.cases_cons m)

  -- what is true of the claim of every structure of a kind
  all_placed : (P : Claim → Type 0) → ((y : A) (p : ℕ) → P (claim y p)) → (xs : List A) (ps : List ℕ)
      → (c : Claim) → Memᴰ c (placed claim xs ps) → P c
  unfolding placed
  all_placed P f [] ps c m = absurd (Memᴰ.not-nil m)
  all_placed P f (x ∷ xs) [] c m = absurd (Memᴰ.not-nil m)
  all_placed P f (x ∷ xs) (p ∷ ps) c m = ⊎_elim (λ e. rw e (f x p)) (all_placed P f xs ps c) (Memᴰ.cases_cons m)

  still_alone : (alone : A → Bool) (xs : List A) → still_each claim alone xs ≡ true → every alone xs ≡ true
  unfolding still_each
  still_alone alone [] h = refl
  still_alone alone (x ∷ xs) h =
      let far = far_from claim (claim x 0) xs in
      let rest = still_each claim alone xs in
      rw (and_left (alone x) far (and_left (alone x && far) rest h)) (still_alone alone xs (and_right (alone x && far) rest h))

  -- a claim that is far from a kind, at its place x'
  far_strangers : (rule : ℕ) (x x' : Claim) → ((y : A) (q : ℕ) → apart x' (claim y q) ≡ apart x (claim y 0)) → (xs : List A) (ps : List ℕ)
      → far_from claim x xs ≡ true → Strangers rule (x' ∷ []) (placed claim xs ps)
  unfolding far_from
  far_strangers rule x x' same xs ps h c d mc md =
      rw (Memᴰ.eq_of_singleton mc)
      (each_placed (λ y. apart x (claim y 0)) (λ d. Neither rule x' d) (λ y q t. apart_neither rule x' (claim y q) (same y q ∙ t)) xs ps h d md)

  still_clear : (rule : ℕ) (alone : A → Bool) → ((x y : A) (p q : ℕ) → apart (claim x p) (claim y q) ≡ apart (claim x 0) (claim y 0))
      → (xs : List A) (ps : List ℕ) → still_each claim alone xs ≡ true → AllClear rule (placed claim xs ps)
  unfolding still_each placed
  still_clear rule alone same [] ps h = λ x y mx my. absurd (Memᴰ.not-nil mx)
  still_clear rule alone same (z ∷ zs) [] h = λ x y mx my. absurd (Memᴰ.not-nil mx)
  still_clear rule alone same (z ∷ zs) (p ∷ ps) h =
      let far = far_from claim (claim z 0) zs in
      let rest = still_each claim alone zs in
      clear_append rule (claim z p ∷ []) (placed claim zs ps) (clear_one rule (claim z p))
      (still_clear rule alone same zs ps (and_right (alone z && far) rest h))
      (far_strangers rule (claim z 0) (claim z p) (λ y q. same z y p q) zs ps (and_right (alone z) far (and_left (alone z && far) rest h)))

-- ---- a LIO or an EIO, and a BIO or an MSI
never_both : (b : Bool) → (not b && b) ≡ false
never_both true = refl
never_both false = refl

never_entered : (b : Bool) → (not b && (b || b)) ≡ false
never_entered true = refl
never_entered false = refl

-- what claims neither numbers nor vectors is apart from what claims neither node nor core vector
sides : (x y : Claim) → x.numbers ≡ no_run → x.vectors ≡ no_run → y.node ≡ no_node → y.low ≡ 0 → y.high ≡ 0 → apart x y ≡ true
unfolding apart
sides x y a b n l h =
    rw (
      a,
      b,
      n,
      l,
      h,
      le-ltb y.numbers.first 0 (omega arith),
      le-ltb y.vectors.first 0 (omega arith),
      and-false,
      and-false,
      and-false,
      never_both (eqb x.node no_node),
      never_entered (eqb x.low 0),
      never_entered (eqb x.high 0),
    )

-- ---- all claims of a map
module _ (said : Said) (places : Places) (still : quiet said ≡ true) where
  abbrev ls : List Claim
  ls = lio_claim said.lio places.lio ∷ []

  abbrev es : List Claim
  es = placed eio_claim said.eios places.eios

  abbrev bs : List Claim
  bs = placed bio_claim said.bios places.bios

  abbrev ms : List Claim
  ms = placed msi_claim said.msis places.msis

  abbrev lio0 : Claim
  lio0 = lio_claim said.lio 0

  abbrev bio_alone : Bio → Bool
  bio_alone b = not (is_missing b.node (nodes said)) && far_from msi_claim (bio_claim b 0) said.msis

  eios_still : still_each eio_claim (λ e. apart lio0 (eio_claim e 0)) said.eios ≡ true
  unfolding quiet eios_quiet
  eios_still =
      let e = eios_quiet lio0 said.eios in
      let b = bios_quiet (nodes said) said.msis said.bios in
      and_left e b (and_left (e && b) (msis_quiet said.msis) still)

  bios_still : still_each bio_claim bio_alone said.bios ≡ true
  unfolding quiet bios_quiet
  bios_still =
      let e = eios_quiet lio0 said.eios in
      let b = bios_quiet (nodes said) said.msis said.bios in
      and_right e b (and_left (e && b) (msis_quiet said.msis) still)

  msis_still : still_each msi_claim (λ m. true) said.msis ≡ true
  unfolding quiet msis_quiet
  msis_still =
      let e = eios_quiet lio0 said.eios in
      let b = bios_quiet (nodes said) said.msis said.bios in
      and_right (e && b) (msis_quiet said.msis) still

  module _ (rule : ℕ) where
    lio-eios : Strangers rule ls es
    unfolding apart far_from
    lio-eios =
        far_strangers eio_claim rule lio0 (lio_claim said.lio places.lio) (λ y q. refl) said.eios places.eios
        (still_alone eio_claim (λ e. apart lio0 (eio_claim e 0)) said.eios eios_still)

    bios-msis : Strangers rule bs ms
    unfolding apart
    bios-msis x y mx my =
        each_placed bio_claim bio_alone (λ x. (d : Claim) → Memᴰ d ms → Neither rule x d)
        (λ b p t d md.
        far_strangers msi_claim rule (bio_claim b 0) (bio_claim b p) (λ y q. refl) said.msis places.msis
        (and_right (not (is_missing b.node (nodes said))) (far_from msi_claim (bio_claim b 0) said.msis) t) (bio_claim b p) d
        (Memᴰ.head refl) md)
        said.bios places.bios (still_alone bio_claim bio_alone said.bios bios_still) x mx y my

    apart_sides : (x y : Claim) → (x.numbers ≡ no_run) × (x.vectors ≡ no_run) → (y.node ≡ no_node) × (y.low ≡ 0) × (y.high ≡ 0) → Neither rule x y
    apart_sides x y a b = apart_neither rule x y (sides x y a.0 a.1 b.0 b.1 b.2)

    abbrev Front : Claim → Type 0
    Front x = (x.numbers ≡ no_run) × (x.vectors ≡ no_run)

    abbrev Back : Claim → Type 0
    Back y = (y.node ≡ no_node) × (y.low ≡ 0) × (y.high ≡ 0)

    front : (x : Claim) → Memᴰ x (ls ++ es) → Front x
    front x m =
        ⊎_elim (λ h. let e : x ≡ lio_claim said.lio places.lio = Memᴰ.eq_of_singleton h in rw e (refl, refl)) (all_placed eio_claim Front (λ e p. (refl, refl)) said.eios places.eios x)
        (Memᴰ.append_cases ls m)

    all_clear : AllClear rule (claims said places)
    unfolding apart claims
    all_clear =
        clear_append rule (ls ++ es ++ bs) ms
        (clear_append rule (ls ++ es) bs
        (clear_append rule ls es (clear_one rule (lio_claim said.lio places.lio))
        (still_clear eio_claim rule (λ e. apart lio0 (eio_claim e 0)) (λ x y p q. refl) said.eios places.eios eios_still) lio-eios)
        (still_clear bio_claim rule bio_alone (λ x y p q. refl) said.bios places.bios bios_still)
        (λ x y mx my. apart_sides x y (front x mx) (all_placed bio_claim Back (λ b p. (refl, refl, refl)) said.bios places.bios y my)))
        (still_clear msi_claim rule (λ m. true) (λ x y p q. refl) said.msis places.msis msis_still)
        (strangers_append rule (ls ++ es) bs ms
        (λ x y mx my. apart_sides x y (front x mx) (all_placed msi_claim Back (λ m p. (refl, refl, refl)) said.msis places.msis y my)) bios-msis)

    no_clash : first_clash rule (claims said places) ≡ None
    no_clash = none-hits rule (claims said places) all_clear

  -- 42: no claim stands alone
  abbrev Housed : Claim → Type 0
  Housed x = lone (nodes said) x ≡ false

  hubless : (x : Claim) → x.hub ≡ no_node → Housed x
  hubless x h = rw h

  housed : (x : Claim) → Memᴰ x (claims said places) → Housed x
  unfolding claims
  housed x m =
      ⊎_elim
      (λ k.
      ⊎_elim
      (λ j.
      ⊎_elim
      (λ i. let e : x ≡ lio_claim said.lio places.lio = Memᴰ.eq_of_singleton i in hubless x (rw e))
      (λ i. hubless x (all_placed eio_claim (λ y. y.hub ≡ no_node) (λ e p. refl) said.eios places.eios x i))
      (Memᴰ.append_cases ls j))
      (each_placed bio_claim bio_alone Housed
      (λ b p t.
      rw (not-true (is_missing b.node (nodes said)) (and_left (not (is_missing b.node (nodes said))) (far_from msi_claim (bio_claim b 0) said.msis) t), and-false))
      said.bios places.bios (still_alone bio_claim bio_alone said.bios bios_still) x)
      (Memᴰ.append_cases (ls ++ es) k))
      (λ k. hubless x (all_placed msi_claim (λ y. y.hub ≡ no_node) (λ e p. refl) said.msis places.msis x k))
      (Memᴰ.append_cases (ls ++ es ++ bs) m)

  -- only 40, 43 to 45 and 54 are left
  pub quiet-first : (madt fadt : ℕ)
      → first_refusal (map_rules said places madt fadt)
      ≡ first_refusal (rule40 said madt ∷ rule43 said places.lpc ∷ rule44 said places.ht ∷ rule45 said places.lpc ∷ rule54 said fadt ∷ [])
  unfolding first_refusal map_rules rules_to_45 rules_from_51 unless at_later at_both spotted
  quiet-first madt fadt = rw (no_clash 41, lone_none (nodes said) (claims said places) housed, no_clash 51, no_clash 52, no_clash 53)
