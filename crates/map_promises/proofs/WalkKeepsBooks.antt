-- The walk of a MADT that refuses nothing keeps its books: every structure of the map has its own place, the map keeps 71 to 78,
-- 37, 38 and 34, and "its unused places, an unused half's byte among them, hold 0".
use Prim.Native.Nat.{ℕ, ◌+◌, ◌<◌, ◌≤◌}
use native.Mathlib.Nat.{eq-or-lt_of_le}
use native.Mathlib.Omega.{arith}
use mathlib.Core.Path.{◌≡◌, refl, sym, ◌∙◌, ap, subst}
use mathlib.Core.Logic.{◌⊎◌, inl, inr, ⊎_elim}
use mathlib.Core.List.{List, []}
use mathlib.Core.Bool.{Bool, true, false, not, ◌&&◌, true≢false}
use borrow.Author.Tests.{eqb-true, eq-eqb, le-ltb, le-leb, leb-true}
use lib.Dec.{eqb, leb}
use lib.ListN.{length, get_or}
use Rattle.std.specs.Prelude.{Option, None, Some, is_none, Ok}
use Rattle.words.specs.Bytes.{byte_at}
use Rattle.words.specs.Choice.{if}
use Rattle.words.specs.Lists.{every}
use Rattle.words.specs.Refusals.{first_refusal}
use Rattle.words.proofs.Choices.{if_cases}
use Rattle.clashes.proofs.Logic.{and_left, and_right, both_true}
use Rattle.kinds.specs.Makers.{lio_of, ht_of, eio_of, msi_of, bio_of, lpc_of}
use Rattle.kinds.specs.Ranges.{half_fits, bit_in_both, lio_field, ht_field, eio_field, bio_field, pins_fit, msi_field, lpc_field}
use Rattle.kinds.specs.Used.{no_lio, no_ht, no_eio, no_bio, no_msi, no_lpc, used_half, said_lio, said_ht, said_lpc}
use Rattle.kinds.specs.declared.Lio.{Lio}
use Rattle.kinds.specs.declared.Ht.{Ht}
use Rattle.kinds.specs.declared.Lpc.{Lpc}
use Rattle.kinds.proofs.Used.{ht_present}
use Rattle.lines.specs.Says.{says}
use Rattle.lines.specs.Rules.{eios_fit, bios_fit, msis_fit, ranges_kept, too_many, both_kinds}
use Rattle.lines.specs.declared.Map.{Map}
use Rattle.lines.specs.declared.Places.{Places}
use Rattle.madt.specs.Pieces.{Whole, pieces, structures}
use Rattle.madt.specs.Rules.{is_type, shared_bit}
use Rattle.madt.specs.Contents.{of_type, how_many, made, standing, the_one, in_four, bridge_of, map_of, places_of, MadeBy, found_in}
use Rattle.madt.specs.Walk.{walk_rules, walked}
use Rattle.madt.proofs.Types.{type_yes}
use Rattle.madt.proofs.Contents.{made_many, standing_many, ht_there}
use Rattle.madt.proofs.Checks.{Kept, fits-lio, fits-ht, fits-eio, fits-msi, fits-bio, fits-lpc}
use Rattle.madt.proofs.Accepted.{no_whole, rules_sound, found_is, few_lios, few_eios, few_msis, few_bios, few_lpcs, OneKind, one_kind, kept_at}
use Rattle.map_promises.specs.Sources.{bio_at}
use Rattle.map_promises.specs.Structures.{Structure, lio, eio, bio, msi, IsIn, place_of, Placed}
use Rattle.map_promises.specs.Walks.{Normal, PinsInRange, WellKept, WalkKeepsBooks}
use Rattle.map_promises.proofs.Shelves.{take_four, one_at, past, at_four, at_every, map_at}
use Rattle.map_promises.proofs.InOrder.{pieces_in_order}
use Rattle.map_promises.proofs.Rising.{Rising, structures_rise, those_rise, rises_at, one_index, those-among}
use Rattle.map_promises.proofs.Unused.{half_mask, half_fits_lem, half_again, lio_unused, ht_unused, lpc_unused}

-- ---- some structures that stand one behind the other, behind the MADT's header, and each keep the rules
pub record Good (until : ℕ) (all : List Whole) : Type 0 where
  pub rise : Rising until 44 all
  pub kept : (i : ℕ) → i < length all → (n : ℕ) × Kept n (get_or all i no_whole).bytes
  pub eios : how_many 20 all ≤ 4
  pub bios : how_many 22 all ≤ 4
  pub msis : how_many 21 all ≤ 4
  pub lios : how_many 18 all ≤ 1
  pub lpcs : how_many 23 all ≤ 1
  pub kinds : OneKind all
  pub first : 44 ≤ until

-- those of a MADT that is not refused
pub good : (table : List ℕ) (base until : ℕ) → first_refusal (walk_rules table base) ≡ Ok tt → 44 ≤ until → length table ≤ until
    → Good until (structures (pieces table 44))
good table base until h first all =
    record {
      rise = structures_rise until 44 (pieces table 44) (pieces_in_order table until all 44 first);
      kept = kept_at table base h;
      eios = few_eios table base h;
      bios = few_bios table base h;
      msis = few_msis table base h;
      lios = few_lios table base h;
      lpcs = few_lpcs table base h;
      kinds = one_kind table base h;
      first = first;
    }

-- the structure at an index of those of one type
abbrev whole_at : ℕ → List Whole → ℕ → Whole
whole_at number all i = get_or (of_type number all) i no_whole

module _ {until : ℕ} {all : List Whole} (g : Good until all) (number i : ℕ) (l : i < how_many number all) where
  -- it is of its type, and keeps the rules
  pub typed : byte_at (whole_at number all i).bytes 0 ≡ number
  unfolding of_type is_type
  typed = eqb-true _ _ (those-among (λ x. is_type number x.bytes) all i l).3

  pub kept : (n : ℕ) × Kept n (whole_at number all i).bytes
  unfolding of_type
  kept =
      let r = those-among (λ x. is_type number x.bytes) all i l in
      rw r.2 at (g.kept r.0 r.1)

  -- it stands in the table
  pub inside : (44 ≤ (whole_at number all i).at) × ((whole_at number all i).at < until)
  unfolding of_type
  inside = rises_at until 44 (of_type number all) (those_rise until (λ x. is_type number x.bytes) 44 all g.rise) i l

  -- where it stands in the capture, and what it makes
  pub stands : (base : ℕ) → get_or (standing number base all) i 0 ≡ base + (whole_at number all i).at
  unfolding standing
  stands base = map_at (λ x. base + x.at) no_whole 0 (of_type number all) i l

  pub makes : {A : Type 0} (maker : List ℕ → A) (none : A) → get_or (made number maker all) i none ≡ maker (whole_at number all i).bytes
  unfolding made
  makes maker none = map_at (λ x. maker x.bytes) no_whole none (of_type number all) i l

-- of a kind of which there is one at most: what the map holds, and where it stands
module _ {until : ℕ} {all : List Whole} (g : Good until all) (number : ℕ) (few : how_many number all ≤ 1) where
  pub the_makes : {A : Type 0} → 0 < how_many number all → (maker : List ℕ → A) (none : A) → the_one none (made number maker all) ≡ maker (whole_at number all 0).bytes
  the_makes l maker none = one_at none (made number maker all) (omega (arith, made_many number maker all)) ∙ makes g number 0 l maker none

  pub the_none : {A : Type 0} → how_many number all ≡ 0 → (maker : List ℕ → A) (none : A) → the_one none (made number maker all) ≡ none
  the_none z maker none =
      one_at none (made number maker all) (omega (arith, made_many number maker all)) ∙ past none (made number maker all) 0 (omega (arith, made_many number maker all))

  pub the_stands : 0 < how_many number all → (base : ℕ) → the_one 0 (standing number base all) ≡ base + (whole_at number all 0).at
  the_stands l base = one_at 0 (standing number base all) (omega (arith, standing_many number base all)) ∙ stands g number 0 l base

  pub the_nowhere : how_many number all ≡ 0 → (base : ℕ) → the_one 0 (standing number base all) ≡ 0
  the_nowhere z base =
      one_at 0 (standing number base all) (omega (arith, standing_many number base all)) ∙ past 0 (standing number base all) 0 (omega (arith, standing_many number base all))

-- there is one of a kind, or none
pub there : (all : List Whole) (number : ℕ) → (0 < how_many number all) ⊎ (how_many number all ≡ 0)
there all number =
    ⊎_elim (λ (e : 0 ≡ how_many number all). inr (sym e)) (λ l. inl l) (eq-or-lt_of_le (let z : 0 ≤ how_many number all = omega arith in z))

-- an offset is that of one structure alone
module _ {until : ℕ} {all : List Whole} (g : Good until all) where
  same_type : (n i j : ℕ) → i < how_many n all → j < how_many n all → (whole_at n all i).at ≡ (whole_at n all j).at → i ≡ j
  unfolding of_type
  same_type n i j = one_index until 44 (of_type n all) (those_rise until (λ x. is_type n x.bytes) 44 all g.rise) i j

  one_structure : (n m i j : ℕ) → i < how_many n all → j < how_many m all → (whole_at n all i).at ≡ (whole_at m all j).at
      → whole_at n all i ≡ whole_at m all j
  unfolding of_type
  one_structure n m i j l k e =
      let a = those-among (λ x. is_type n x.bytes) all i l in
      let b = those-among (λ x. is_type m x.bytes) all j k in
      let same = one_index until 44 all g.rise a.0 b.0 a.1 b.1 (ap (λ (x : Whole). x.at) a.2 ∙ e ∙ sym (ap (λ (x : Whole). x.at) b.2)) in
      sym a.2 ∙ ap (λ (k : ℕ). get_or all k no_whole) same ∙ b.2

  pub one_place : (n m i j : ℕ) → i < how_many n all → j < how_many m all → (whole_at n all i).at ≡ (whole_at m all j).at → (n ≡ m) × (i ≡ j)
  one_place n m i j l k e =
      let type : n ≡ m = sym (typed g n i l) ∙ ap (λ (x : Whole). byte_at x.bytes 0) (one_structure n m i j l k e) ∙ typed g m j k in
      (type, subst (λ (m : ℕ). j < how_many m all → (whole_at n all i).at ≡ (whole_at m all j).at → i ≡ j) type (same_type n i j l) k e)

-- ---- the structures of the map, by type and index
abbrev number_of : Structure → ℕ
number_of lio = 18
number_of (eio e) = 20
number_of (bio j) = 22
number_of (msi m) = 21

abbrev index_of : Structure → ℕ
index_of lio = 0
index_of (eio e) = e
index_of (bio j) = j
index_of (msi m) = m

same_structure : (s t : Structure) → number_of s ≡ number_of t → index_of s ≡ index_of t → s ≡ t
same_structure lio lio n i = refl
same_structure (eio e) (eio f) n i = ap eio i
same_structure (bio j) (bio k) n i = ap bio i
same_structure (msi m) (msi o) n i = ap msi i
same_structure lio (eio f) n i = absurd (omega arith)
same_structure lio (bio k) n i = absurd (omega arith)
same_structure lio (msi o) n i = absurd (omega arith)
same_structure (eio e) lio n i = absurd (omega arith)
same_structure (eio e) (bio k) n i = absurd (omega arith)
same_structure (eio e) (msi o) n i = absurd (omega arith)
same_structure (bio j) lio n i = absurd (omega arith)
same_structure (bio j) (eio f) n i = absurd (omega arith)
same_structure (bio j) (msi o) n i = absurd (omega arith)
same_structure (msi m) lio n i = absurd (omega arith)
same_structure (msi m) (eio f) n i = absurd (omega arith)
same_structure (msi m) (bio k) n i = absurd (omega arith)

-- ---- what is said of the map
module _ {until : ℕ} {all : List Whole} (g : Good until all) (sci : ℕ) (pins : ℕ → ℕ) where
  said_eios : (says (map_of sci pins all)).eios ≡ made 20 eio_of all
  unfolding map_of
  said_eios = rw (sym (made_many 20 eio_of all)) (take_four no_eio (made 20 eio_of all) (rw (made_many 20 eio_of all) g.eios))

  said_bios : (says (map_of sci pins all)).bios ≡ made 22 (bridge_of pins) all
  unfolding map_of
  said_bios = rw (sym (made_many 22 (bridge_of pins) all)) (take_four no_bio (made 22 (bridge_of pins) all) (rw (made_many 22 (bridge_of pins) all) g.bios))

  said_msis : (says (map_of sci pins all)).msis ≡ made 21 msi_of all
  unfolding map_of
  said_msis = rw (sym (made_many 21 msi_of all)) (take_four no_msi (made 21 msi_of all) (rw (made_many 21 msi_of all) g.msis))

-- ---- the places
-- every structure of a map stands before `next`, and so do an HT and an LPC; only an absent LIO, HT or LPC stands at 0
pub record Standing (next : ℕ) (map : Map) (places : Places) : Type 0 where
  pub before : (s : Structure) → IsIn (says map) s → place_of places s < next
  pub behind : (s : Structure) → IsIn (says map) s → (s ≡ lio) ⊎ (0 < place_of places s)
  pub liobehind : map.lio.present ≡ true → 0 < places.lio
  pub htbehind : map.ht.present ≡ true → 0 < places.ht
  pub htbefore : places.ht < next
  pub lpcbehind : map.lpc.present ≡ true → 0 < places.lpc
  pub lpcbefore : places.lpc < next

module _ {until : ℕ} {all : List Whole} (g : Good until all) (base sci : ℕ) (pins : ℕ → ℕ) where
  -- where a structure that is there stands
  place_is : (s : Structure) → index_of s < how_many (number_of s) all → place_of (places_of base all) s ≡ base + (whole_at (number_of s) all (index_of s)).at
  unfolding places_of
  place_is lio l = the_stands g 18 g.lios l base
  place_is (eio e) l = at_four 0 (standing 20 base all) (rw (standing_many 20 base all) g.eios) e ∙ stands g 20 e l base
  place_is (bio j) l = at_four 0 (standing 22 base all) (rw (standing_many 22 base all) g.bios) j ∙ stands g 22 j l base
  place_is (msi m) l = at_four 0 (standing 21 base all) (rw (standing_many 21 base all) g.msis) m ∙ stands g 21 m l base

  -- a structure of the map is there, but for an absent LIO, whose place is 0
  abbrev There : Structure → Type 0
  There s = (index_of s < how_many (number_of s) all) ⊎ ((s ≡ lio) × (place_of (places_of base all) s ≡ 0))

  is_there : (s : Structure) → IsIn (says (map_of sci pins all)) s → There s
  unfolding places_of
  is_there lio h = ⊎_elim (λ l. inl l) (λ z. inr (refl, the_nowhere g 18 g.lios z base)) (there all 18)
  is_there (eio e) h = inl (omega (arith, ap length (said_eios g sci pins), made_many 20 eio_of all))
  is_there (bio j) h = inl (omega (arith, ap length (said_bios g sci pins), made_many 22 (bridge_of pins) all))
  is_there (msi m) h = inl (omega (arith, ap length (said_msis g sci pins), made_many 21 msi_of all))

  behind_header : (s : Structure) → index_of s < how_many (number_of s) all → 0 < place_of (places_of base all) s
  behind_header s l = omega (arith, place_is s l, (inside g (number_of s) (index_of s) l).0)

  -- different structures have different places
  apart : (s t : Structure) → There s → There t → place_of (places_of base all) s ≡ place_of (places_of base all) t → s ≡ t
  apart s t (inl a) (inl b) e =
      let same = one_place g (number_of s) (number_of t) (index_of s) (index_of t) a b (omega (arith, place_is s a, place_is t b)) in
      same_structure s t same.0 same.1
  apart s t (inl a) (inr w) e = absurd (omega (arith, behind_header s a, w.1))
  apart s t (inr w) (inl b) e = absurd (omega (arith, behind_header t b, w.1))
  apart s t (inr v) (inr w) e = v.0 ∙ sym w.0

  placed : Placed (says (map_of sci pins all)) (places_of base all)
  unfolding places_of
  placed =
      record {
        eios = omega (arith, ap length (said_eios g sci pins), made_many 20 eio_of all, g.eios);
        bios = omega (arith, ap length (said_bios g sci pins), made_many 22 (bridge_of pins) all, g.bios);
        msis = omega (arith, ap length (said_msis g sci pins), made_many 21 msi_of all, g.msis);
        apart = λ s t u v e. apart s t (is_there s u) (is_there t v) e;
      }

  -- the HT and the LPC, which claim nothing, have places too
  one_behind : (number : ℕ) → how_many number all ≤ 1 → 0 < how_many number all → 0 < the_one 0 (standing number base all)
  one_behind number few l = omega (arith, the_stands g number few l base, (inside g number 0 l).0)

  one_before : (number : ℕ) → how_many number all ≤ 1 → the_one 0 (standing number base all) < base + until
  one_before number few =
      ⊎_elim (λ l. omega (arith, the_stands g number few l base, (inside g number 0 l).1)) (λ z. omega (arith, the_nowhere g number few z base, g.first)) (there all number)

  pub standing_well : Standing (base + until) (map_of sci pins all) (places_of base all)
  unfolding map_of places_of
  standing_well =
      record {
        before = λ s u. ⊎_elim (λ l. omega (arith, place_is s l, (inside g (number_of s) (index_of s) l).1)) (λ w. omega (arith, w.1, g.first)) (is_there s u);
        behind = λ s u. ⊎_elim (λ l. inr (behind_header s l)) (λ w. inl w.0) (is_there s u);
        liobehind = λ h. ⊎_elim (one_behind 18 g.lios)
            (λ z. absurd (true≢false (sym h ∙ ap (λ (x : Lio). x.present) (the_none g 18 g.lios z (λ s. said_lio (lio_of s)) no_lio)))) (there all 18);
        htbehind = λ h. ⊎_elim (one_behind 19 g.kinds.0)
            (λ z. absurd (true≢false (sym h ∙ ap (λ (x : Ht). x.present) (the_none g 19 g.kinds.0 z ht_of no_ht)))) (there all 19);
        htbefore = one_before 19 g.kinds.0;
        lpcbehind = λ h. ⊎_elim (one_behind 23 g.lpcs)
            (λ z. absurd (true≢false (sym h ∙ ap (λ (x : Lpc). x.present) (the_none g 23 g.lpcs z lpc_of no_lpc)))) (there all 23);
        lpcbefore = one_before 23 g.lpcs;
      }

-- ---- 71 to 78, 37, 38 and 34
-- the LIO, without the bytes of its unused halves
pub record LioKept (x : Lio) : Type 0 where
  pub fits : is_none (lio_field x) ≡ true
  pub masks : bit_in_both x ≡ false
  pub normal : said_lio x ≡ x

no_lio_lem : LioKept no_lio
unfolding lio_field said_lio used_half if
no_lio_lem = record { fits = refl; masks = refl; normal = refl }

lio_kept : (x : Lio) → x.present ≡ true → is_none (lio_field x) ≡ true → bit_in_both x ≡ false → LioKept (said_lio x)
unfolding lio_field said_lio if
lio_kept x present field masks =
    let halves : (half_fits x.low && half_fits x.high) ≡ true =
    if_cases (λ (n : Option ℕ). is_none n ≡ true → (half_fits x.low && half_fits x.high) ≡ true) (half_fits x.low && half_fits x.high) None (Some 71)
    (λ t e. t) (λ t e. absurd (true≢false (sym e))) field in
    let low = half_fits_lem x.low (and_left (half_fits x.low) (half_fits x.high) halves) in
    let high = half_fits_lem x.high (and_right (half_fits x.low) (half_fits x.high) halves) in
    rw present
    (record {
      fits = rw (low, high);
      masks = rw (half_mask x.low, half_mask x.high) masks;
      normal = rw (half_again x.low, half_again x.high);
    })

module _ {until : ℕ} {all : List Whole} (g : Good until all) (sci : ℕ) (pins : ℕ → ℕ) where
  made-lio : (l : 0 < how_many 18 all) → LioKept (said_lio (lio_of (whole_at 18 all 0).bytes))
  unfolding shared_bit lio_of
  made-lio l =
      let s = (whole_at 18 all 0).bytes in
      let k = (kept g 18 0 l).1 in
      let t = typed g 18 0 l in
      lio_kept (lio_of s) refl (fits-lio k t) (rw (type_yes 18 s t) at k.r37)

  the_lio : LioKept (map_of sci pins all).lio
  unfolding map_of
  the_lio =
      ⊎_elim
      (λ l. rw (the_makes g 18 g.lios l (λ s. said_lio (lio_of s)) no_lio) (made-lio l))
      (λ z. rw (the_none g 18 g.lios z (λ s. said_lio (lio_of s)) no_lio) no_lio_lem)
      (there all 18)

  -- an HT says all that it has
  abbrev HtKept : Ht → Type 0
  HtKept x = (is_none (ht_field x) ≡ true) × (said_ht x ≡ x)

  the_ht : HtKept (map_of sci pins all).ht
  unfolding map_of ht_field said_ht ht_of if
  the_ht =
      ⊎_elim
      (λ l. rw (the_makes g 19 g.kinds.0 l ht_of no_ht) (fits-ht (kept g 19 0 l).1 (typed g 19 0 l), refl))
      (λ z. rw (the_none g 19 g.kinds.0 z ht_of no_ht) (refl, refl))
      (there all 19)

  -- an LPC says all that it has
  abbrev LpcKept : Lpc → Type 0
  LpcKept x = (is_none (lpc_field x) ≡ true) × (said_lpc x ≡ x)

  the_lpc : LpcKept (map_of sci pins all).lpc
  unfolding map_of lpc_field said_lpc lpc_of if
  the_lpc =
      ⊎_elim
      (λ l. rw (the_makes g 23 g.lpcs l lpc_of no_lpc) (fits-lpc (kept g 23 0 l).1 (typed g 23 0 l), refl))
      (λ z. rw (the_none g 23 g.lpcs z lpc_of no_lpc) (refl, refl))
      (there all 23)

  -- each structure of a kind that may repeat
  fit_all : {A : Type 0} (number : ℕ) (maker : List ℕ → A) (none : A) (test : A → Bool)
      → ((n : ℕ) (s : List ℕ) → Kept n s → byte_at s 0 ≡ number → test (maker s) ≡ true) → every test (made number maker all) ≡ true
  fit_all number maker none test fits =
      at_every none test (made number maker all)
      (λ i l.
      let here : i < how_many number all = omega (arith, made_many number maker all) in
      let k = kept g number i here in
      rw (makes g number i here maker none) (fits k.0 (whole_at number all i).bytes k.1 (typed g number i here)))

  -- a bridge: 7 has looked at its number of inputs
  bridge_fits : PinsInRange pins → (n : ℕ) (s : List ℕ) → Kept n s → byte_at s 0 ≡ 22 → (is_none (bio_field (bridge_of pins s)) && pins_fit (bridge_of pins s).pins) ≡ true
  unfolding bridge_of bio_field
  bridge_fits in-range n s k t =
      let few = in-range (bio_of s).node in
      both_true _ _ (fits-bio k t) (both_true _ _ (le-leb 1 _ few.0) (le-leb _ 64 few.1))

  ranges : PinsInRange pins → ranges_kept (says (map_of sci pins all)) ≡ true
  unfolding ranges_kept eios_fit bios_fit msis_fit
  ranges in-range =
      rw (
        the_lio.normal,
        the_lio.fits,
        the_ht.1,
        the_ht.0,
        said_eios g sci pins,
        fit_all 20 eio_of no_eio (λ e. is_none (eio_field e)) (λ n s k t. fits-eio k t),
        said_bios g sci pins,
        fit_all 22 (bridge_of pins) no_bio (λ b. is_none (bio_field b) && pins_fit b.pins) (bridge_fits in-range),
        said_msis g sci pins,
        fit_all 21 msi_of no_msi (λ m. is_none (msi_field m)) (λ n s k t. fits-msi k t),
        the_lpc.1,
        the_lpc.0,
      )

  pub few : too_many (map_of sci pins all) ≡ false
  unfolding map_of
  few = rw (le-ltb 4 (how_many 20 all) g.eios, le-ltb 4 (how_many 22 all) g.bios, le-ltb 4 (how_many 21 all) g.msis)

  -- where there is an HT, there is no EIO
  pub one_of_kinds : both_kinds (says (map_of sci pins all)) ≡ false
  unfolding map_of
  one_of_kinds =
      let present : (map_of sci pins all).ht.present ≡ leb 1 (how_many 19 all) = ht_there [] pins all {cores = how_many 17 all} made_itself in
      let eios : length (says (map_of sci pins all)).eios ≡ how_many 20 all = ap length (said_eios g sci pins) ∙ made_many 20 eio_of all in
      rw (ht_present (map_of sci pins all).ht, present, eios) (go (leb 1 (how_many 19 all)) refl)
    where
      made_itself : MadeBy pins all (how_many 17 all) (map_of sci pins all)
      made_itself = (refl, refl)

      go : (b : Bool) → leb 1 (how_many 19 all) ≡ b → (b && not (eqb (how_many 20 all) 0)) ≡ false
      go false e = refl
      go true e = rw (eq-eqb (how_many 20 all) 0 (g.kinds.1 (leb-true 1 (how_many 19 all) e)))

  -- a BIO has as many inputs as is told of its hardware ID
  pub counted : (j : ℕ) → j < length (says (map_of sci pins all)).bios
      → (get_or (says (map_of sci pins all)).bios j no_bio).pins ≡ pins (get_or (says (map_of sci pins all)).bios j no_bio).node
  unfolding bridge_of
  counted j l =
      let here : j < how_many 22 all = omega (arith, ap length (said_bios g sci pins), made_many 22 (bridge_of pins) all) in
      rw (said_bios g sci pins, makes g 22 j here (bridge_of pins) no_bio)

  -- ---- unused places hold 0
  unused : {A : Type 0} (number : ℕ) (maker : List ℕ → A) (none : A) → how_many number all ≤ 4 → (i : ℕ) → how_many number all ≤ i
      → get_or (in_four none (made number maker all)) i none ≡ none
  unused number maker none few i l =
      at_four none (made number maker all) (omega (arith, made_many number maker all)) i
      ∙ past none (made number maker all) i (omega (arith, made_many number maker all))

  normal : Normal (map_of sci pins all)
  unfolding map_of
  normal =
      let l = lio_unused (map_of sci pins all).lio (map_of sci pins all).lio.present refl the_lio.normal in
      record {
        foureios = refl;
        fourbios = refl;
        fourmsis = refl;
        eios = unused 20 eio_of no_eio g.eios;
        bios = unused 22 (bridge_of pins) no_bio g.bios;
        msis = unused 21 msi_of no_msi g.msis;
        low = l.0;
        high = l.1;
        nolio = l.2;
        noht = ht_unused (map_of sci pins all).ht the_ht.1;
        nolpc = lpc_unused (map_of sci pins all).lpc the_lpc.1;
      }

  pub well_kept : PinsInRange pins → (base : ℕ) → WellKept (map_of sci pins all) (places_of base all)
  well_kept in-range base =
      record { placed = placed g base sci pins; ranges = ranges in-range; r37 = rw the_lio.normal the_lio.masks; r38 = few; r34 = one_of_kinds; normal = normal }

-- the walk of a MADT, from its first structure to the end
pub walk_stands : (table : List ℕ) (base sci : ℕ) (pins : ℕ → ℕ) (until : ℕ) → 44 ≤ until → length table ≤ until → (walked table base sci pins).verdict ≡ Ok tt
    → Standing (base + until) (walked table base sci pins).found.map (walked table base sci pins).found.places
unfolding found_in
walk_stands table base sci pins until first all h =
    rw (found_is table base sci pins h) (standing_well (good table base until (rules_sound table base sci pins h) first all) base sci pins)

-- no kind has too many, whatever is told of bridges
pub walk_few : (table : List ℕ) (base sci : ℕ) (pins : ℕ → ℕ) → (walked table base sci pins).verdict ≡ Ok tt → too_many (walked table base sci pins).found.map ≡ false
unfolding found_in
walk_few table base sci pins h =
    rw (found_is table base sci pins h) (few (good table base (44 + length table) (rules_sound table base sci pins h) (omega arith) (omega arith)) sci pins)

-- and each BIO has as many inputs as is told of it
pub walk_counts : (table : List ℕ) (base sci : ℕ) (pins : ℕ → ℕ) → (walked table base sci pins).verdict ≡ Ok tt
    → (j : ℕ) → let said = says (walked table base sci pins).found.map in
    j < length said.bios → (bio_at said j).pins ≡ pins (bio_at said j).node
unfolding found_in
walk_counts table base sci pins h =
    rw (found_is table base sci pins h) (counted (good table base (44 + length table) (rules_sound table base sci pins h) (omega arith) (omega arith)) sci pins)

-- THE PROMISE
pub walk_keeps_books : (table : List ℕ) (base sci : ℕ) (pins : ℕ → ℕ) → WalkKeepsBooks table base sci pins
unfolding found_in map_of
walk_keeps_books table base sci pins in-range h =
    let g = good table base (44 + length table) (rules_sound table base sci pins h) (omega arith) (omega arith) in
    rw (found_is table base sci pins h) (well_kept g sci pins in-range base, refl)
