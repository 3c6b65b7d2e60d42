-- What it tells that the walk of a MADT refused nothing: what it found is what the structures make, all of them are taken, each of
-- them keeps the rules, no kind has too many, and not both HT and EIO are there.
use mathlib.Core.Path.{◌≡◌, refl, sym, ap, ◌∙◌}
use mathlib.Core.Bool.{Bool, true, false, ◌&&◌, ◌||◌}
use mathlib.Core.List.{List, [], ◌∷◌, ◌++◌, map, append-nil, append_assoc}
use Prim.Native.Nat.{ℕ, zero, suc, ◌+◌, ◌≤◌, ◌<◌}
use native.Mathlib.Omega.{arith}
use lib.ListN.{length, get_or, drop}
use lib.Seq.{get_or-take, get_or-drop}
use borrow.Author.Tests.{eqb-true, leb-false}
use lib.Dec.{leb}
use Rattle.words.specs.Bytes.{byte_at, part_at}
use Rattle.words.specs.Lists.{those}
use Rattle.words.specs.Refusals.{Verdict, unless, first_refusal}
use Rattle.words.proofs.Choices.{if_cases}
use Rattle.words.proofs.Verdicts.{not_sound, first_sound, joined_kept, unless_sound, unless-told}
use Rattle.words.proofs.Tests.{both_left}
use Rattle.clashes.proofs.Logic.{or_neither}
use Rattle.words.proofs.Those.{those_narrower}
use Rattle.tables.specs.Structures.{step_at}
use Rattle.tables.specs.declared.Step.{Step}
use Rattle.tables.specs.declared.Step.TheVariants.{End, Structure, Broken}
use Rattle.words.specs.declared.Refusal.{Refusal}
use Rattle.madt.specs.Pieces.{Piece, whole, cut, Whole, piece_at, pieces_from, pieces, structures}
use Rattle.madt.specs.Rules.{is_type, structure_rules}
use Rattle.madt.specs.Contents.{of_type, how_many, is_enabled_core, enabled_cores, offsets_of, found_in}
use Rattle.madt.specs.Walk.{rules_in_turn, gives_both, kind_rules, walk_rules, turned_away, Walked, walked}
use Rattle.madt.specs.AsAnswered.{walk}
use Rattle.madt.specs.Noting.{taken_in_turn, taken}
use Rattle.madt.specs.declared.Found.{Found}
use Rattle.madt.proofs.Pieces.{step_inside, step_length}
use Rattle.madt.proofs.Contents.{count_more, count_same}
use Rattle.madt.proofs.Checks.{Kept, all_kept, length_core, room_core, room_lio, room_eio, room_msi, room_bio, room_lpc}
use Rattle.std.specs.Prelude.{Result, Ok, Err}

-- ---- what it found
-- its verdict is the first refusal of its rules
pub walk_verdict : (table : List ℕ) (base sci : ℕ) (pins : ℕ → ℕ) → (walked table base sci pins).verdict ≡ first_refusal (walk_rules table base)
unfolding walked turned_away
walk_verdict table base sci pins = unless-told turned_away (λ w. w.verdict) (λ r. refl) _ _ refl

stands : (v : Verdict) (w : Walked) → (unless turned_away v w).verdict ≡ Ok tt → (v ≡ Ok tt) × (unless turned_away v w ≡ w)
unfolding unless turned_away
stands (Ok tt) w h = (refl, refl)
stands (Err r) w h = not_sound h

module _ (table : List ℕ) (base sci : ℕ) (pins : ℕ → ℕ) (h : (walked table base sci pins).verdict ≡ Ok tt) where
  pub rules_sound : first_refusal (walk_rules table base) ≡ Ok tt
  unfolding walked
  rules_sound = (stands _ _ h).0

  pub found_is : (walked table base sci pins).found ≡ found_in base sci pins (structures (pieces table 44))
  unfolding walked
  found_is = ap (λ (w : Walked). w.found) (stands _ _ h).1

-- ---- the walk as the program answers it
-- what an answer tells
unfoldable told : Result Found Refusal → Walked
told (Ok found) = record { verdict = Ok tt; found = found }
told (Err refusal) = turned_away refusal

told_unless : (v : Verdict) (f : Found) → told (unless Err v (Ok f)) ≡ unless turned_away v (record { verdict = Ok tt; found = f })
unfolding told unless
told_unless (Ok tt) f = refl
told_unless (Err r) f = refl

module _ (table : List ℕ) (base sci : ℕ) (pins : ℕ → ℕ) where
  -- it is the walk
  walk-told : told (walk table base sci pins) ≡ walked table base sci pins
  unfolding walk walked
  walk-told = told_unless (first_refusal (walk_rules table base)) _

  -- so of each answer
  pub walk-refused : {refusal : Refusal} → walk table base sci pins ≡ Err refusal → (walked table base sci pins).verdict ≡ Err refusal
  unfolding told turned_away
  walk-refused h = ap (λ (w : Walked). w.verdict) (sym walk-told ∙ ap told h)

  pub walk_found : {found : Found} → walk table base sci pins ≡ Ok found
      → ((walked table base sci pins).verdict ≡ Ok tt) × ((walked table base sci pins).found ≡ found)
  unfolding told
  walk_found h = let e = sym walk-told ∙ ap told h in (ap (λ (w : Walked). w.verdict) e, ap (λ (w : Walked). w.found) e)

-- ---- the structures in turn
-- past the end of a list of structures there is none
abbrev pub no_whole : Whole
no_whole = record { at = 0; bytes = [] }

module _ (base : ℕ) where
  -- the rules of the first structure, and of those behind it
  in_turn : (before : List Whole) (at : ℕ) (s : List ℕ) (later : List Piece) → first_refusal (rules_in_turn base before (whole at s ∷ later)) ≡ Ok tt
      → Kept (how_many (byte_at s 0) before) s × (first_refusal (rules_in_turn base (before ++ (record { at = at; bytes = s } ∷ [])) later) ≡ Ok tt)
  unfolding rules_in_turn
  in_turn before at s later h =
      let b = joined_kept (structure_rules (base + at) (how_many (byte_at s 0) before) s) _ h in
      (all_kept _ _ _ b.0, b.1)

  -- each structure keeps the rules, after so many of its kind
  pub each_kept : (before : List Whole) (ps : List Piece) → first_refusal (rules_in_turn base before ps) ≡ Ok tt → (i : ℕ) → i < length (structures ps)
      → (n : ℕ) × Kept n (get_or (structures ps) i no_whole).bytes
  unfolding structures
  each_kept before [] h i l = absurd (omega arith)
  each_kept before (cut at ∷ ps) h i l = absurd (omega arith)
  each_kept before (whole at s ∷ ps) h zero l = (how_many (byte_at s 0) before, (in_turn before at s ps h).0)
  each_kept before (whole at s ∷ ps) h (suc i) l = each_kept _ ps (in_turn before at s ps h).1 i (omega arith)

  -- all are taken
  taken_in_turn_lem : (before : List Whole) (ps : List Piece) → first_refusal (rules_in_turn base before ps) ≡ Ok tt → taken_in_turn base before ps ≡ structures ps
  unfolding taken_in_turn structures rules_in_turn
  taken_in_turn_lem before [] h = refl
  taken_in_turn_lem before (cut at ∷ ps) h = refl
  taken_in_turn_lem before (whole at s ∷ ps) h =
      let b = joined_kept (structure_rules (base + at) (how_many (byte_at s 0) before) s) _ h in
      let x : Whole = record { at = at; bytes = s } in
      rw (unless_sound (λ refusal. []) _ _ b.0) (ap (λ (later : List Whole). x ∷ later) (taken_in_turn_lem (before ++ (x ∷ [])) ps b.1))

  -- a kind of which a structure that keeps the rules is never one too many has no more than `most`
  module _ (number most : ℕ) (room : (n : ℕ) (s : List ℕ) → Kept n s → byte_at s 0 ≡ number → n < most) where
    one_more : (before : List Whole) (x : Whole) → Kept (how_many (byte_at x.bytes 0) before) x.bytes → how_many number before ≤ most
        → how_many number (before ++ (x ∷ [])) ≤ most
    unfolding is_type
    one_more before x k few = go (is_type number x.bytes) refl
      where
        go : (b : Bool) → is_type number x.bytes ≡ b → how_many number (before ++ (x ∷ [])) ≤ most
        go true t =
            let e = eqb-true (byte_at x.bytes 0) number t in
            let free : how_many number before < most = rw e at (room _ x.bytes k e) in
            rw (count_more number before x t) (omega arith)
        go false t = rw (count_same number before x t) few

    few_in_turn : (before : List Whole) (ps : List Piece) → how_many number before ≤ most → first_refusal (rules_in_turn base before ps) ≡ Ok tt
        → how_many number (before ++ structures ps) ≤ most
    unfolding structures
    few_in_turn before [] few h = rw append-nil few
    few_in_turn before (cut at ∷ ps) few h = rw append-nil few
    few_in_turn before (whole at s ∷ ps) few h =
        let x : Whole = record { at = at; bytes = s } in
        let t = in_turn before at s ps h in
        rw (sym (append_assoc before (x ∷ []) (structures ps))) (few_in_turn (before ++ (x ∷ [])) ps (one_more before x t.0 few) t.1)

-- ---- "A board has either HT or EIO": at most one HT, and no EIO beside it
abbrev pub OneKind : List Whole → Type 0
OneKind all = (how_many 19 all ≤ 1) × (1 ≤ how_many 19 all → how_many 20 all ≡ 0)

-- one structure more that does not give the board both
kind_more : (before : List Whole) (x : Whole) → gives_both before x.bytes ≡ false → OneKind before → OneKind (before ++ (x ∷ []))
unfolding gives_both is_type
kind_more before x h k = go (is_type 19 s) (is_type 20 s) refl refl h
  where
    s : List ℕ
    s = x.bytes

    some : Bool
    some = leb 1 (how_many 19 before)

    eios : Bool
    eios = leb 1 (how_many 20 before)

    go : (ht eio : Bool) → is_type 19 s ≡ ht → is_type 20 s ≡ eio → (ht && (some || eios) || eio && some) ≡ false → OneKind (before ++ (x ∷ []))
    go true true t e h = absurd (let o : 19 ≡ 20 = sym (eqb-true (byte_at s 0) 19 t) ∙ eqb-true (byte_at s 0) 20 e in omega arith)
    go true false t e h =
        let none = or_neither some eios (or_neither (some || eios) false h).0 in
        let a = leb-false 1 (how_many 19 before) none.0 in
        let b = leb-false 1 (how_many 20 before) none.1 in
        (omega (arith, count_more 19 before x t), λ l. omega (arith, count_same 20 before x e))
    go false true t e h =
        let a = leb-false 1 (how_many 19 before) h in
        (omega (arith, count_same 19 before x t), λ l. absurd (omega (arith, count_same 19 before x t)))
    go false false t e h =
        (omega (arith, count_same 19 before x t, k.0), λ l. count_same 20 before x e ∙ k.1 (omega (arith, count_same 19 before x t)))

one_kind_of : (base : ℕ) (before all : List Whole) → first_refusal (kind_rules base before all) ≡ Ok tt → OneKind before → OneKind (before ++ all)
unfolding kind_rules
one_kind_of base before [] h k = rw append-nil k
one_kind_of base before (x ∷ all) h k =
    let here = first_sound _ _ _ _ h in
    rw (sym (append_assoc before (x ∷ []) all)) (one_kind_of base (before ++ (x ∷ [])) all here.1 (kind_more before x here.0 k))

-- ---- "At most 256 CORE, 1 LIO, 4 EIO, 4 BIO, 4 MSI, 1 LPC"
module _ (table : List ℕ) (base : ℕ) (h : first_refusal (walk_rules table base) ≡ Ok tt) where
  abbrev all : List Whole
  all = structures (pieces table 44)

  -- neither the rules in turn nor 34 refuse anything
  pub both_sound : (first_refusal (rules_in_turn base [] (pieces table 44)) ≡ Ok tt) × (first_refusal (kind_rules base [] all) ≡ Ok tt)
  unfolding walk_rules
  both_sound = joined_kept (rules_in_turn base [] (pieces table 44)) _ h

  in_turn_sound : first_refusal (rules_in_turn base [] (pieces table 44)) ≡ Ok tt
  in_turn_sound = both_sound.0

  few_of : (number most : ℕ) → ((n : ℕ) (s : List ℕ) → Kept n s → byte_at s 0 ≡ number → n < most) → how_many number all ≤ most
  unfolding of_type those
  few_of number most room = few_in_turn base number most room [] (pieces table 44) (omega arith) in_turn_sound

  pub few_cores : how_many 17 all ≤ 256
  few_cores = few_of 17 256 (λ n s k t. room_core k t)

  pub few_lios : how_many 18 all ≤ 1
  few_lios = few_of 18 1 (λ n s k t. room_lio k t)

  pub few_lpcs : how_many 23 all ≤ 1
  few_lpcs = few_of 23 1 (λ n s k t. room_lpc k t)

  pub few_eios : how_many 20 all ≤ 4
  few_eios = few_of 20 4 (λ n s k t. room_eio k t)

  pub few_msis : how_many 21 all ≤ 4
  few_msis = few_of 21 4 (λ n s k t. room_msi k t)

  pub few_bios : how_many 22 all ≤ 4
  few_bios = few_of 22 4 (λ n s k t. room_bio k t)

  pub one_kind : OneKind all
  unfolding of_type those
  one_kind = one_kind_of base [] all both_sound.1 (omega arith, λ l. absurd (omega arith))

  -- enabled or not
  pub few_enabled : length (enabled_cores all) ≤ 256
  unfolding enabled_cores of_type is_enabled_core
  few_enabled =
      let fewer = those_narrower (λ (x : Whole). is_enabled_core x.bytes) (λ (x : Whole). is_type 17 x.bytes) (λ x h. both_left _ _ h) all in
      omega (arith, fewer, few_cores)

  -- each of them keeps the rules
  pub kept_at : (i : ℕ) → i < length all → (n : ℕ) × Kept n (get_or all i no_whole).bytes
  kept_at i l = each_kept base [] (pieces table 44) in_turn_sound i l

  -- all of them are taken
  pub taken_all : taken table base ≡ all
  unfolding taken
  taken_all = taken_in_turn_lem base [] (pieces table 44) in_turn_sound

-- ---- "CORE, length 15": the own bytes of the enabled CORE are the fifteen from where they stand
module _ (table : List ℕ) where
  abbrev Fifteen : List Whole → Type 0
  Fifteen cores = map (λ (x : Whole). x.bytes) cores ≡ map (λ (at : ℕ). part_at table at 15) (offsets_of cores)

  core_length : (at size : ℕ) {n : ℕ} → step_at table at ≡ Structure size → Kept n (part_at table at size)
      → is_enabled_core (part_at table at size) ≡ true → size ≡ 15
  unfolding is_enabled_core is_type
  core_length at size e k on =
      let least : 2 ≤ size = (step_inside table at size e).1 in
      let type : byte_at (part_at table at size) 0 ≡ 17 = eqb-true _ _ (both_left _ _ on) in
      let own : byte_at (part_at table at size) 1 ≡ byte_at table (at + 1) = get_or-take size (drop at table) 1 0 (omega arith) ∙ get_or-drop at table 1 0 in
      sym (step_length table at size e) ∙ sym own ∙ length_core k type

  module _ (base : ℕ) where
    fifteen_at : (before : List Whole) (at : ℕ) (step : Step) (later : ℕ → List Piece) → step_at table at ≡ step
        → ((size : ℕ) (before : List Whole) → first_refusal (rules_in_turn base before (later size)) ≡ Ok tt → Fifteen (enabled_cores (structures (later size))))
        → first_refusal (rules_in_turn base before (piece_at table at step later)) ≡ Ok tt → Fifteen (enabled_cores (structures (piece_at table at step later)))
    unfolding enabled_cores structures those piece_at
    fifteen_at before at End later e rest h = refl
    fifteen_at before at Broken later e rest h = refl
    fifteen_at before at (Structure size) later e rest h =
        let t = in_turn base before at (part_at table at size) (later size) h in
        if_cases Fifteen _ _ _
        (λ on. ap (λ (n : ℕ). part_at table at n ∷ map (λ (x : Whole). x.bytes) (enabled_cores (structures (later size)))) (core_length at size e t.0 on)
        ∙ ap (λ (r : List (List ℕ)). part_at table at 15 ∷ r) (rest size _ t.1))
        (λ off. rest size _ t.1)

    fifteen_from : (k : ℕ) (before : List Whole) (at : ℕ) → first_refusal (rules_in_turn base before (pieces_from k table at)) ≡ Ok tt
        → Fifteen (enabled_cores (structures (pieces_from k table at)))
    unfolding enabled_cores structures those pieces_from
    fifteen_from zero before at h = refl
    fifteen_from (suc k) before at h = fifteen_at before at (step_at table at) _ refl (λ size later. fifteen_from k later (at + size)) h

    pub core_bytes : first_refusal (walk_rules table base) ≡ Ok tt → Fifteen (enabled_cores (structures (pieces table 44)))
    unfolding pieces
    core_bytes h = fifteen_from (length table) [] 44 (in_turn_sound table base h)
