-- What the rules say of one structure: one law for each of 32 and 33 that is the first to be broken, one for each kind, and one for
-- a structure that keeps them all.
use mathlib.Core.Path.{◌≡◌, refl, sym, ◌∙◌, ap}
use mathlib.Core.Bool.{Bool, true, false, not, or-false, true≢false}
use mathlib.Core.List.{List, [], ◌∷◌}
use Prim.Native.Nat.{ℕ, suc, ◌≤◌, ◌<◌}
use native.Mathlib.Nat.{eq-or-lt_of_le}
use native.Mathlib.Omega.{arith}
use mathlib.Core.Logic.{⊎_elim}
use lib.Dec.{leb}
use Rattle.std.specs.Prelude.{Option, None, Some, is_none, Ok, Err}
use Rattle.std.specs.Bool.{then_some}
use Rattle.std.specs.Option.{option_or}
use lib.ListN.{drop}
use borrow.Author.Tests.{eq-eqb, ne_eqb, eqb-true, not-false, le-leb, leb-true, leb-false}
use Rattle.words.specs.Bytes.{byte_at}
use Rattle.words.specs.Choice.{if}
use Rattle.words.specs.Lists.{every}
use Rattle.words.specs.Refusals.{Verdict, refused, rule, unless, first_refusal}
use Rattle.words.proofs.Verdicts.{first_broken_lem, first_kept, first_sound}
use Rattle.words.proofs.Tests.{both_left, both_right, neither_left}
use Rattle.kinds.specs.Makers.{reserved_flags, core_of, lio_of, ht_of, eio_of, msi_of, bio_of, lpc_of}
use Rattle.kinds.specs.Ranges.{cascade_fits, node_fits, nodes_fit, count_fits, end_fits, base_fits, input_fits, byte_fits, halves_fit, lio_field, ht_field, eio_field, msi_field, bio_field, lpc_field, bit_in_both}
use Rattle.madt.specs.Rules.{is_type, by_type, is_known, length_of, wrong_length, wrong_version, wrong_flags, wrong_cascade, wrong_node, wrong_nodes, wrong_count, wrong_end, wrong_base, wrong_input, wrong_byte, shared_bit, one_too_many, structure_rules, refused_by}
use Rattle.madt.proofs.Types.{type_no, of_core, of_lio, of_ht_lem, of_eio_lem, of_msi, of_bio_lem, of_lpc, of_other}

pub none_some : {n : ℕ} {X : Type 0} → ◌≡◌ {A = Option ℕ} None (Some n) → X
none_some e = absurd (true≢false (ap is_none e))

above : {n m : ℕ} → n ≤ m → (m ≡ n → ⊥) → suc n ≤ m
above l h = ⊎_elim (λ e. absurd (h (sym e))) (λ k. k) (eq-or-lt_of_le l)

-- ---- the tests
module _ (s : List ℕ) where
  pub length-wrong : {n : ℕ} → length_of s ≡ Some n → (byte_at s 1 ≡ n → ⊥) → wrong_length s ≡ true
  unfolding wrong_length
  length-wrong {n} k h = rw (k, ne_eqb (byte_at s 1) n h)

  pub length_right : {n : ℕ} → length_of s ≡ Some n → byte_at s 1 ≡ n → wrong_length s ≡ false
  unfolding wrong_length
  length_right {n} k h = rw (k, eq-eqb (byte_at s 1) n h)

  pub version-wrong : is_known s ≡ true → (byte_at s 2 ≡ 1 → ⊥) → wrong_version s ≡ true
  unfolding wrong_version
  version-wrong k h = rw (k, ne_eqb (byte_at s 2) 1 h)

  pub version_right : is_known s ≡ true → byte_at s 2 ≡ 1 → wrong_version s ≡ false
  unfolding wrong_version
  version_right k h = rw (k, eq-eqb (byte_at s 2) 1 h)

  -- a type that is passed over
  module _ (h : is_known s ≡ false) where
    unknown : (n : ℕ) → 17 ≤ n → n ≤ 23 → byte_at s 0 ≡ n → ⊥
    unfolding is_known
    unknown n low high e = true≢false (sym (rw (e, le-leb 17 n low, le-leb n 23 high)) ∙ h)

    no_type : (n : ℕ) → 17 ≤ n → n ≤ 23 → is_type n s ≡ false
    no_type n low high = type_no n s (unknown n low high)

    other_type : {A : Type 0} (core lio ht eio msi bio lpc other : A) → by_type s core lio ht eio msi bio lpc other ≡ other
    other_type core lio ht eio msi bio lpc other =
        of_other s core lio ht eio msi bio lpc other (unknown 17 (omega arith) (omega arith)) (unknown 18 (omega arith) (omega arith))
        (unknown 19 (omega arith) (omega arith)) (unknown 20 (omega arith) (omega arith)) (unknown 21 (omega arith) (omega arith))
        (unknown 22 (omega arith) (omega arith)) (unknown 23 (omega arith) (omega arith))

  -- a known type is one of the seven
  pub one_of_seven : is_known s ≡ true → (byte_at s 0 ≡ 17 → ⊥) → (byte_at s 0 ≡ 18 → ⊥) → (byte_at s 0 ≡ 19 → ⊥) → (byte_at s 0 ≡ 20 → ⊥)
      → (byte_at s 0 ≡ 21 → ⊥) → (byte_at s 0 ≡ 22 → ⊥) → (byte_at s 0 ≡ 23 → ⊥) → ⊥
  unfolding is_known
  one_of_seven k t17 t18 t19 t20 t21 t22 t23 =
      let low : 17 ≤ byte_at s 0 = leb-true 17 (byte_at s 0) (both_left (leb 17 (byte_at s 0)) (leb (byte_at s 0) 23) k) in
      let high : byte_at s 0 ≤ 23 = leb-true (byte_at s 0) 23 (both_right (leb 17 (byte_at s 0)) (leb (byte_at s 0) 23) k) in
      let l18 : 18 ≤ byte_at s 0 = above low t17 in
      let l19 : 19 ≤ byte_at s 0 = above l18 t18 in
      let l20 : 20 ≤ byte_at s 0 = above l19 t19 in
      let l21 : 21 ≤ byte_at s 0 = above l20 t20 in
      let l22 : 22 ≤ byte_at s 0 = above l21 t21 in
      let l23 : 23 ≤ byte_at s 0 = above l22 t22 in
      t23 (omega arith)

  -- so a structure is of a known type exactly if its kind has a length
  pub length_unknown : is_known s ≡ false → length_of s ≡ None
  unfolding length_of
  length_unknown h = other_type h _ _ _ _ _ _ _ _

  pub has_length : {n : ℕ} → length_of s ≡ Some n → is_known s ≡ true
  has_length {n} h = go (is_known s) refl
    where
      go : (b : Bool) → is_known s ≡ b → is_known s ≡ true
      go true e = e
      go false e = none_some (sym (length_unknown e) ∙ h)

  pub no_length : length_of s ≡ None → is_known s ≡ false
  unfolding length_of
  no_length h = go (is_known s) refl
    where
      go : (b : Bool) → is_known s ≡ b → is_known s ≡ false
      go false e = e
      go true e =
          absurd (one_of_seven e
          (λ t. none_some (sym h ∙ of_core s _ _ _ _ _ _ _ _ t))
          (λ t. none_some (sym h ∙ of_lio s _ _ _ _ _ _ _ _ t))
          (λ t. none_some (sym h ∙ of_ht_lem s _ _ _ _ _ _ _ _ t))
          (λ t. none_some (sym h ∙ of_eio_lem s _ _ _ _ _ _ _ _ t))
          (λ t. none_some (sym h ∙ of_msi s _ _ _ _ _ _ _ _ t))
          (λ t. none_some (sym h ∙ of_bio_lem s _ _ _ _ _ _ _ _ t))
          (λ t. none_some (sym h ∙ of_lpc s _ _ _ _ _ _ _ _ t)))

-- ---- the ranges of a kind: the rules of its fields in turn say what the number of its first field out of its range says
module _ (place : ℕ) (later : List Verdict) where
  one_field : (fits : Bool) (n : ℕ)
      → first_refusal (rule (not fits) n place ∷ later) ≡ first_refusal (refused_by (if fits None (Some n)) place ∷ later)
  unfolding if
  one_field true n = refl
  one_field false n = refl

  two_fields : (fits then : Bool) (n m : ℕ)
      → first_refusal (rule (not fits) n place ∷ rule (not then) m place ∷ later)
      ≡ first_refusal (refused_by (if (not fits) (Some n) (if then None (Some m))) place ∷ later)
  unfolding first_refusal unless if
  two_fields true then n m = one_field then m
  two_fields false then n m = refl

  three_fields : (fits then last : Bool) (n m k : ℕ)
      → first_refusal (rule (not fits) n place ∷ rule (not then) m place ∷ rule (not last) k place ∷ later)
      ≡ first_refusal (refused_by (if (not fits) (Some n) (if (not then) (Some m) (if last None (Some k)))) place ∷ later)
  unfolding first_refusal unless if
  three_fields true then last n m k = two_fields then last m k
  three_fields false then last n m k = refl

-- ---- and the numbers of rules in turn say what the rules in turn say
module _ (place : ℕ) where
  pub rule_told : (broken : Bool) (n : ℕ) → refused_by (then_some broken n) place ≡ rule broken n place
  unfolding if
  rule_told true n = refl
  rule_told false n = refl

  pub alone : (own : Option ℕ) → refused_by own place ≡ first_refusal (refused_by own place ∷ rule false 38 place ∷ [])
  unfolding first_refusal unless if
  alone None = refl
  alone (Some n) = refl

  pub then_full : (own : Option ℕ) (full : Bool) → refused_by (option_or own (then_some full 38)) place ≡ first_refusal (refused_by own place ∷ rule full 38 place ∷ [])
  unfolding first_refusal unless if
  then_full None true = refl
  then_full None false = refl
  then_full (Some n) full = refl

  pub flags_then_full : (broken full : Bool)
      → refused_by (option_or (then_some broken 35) (then_some full 38)) place ≡ first_refusal (rule broken 35 place ∷ rule full 38 place ∷ [])
  flags_then_full broken full = rw (sym (rule_told broken 35)) (then_full (then_some broken 35) full)

  pub masks_then_full : (own : Option ℕ) (shared full : Bool)
      → refused_by (option_or (option_or own (then_some shared 37)) (then_some full 38)) place
      ≡ first_refusal (refused_by own place ∷ rule shared 37 place ∷ rule full 38 place ∷ [])
  unfolding first_refusal unless if
  masks_then_full None true full = refl
  masks_then_full None false true = refl
  masks_then_full None false false = refl
  masks_then_full (Some n) shared full = refl

-- ---- the first of them that is broken
module _ (place before : ℕ) (s : List ℕ) where
  pub at_32 : wrong_length s ≡ true → first_refusal (structure_rules place before s) ≡ Err (refused 32 place)
  unfolding structure_rules
  at_32 h = first_broken_lem _ _ _ _ h

  module _ (a : wrong_length s ≡ false) where
    pub at_33 : wrong_version s ≡ true → first_refusal (structure_rules place before s) ≡ Err (refused 33 place)
    unfolding structure_rules
    at_33 h = first_kept _ _ _ _ a (first_broken_lem _ _ _ _ h)

    module _ (b : wrong_version s ≡ false) where
      -- what is left of them: those behind 33
      from_35 : {verdict : Verdict} → first_refusal (drop 2 (structure_rules place before s)) ≡ verdict
          → first_refusal (structure_rules place before s) ≡ verdict
      unfolding structure_rules
      from_35 e = first_kept _ _ _ _ a (first_kept _ _ _ _ b e)

      -- and so of each kind
      module _ {full : Bool} (many : full ≡ one_too_many before s) where
        pub for_core : byte_at s 0 ≡ 17
            → first_refusal (structure_rules place before s) ≡ first_refusal (rule (reserved_flags (core_of s)) 35 place ∷ rule full 38 place ∷ [])
        unfolding structure_rules first_refusal unless if is_type wrong_flags wrong_cascade wrong_node wrong_nodes wrong_count wrong_end wrong_base wrong_input wrong_byte shared_bit
        for_core t = from_35 (rw (t, sym many))

        pub for_lio : byte_at s 0 ≡ 18
            → first_refusal (structure_rules place before s)
            ≡ first_refusal (refused_by (lio_field (lio_of s)) place ∷ rule (bit_in_both (lio_of s)) 37 place ∷ rule full 38 place ∷ [])
        unfolding structure_rules first_refusal unless if is_type wrong_flags wrong_cascade wrong_node wrong_nodes wrong_count wrong_end wrong_base wrong_input wrong_byte shared_bit lio_field
        for_lio t =
            from_35
            (rw (t, or-false, sym many) (one_field place (rule (bit_in_both (lio_of s)) 37 place ∷ rule full 38 place ∷ []) (halves_fit (lio_of s)) 71))

        pub for_ht : byte_at s 0 ≡ 19
            → first_refusal (structure_rules place before s) ≡ first_refusal (refused_by (ht_field (ht_of s)) place ∷ rule full 38 place ∷ [])
        unfolding structure_rules first_refusal unless if is_type wrong_flags wrong_cascade wrong_node wrong_nodes wrong_count wrong_end wrong_base wrong_input wrong_byte shared_bit ht_field
        for_ht t =
            from_35
            (rw (t, sym many) (one_field place (rule full 38 place ∷ []) (every byte_fits (ht_of s).bytes) 78))

        pub for_eio : byte_at s 0 ≡ 20
            → first_refusal (structure_rules place before s) ≡ first_refusal (refused_by (eio_field (eio_of s)) place ∷ rule full 38 place ∷ [])
        unfolding structure_rules first_refusal unless if is_type wrong_flags wrong_cascade wrong_node wrong_nodes wrong_count wrong_end wrong_base wrong_input wrong_byte shared_bit eio_field
        for_eio t =
            let e = eio_of s in
            from_35
            (rw (t, or-false, sym many)
            (three_fields place (rule full 38 place ∷ []) (cascade_fits e.cascade) (node_fits e.node) (nodes_fit e.nodes) 71 72 73))

        pub for_msi : byte_at s 0 ≡ 21
            → first_refusal (structure_rules place before s) ≡ first_refusal (refused_by (msi_field (msi_of s)) place ∷ rule full 38 place ∷ [])
        unfolding structure_rules first_refusal unless if is_type wrong_flags wrong_cascade wrong_node wrong_nodes wrong_count wrong_end wrong_base wrong_input wrong_byte shared_bit msi_field
        for_msi t =
            let m = msi_of s in
            from_35
            (rw (t, sym many)
            (two_fields place (rule full 38 place ∷ []) (count_fits m.count) (end_fits m.start m.count) 74 75))

        pub for_bio : byte_at s 0 ≡ 22
            → first_refusal (structure_rules place before s) ≡ first_refusal (refused_by (bio_field (bio_of s)) place ∷ rule full 38 place ∷ [])
        unfolding structure_rules first_refusal unless if is_type wrong_flags wrong_cascade wrong_node wrong_nodes wrong_count wrong_end wrong_base wrong_input wrong_byte shared_bit bio_field
        for_bio t =
            let b = bio_of s in
            from_35
            (rw (t, sym many)
            (two_fields place (rule full 38 place ∷ []) (node_fits b.node) (base_fits b.base) 72 76))

        pub for_lpc : byte_at s 0 ≡ 23
            → first_refusal (structure_rules place before s) ≡ first_refusal (refused_by (lpc_field (lpc_of s)) place ∷ rule full 38 place ∷ [])
        unfolding structure_rules first_refusal unless if is_type wrong_flags wrong_cascade wrong_node wrong_nodes wrong_count wrong_end wrong_base wrong_input wrong_byte shared_bit lpc_field
        for_lpc t =
            from_35
            (rw (t, sym many) (one_field place (rule full 38 place ∷ []) (input_fits (lpc_of s).cascade) 77))

  -- no rule speaks of a type that is passed over
  module _ (h : is_known s ≡ false) where
    no : (n : ℕ) → 17 ≤ n → n ≤ 23 → is_type n s ≡ false
    no = no_type s h

    pub passed_over : first_refusal (structure_rules place before s) ≡ Ok tt
    unfolding structure_rules first_refusal unless if wrong_length wrong_version wrong_flags wrong_cascade wrong_node wrong_nodes wrong_count wrong_end wrong_base wrong_input wrong_byte shared_bit one_too_many
    passed_over =
        from_35 (rw (length_unknown s h)) (rw h)
        (rw (
          no 17 (omega arith) (omega arith),
          no 18 (omega arith) (omega arith),
          no 19 (omega arith) (omega arith),
          no 20 (omega arith) (omega arith),
          no 21 (omega arith) (omega arith),
          no 22 (omega arith) (omega arith),
          no 23 (omega arith) (omega arith),
        ))

-- ---- what it tells that none is broken
pub record Kept (before : ℕ) (s : List ℕ) : Type 0 where
  pub r32 : wrong_length s ≡ false
  pub r71 : wrong_cascade s ≡ false
  pub r72 : wrong_node s ≡ false
  pub r73 : wrong_nodes s ≡ false
  pub r74 : wrong_count s ≡ false
  pub r75 : wrong_end s ≡ false
  pub r76 : wrong_base s ≡ false
  pub r77 : wrong_input s ≡ false
  pub r78 : wrong_byte s ≡ false
  pub r37 : shared_bit s ≡ false
  pub r38 : one_too_many before s ≡ false

pub all_kept : (place before : ℕ) (s : List ℕ) → first_refusal (structure_rules place before s) ≡ Ok tt → Kept before s
unfolding structure_rules
all_kept place before s h =
    let r32 = first_sound _ _ _ _ h in
    let r35 = first_sound _ _ _ _ (first_sound _ _ _ _ r32.1).1 in
    let r71 = first_sound _ _ _ _ r35.1 in
    let r72 = first_sound _ _ _ _ r71.1 in
    let r73 = first_sound _ _ _ _ r72.1 in
    let r74 = first_sound _ _ _ _ r73.1 in
    let r75 = first_sound _ _ _ _ r74.1 in
    let r76 = first_sound _ _ _ _ r75.1 in
    let r77 = first_sound _ _ _ _ r76.1 in
    let r78 = first_sound _ _ _ _ r77.1 in
    let r37 = first_sound _ _ _ _ r78.1 in
    let r38 = first_sound _ _ _ _ r37.1 in
    record {
      r32 = r32.0;
      r71 = r71.0;
      r72 = r72.0;
      r73 = r73.0;
      r74 = r74.0;
      r75 = r75.0;
      r76 = r76.0;
      r77 = r77.0;
      r78 = r78.0;
      r37 = r37.0;
      r38 = r38.0;
    }

-- its fields are in their ranges
module _ {before : ℕ} {s : List ℕ} (k : Kept before s) where
  pub fits-lio : byte_at s 0 ≡ 18 → is_none (lio_field (lio_of s)) ≡ true
  unfolding is_type wrong_cascade lio_field if
  fits-lio t =
      let r71 = rw t at k.r71 in
      rw (not-false (halves_fit (lio_of s)) (neither_left (not (halves_fit (lio_of s))) false r71))

  pub fits-ht : byte_at s 0 ≡ 19 → is_none (ht_field (ht_of s)) ≡ true
  unfolding is_type wrong_byte ht_field if
  fits-ht t = rw (not-false (every byte_fits (ht_of s).bytes) (rw t at k.r78))

  pub fits-eio : byte_at s 0 ≡ 20 → is_none (eio_field (eio_of s)) ≡ true
  unfolding is_type wrong_cascade wrong_node wrong_nodes eio_field if
  fits-eio t =
      let e = eio_of s in
      let r71 = rw t at k.r71 in
      let r72 = neither_left (not (node_fits e.node)) false (rw t at k.r72) in
      let r73 = not-false (nodes_fit e.nodes) (rw t at k.r73) in
      rw (r71, r72, r73)

  pub fits-msi : byte_at s 0 ≡ 21 → is_none (msi_field (msi_of s)) ≡ true
  unfolding is_type wrong_count wrong_end msi_field if
  fits-msi t =
      let m = msi_of s in
      let r74 = rw t at k.r74 in
      let r75 = not-false (end_fits m.start m.count) (rw t at k.r75) in
      rw (r74, r75)

  pub fits-bio : byte_at s 0 ≡ 22 → is_none (bio_field (bio_of s)) ≡ true
  unfolding is_type wrong_node wrong_base bio_field if
  fits-bio t =
      let b = bio_of s in
      let r72 = rw t at k.r72 in
      let r76 = not-false (base_fits b.base) (rw t at k.r76) in
      rw (r72, r76)

  pub fits-lpc : byte_at s 0 ≡ 23 → is_none (lpc_field (lpc_of s)) ≡ true
  unfolding is_type wrong_input lpc_field if
  fits-lpc t = rw (not-false (input_fits (lpc_of s).cascade) (rw t at k.r77))

-- the structure is not one too many of its kind
module _ {before : ℕ} {s : List ℕ} (k : Kept before s) where
  pub length_core : byte_at s 0 ≡ 17 → byte_at s 1 ≡ 15
  unfolding wrong_length length_of
  length_core t = eqb-true _ _ (not-false _ (rw (of_core s _ _ _ _ _ _ _ _ t) at k.r32))

  pub room_core : byte_at s 0 ≡ 17 → before < 256
  unfolding one_too_many
  room_core t = leb-false 256 before (sym (of_core s _ _ _ _ _ _ _ _ t) ∙ k.r38)

  pub room_lio : byte_at s 0 ≡ 18 → before < 1
  unfolding one_too_many
  room_lio t = leb-false 1 before (sym (of_lio s _ _ _ _ _ _ _ _ t) ∙ k.r38)

  pub room_eio : byte_at s 0 ≡ 20 → before < 4
  unfolding one_too_many
  room_eio t = leb-false 4 before (sym (of_eio_lem s _ _ _ _ _ _ _ _ t) ∙ k.r38)

  pub room_msi : byte_at s 0 ≡ 21 → before < 4
  unfolding one_too_many
  room_msi t = leb-false 4 before (sym (of_msi s _ _ _ _ _ _ _ _ t) ∙ k.r38)

  pub room_bio : byte_at s 0 ≡ 22 → before < 4
  unfolding one_too_many
  room_bio t = leb-false 4 before (sym (of_bio_lem s _ _ _ _ _ _ _ _ t) ∙ k.r38)

  pub room_lpc : byte_at s 0 ≡ 23 → before < 1
  unfolding one_too_many
  room_lpc t = leb-false 1 before (sym (of_lpc s _ _ _ _ _ _ _ _ t) ∙ k.r38)
