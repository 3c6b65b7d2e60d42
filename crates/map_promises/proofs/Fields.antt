-- Each of 71 to 78 is told of a structure exactly where its field is the first that is out of its range.
use Prim.Native.Nat.{ℕ, ◌+◌, ◌<◌, ◌≤◌}
use native.Mathlib.Omega.{arith}
use mathlib.Core.Path.{◌≡◌, refl, sym, ◌∙◌, ap}
use mathlib.Core.Logic.{◌⊎◌, inl, inr, ⊎_elim}
use mathlib.Core.List.{List, [], ◌∷◌}
use mathlib.Core.Bool.{Bool, true, false, ◌&&◌, ◌||◌}
use borrow.Author.Tests.{leb-true, leb-false, eqb-true, eqb-false}
use lib.Dec.{eqb, leb}
use lib.ListN.{get_or}
use Rattle.std.specs.Prelude.{Option, None, Some, Ok, Err}
use Rattle.words.specs.Lists.{every}
use Rattle.words.specs.Bytes.{byte_at}
use Rattle.words.specs.Choice.{if}
use Rattle.words.specs.Refusals.{Verdict, refused, rule, unless, first_refusal}
use Rattle.words.specs.declared.Refusal.{Refusal}
use Rattle.words.proofs.Verdicts.{not_sound, same_refusal, first_broken_lem, first_kept}
use Rattle.words.proofs.Tests.{both_left}
use Rattle.clashes.proofs.Logic.{or_cases}
use Rattle.kinds.specs.Makers.{lio_of, ht_of, eio_of, msi_of, bio_of, lpc_of}
use Rattle.kinds.specs.Ranges.{half_fits, halves_fit, byte_fits, lio_field, ht_field, eio_field, msi_field, bio_field, lpc_field, bit_in_both}
use Rattle.kinds.specs.declared.Half.{Half}
use Rattle.kinds.specs.declared.Lio.{Lio}
use Rattle.kinds.specs.declared.Ht.{Ht}
use Rattle.kinds.specs.declared.Eio.{Eio}
use Rattle.kinds.specs.declared.Msi.{Msi}
use Rattle.kinds.specs.declared.Bio.{Bio}
use Rattle.kinds.specs.declared.Lpc.{Lpc}
use Rattle.madt.specs.Rules.{is_type, wrong_length, wrong_version, wrong_flags, wrong_cascade, wrong_node, wrong_nodes, wrong_count, wrong_end, wrong_base, wrong_input, wrong_byte, shared_bit, one_too_many, structure_rules, refused_by}
use Rattle.madt.proofs.Checks.{none_some, for_lio, for_ht, for_eio, for_msi, for_bio, for_lpc}
use Rattle.map_promises.proofs.Members.{every-at, not-every}
use Rattle.map_promises.specs.Fields.{Iff, Outside, HalfWrong, LioWrong, ByteWrong, LioTold, HtTold, EioTold, MsiTold, BioTold, LpcTold, ToldOfType, RefusedThere, FieldsExactly}

-- ---- a test of a field, and what it says in numbers
abbrev Tested : Bool → Type 0 → Type 0 → Type 0
Tested test fits wrong = ((test ≡ true) × fits) ⊎ ((test ≡ false) × wrong)

most : (n high : ℕ) → Tested (leb n high) (n ≤ high) (high < n)
most n high = go (leb n high) refl
  where
    go : (b : Bool) → leb n high ≡ b → Tested (leb n high) (n ≤ high) (high < n)
    go true e = inl (e, leb-true n high e)
    go false e = inr (e, leb-false n high e)

between : (low high n : ℕ) → Tested (leb low n && leb n high) ((low ≤ n) × (n ≤ high)) (Outside low high n)
between low high n =
    ⊎_elim
    (λ a. ⊎_elim (λ b. inl (rw (a.0, b.0), (a.1, b.1))) (λ b. inr (rw (a.0, b.0), inr b.1)) (most n high))
    (λ a. inr (rw a.0, inl a.1))
    (most low n)

zero_or_not : (n : ℕ) → Tested (eqb n 0) (n ≡ 0) (n ≡ 0 → ⊥)
zero_or_not n = go (eqb n 0) refl
  where
    go : (b : Bool) → eqb n 0 ≡ b → Tested (eqb n 0) (n ≡ 0) (n ≡ 0 → ⊥)
    go true e = inl (e, eqb-true n 0 e)
    go false e = inr (e, eqb-false n 0 e)

inside : {low high n : ℕ} → (low ≤ n) × (n ≤ high) → Outside low high n → ⊥
inside f (inl l) = omega (arith, f.0)
inside f (inr l) = omega (arith, f.1)

half_tested : (half : Half) → Tested (half_fits half) (HalfWrong half → ⊥) (HalfWrong half)
half_tested half =
    ⊎_elim
    (λ z. inl (rw z.0, λ w. w.0 z.1))
    (λ z. ⊎_elim (λ c. inl (rw (z.0, c.0), λ w. inside c.1 w.1)) (λ c. inr (rw (z.0, c.0), (z.1, c.1))) (between 2 9 half.cascade))
    (zero_or_not half.mask)

lio_tested : (lio : Lio) → Tested (halves_fit lio) (LioWrong lio → ⊥) (LioWrong lio)
lio_tested lio =
    ⊎_elim
    (λ a. ⊎_elim (λ b. inl (rw (a.0, b.0), λ w. ⊎_elim a.1 b.1 w)) (λ b. inr (rw (a.0, b.0), inr b.1)) (half_tested lio.high))
    (λ a. inr (rw a.0, inl a.1))
    (half_tested lio.low)

-- ---- the number of the first field out of its range, for each kind
told : {f : Option ℕ} {n : ℕ} {B : Type 0} → f ≡ Some n → B → Iff (f ≡ Some n) B
told e b = ((λ h. b), λ h. e)

untold : {f : Option ℕ} {n m : ℕ} {B : Type 0} → f ≡ Some m → (m ≡ n → ⊥) → (B → ⊥) → Iff (f ≡ Some n) B
untold e differ never = ((λ h. absurd (differ (same_number (sym e ∙ h)))), λ b. absurd (never b))
  where
    same_number : {n m : ℕ} → ◌≡◌ {A = Option ℕ} (Some m) (Some n) → m ≡ n
    same_number h = cc

none_told : {f : Option ℕ} {n : ℕ} {B : Type 0} → f ≡ None → (B → ⊥) → Iff (f ≡ Some n) B
none_told e never = ((λ h. none_some (sym e ∙ h)), λ b. absurd (never b))

eio_fields : (x : Eio) → EioTold (λ n. eio_field x ≡ Some n) x
unfolding eio_field if
eio_fields x =
    ⊎_elim
    (λ c. ⊎_elim
    (λ k. ⊎_elim
    (λ m.
    let f : eio_field x ≡ Some 73 = rw (c.0, k.0, m.0) in
    record {
      r71 = untold f (λ h. omega arith) (inside c.1);
      r72 = untold f (λ h. omega arith) (λ w. omega (arith, w.1, k.1));
      r73 = told f (inside c.1, k.1, m.1);
    })
    (λ m.
    let f : eio_field x ≡ None = rw (c.0, k.0, m.0) in
    record {
      r71 = none_told f (inside c.1);
      r72 = none_told f (λ w. omega (arith, w.1, k.1));
      r73 = none_told f (λ w. m.1 w.2);
    })
    (zero_or_not x.nodes))
    (λ k.
    let f : eio_field x ≡ Some 72 = rw (c.0, k.0) in
    record {
      r71 = untold f (λ h. omega arith) (inside c.1);
      r72 = told f (inside c.1, k.1);
      r73 = untold f (λ h. omega arith) (λ w. omega (arith, w.1, k.1));
    })
    (most x.node 63))
    (λ c.
    let f : eio_field x ≡ Some 71 = rw c.0 in
    record {
      r71 = told f c.1;
      r72 = untold f (λ h. omega arith) (λ w. w.0 c.1);
      r73 = untold f (λ h. omega arith) (λ w. w.0 c.1);
    })
    (between 2 9 x.cascade)

-- a byte is over 31, or none is
bytes_tested : (x : Ht) → Tested (every byte_fits x.bytes) (ByteWrong x → ⊥) (ByteWrong x)
bytes_tested x = go (every byte_fits x.bytes) refl
  where
    go : (b : Bool) → every byte_fits x.bytes ≡ b → Tested (every byte_fits x.bytes) (ByteWrong x → ⊥) (ByteWrong x)
    go true e = inl (e, λ w. let fits = leb-true (get_or x.bytes w.0 0) 31 (every-at 0 byte_fits x.bytes e w.0 w.1) in omega (arith, w.2))
    go false e = let w = not-every 0 byte_fits x.bytes e in inr (e, (w.0, w.1, leb-false (get_or x.bytes w.0 0) 31 w.2))

ht_fields : (x : Ht) → HtTold (λ n. ht_field x ≡ Some n) x
unfolding ht_field if
ht_fields x =
    ⊎_elim
    (λ c.
    let f : ht_field x ≡ None = rw c.0 in
    record { r78 = none_told f c.1 })
    (λ c.
    let f : ht_field x ≡ Some 78 = rw c.0 in
    record { r78 = told f c.1 })
    (bytes_tested x)

msi_fields : (x : Msi) → MsiTold (λ n. msi_field x ≡ Some n) x
unfolding msi_field if
msi_fields x =
    ⊎_elim
    (λ c. ⊎_elim
    (λ e.
    let f : msi_field x ≡ None = rw (c.0, e.0) in
    record {
      r74 = none_told f (λ w. omega (arith, c.1));
      r75 = none_told f (λ w. omega (arith, w.1, e.1));
    })
    (λ e.
    let f : msi_field x ≡ Some 75 = rw (c.0, e.0) in
    record {
      r74 = untold f (λ h. omega arith) (λ w. omega (arith, c.1));
      r75 = told f ((λ z. omega (arith, c.1)), e.1);
    })
    (most (x.start + x.count) 256))
    (λ c.
    let f : msi_field x ≡ Some 74 = rw c.0 in
    record {
      r74 = told f (omega (arith, c.1));
      r75 = untold f (λ h. omega arith) (λ w. w.0 (omega (arith, c.1)));
    })
    (most 1 x.count)

bio_fields : (x : Bio) → BioTold (λ n. bio_field x ≡ Some n) x
unfolding bio_field if
bio_fields x =
    ⊎_elim
    (λ k. ⊎_elim
    (λ b.
    let f : bio_field x ≡ None = rw (k.0, b.0) in
    record {
      r72 = none_told f (λ w. omega (arith, k.1));
      r76 = none_told f (λ w. inside b.1 w.1);
    })
    (λ b.
    let f : bio_field x ≡ Some 76 = rw (k.0, b.0) in
    record {
      r72 = untold f (λ h. omega arith) (λ w. omega (arith, k.1));
      r76 = told f (k.1, b.1);
    })
    (between 64 65472 x.base))
    (λ k.
    let f : bio_field x ≡ Some 72 = rw k.0 in
    record {
      r72 = told f k.1;
      r76 = untold f (λ h. omega arith) (λ w. omega (arith, w.0, k.1));
    })
    (most x.node 63)

lpc_fields : (x : Lpc) → LpcTold (λ n. lpc_field x ≡ Some n) x
unfolding lpc_field if
lpc_fields x =
    ⊎_elim
    (λ c.
    let f : lpc_field x ≡ None = rw c.0 in
    record { r77 = none_told f (λ w. omega (arith, c.1)) })
    (λ c.
    let f : lpc_field x ≡ Some 77 = rw c.0 in
    record { r77 = told f c.1 })
    (most x.cascade 63)

-- ---- a structure is refused with that number
chained : {A B C : Type 0} → Iff A B → Iff B C → Iff A C
chained e g = ((λ a. g.0 (e.0 a)), λ c. e.1 (g.1 c))

number_is : {n m p q : ℕ} → ◌≡◌ {A = Verdict} (Err (refused n p)) (Err (refused m q)) → n ≡ m
number_is h = ap (λ (r : Refusal). r.number) (same_refusal h)

module _ (place : ℕ) where
  -- a rule of another number does not tell n, and so the rules behind it must
  passes : (broken : Bool) (m n : ℕ) (later : List Verdict) → (m ≡ n → ⊥) → (first_refusal later ≡ Err (refused n place) → ⊥)
      → first_refusal (rule broken m place ∷ later) ≡ Err (refused n place) → ⊥
  unfolding first_refusal unless if
  passes true m n later differ never h = differ (number_is h)
  passes false m n later differ never h = never h

  none : (n : ℕ) → first_refusal [] ≡ Err (refused n place) → ⊥
  unfolding first_refusal
  none n h = not_sound (sym h)

  of_field : (f : Option ℕ) (n : ℕ) (later : List Verdict) → (first_refusal later ≡ Err (refused n place) → ⊥)
      → Iff (first_refusal (refused_by f place ∷ later) ≡ Err (refused n place)) (f ≡ Some n)
  unfolding first_refusal unless
  of_field None n later never = ((λ h. absurd (never h)), λ h. none_some h)
  of_field (Some m) n later never = ((λ h. ap Some (number_is h)), λ h. ap (λ (f : Option ℕ). refused_by f place) h)

  -- of a LIO, 37 stands between
  lio-told : (x : Lio) (full : Bool)
      → LioTold (λ n. first_refusal (refused_by (lio_field x) place ∷ rule (bit_in_both x) 37 place ∷ rule full 38 place ∷ []) ≡ Err (refused n place)) x
  unfolding lio_field if
  lio-told x full =
      let behind : List Verdict = rule (bit_in_both x) 37 place ∷ rule full 38 place ∷ [] in
      let field = of_field (lio_field x) 71 behind (passes (bit_in_both x) 37 71 (rule full 38 place ∷ []) (λ z. omega arith) (passes full 38 71 [] (λ z. omega arith) (none 71))) in
      ⊎_elim
      (λ c.
      let f : lio_field x ≡ None = rw c.0 in
      let e : first_refusal (refused_by (lio_field x) place ∷ behind) ≡ first_refusal behind = rw f (first_kept false 0 place behind refl refl) in
      record {
        r71 = chained field (none_told f c.1);
        r37 = ((λ h. (c.1, shared (bit_in_both x) refl (sym e ∙ h))), λ w. e ∙ first_broken_lem _ _ _ _ w.1);
      })
      (λ c.
      let f : lio_field x ≡ Some 71 = rw c.0 in
      record {
        r71 = chained field (told f c.1);
        r37 = ((λ h. absurd (let n : 71 ≡ 37 = number_is (sym (field.1 f) ∙ h) in omega arith)), λ w. absurd (w.0 c.1));
      })
      (lio_tested x)
    where
      shared : (b : Bool) → bit_in_both x ≡ b → first_refusal (rule (bit_in_both x) 37 place ∷ rule full 38 place ∷ []) ≡ Err (refused 37 place) → bit_in_both x ≡ true
      shared true e h = e
      shared false e h = absurd (passes full 38 37 [] (λ z. omega arith) (none 37) (sym (first_kept _ _ _ _ e refl) ∙ h))

-- ---- a number that is told is that of a rule that is broken
-- the test of the rule of a number from 71 to 78, and of 37
abbrev test_of : List ℕ → ℕ → Bool
test_of s n =
    if (eqb n 71) (wrong_cascade s)
    (if (eqb n 72) (wrong_node s)
    (if (eqb n 73) (wrong_nodes s)
    (if (eqb n 74) (wrong_count s)
    (if (eqb n 75) (wrong_end s)
    (if (eqb n 76) (wrong_base s)
    (if (eqb n 77) (wrong_input s)
    (if (eqb n 78) (wrong_byte s)
    (if (eqb n 37) (shared_bit s) true))))))))

own : (broken : Bool) (m place n : ℕ) → rule broken m place ≡ Err (refused n place) → (m ≡ n) × (broken ≡ true)
unfolding if
own true m place n h = (number_is h, refl)
own false m place n h = not_sound (sym h)

module _ (place before : ℕ) (s : List ℕ) where
  -- what a verdict tells is broken
  abbrev Right : Verdict → Type 0
  Right v = (n : ℕ) → v ≡ Err (refused n place) → test_of s n ≡ true

  right : (broken : Bool) (m : ℕ) → (broken ≡ true → test_of s m ≡ true) → Right (rule broken m place)
  right broken m test n h = let w = own broken m place n h in rw (sym w.0) (test w.1)

  first_right : (v : Verdict) (later : List Verdict) → Right v → Right (first_refusal later) → Right (first_refusal (v ∷ later))
  unfolding first_refusal unless
  first_right (Ok tt) later here after n h = after n h
  first_right (Err r) later here after n h = here n h

  told_broken : (n : ℕ) → RefusedThere place before s n → test_of s n ≡ true
  unfolding structure_rules if
  told_broken =
      first_right _ _ (right (wrong_length s) 32 (λ t. refl))
      (first_right _ _ (right (wrong_version s) 33 (λ t. refl))
      (first_right _ _ (right (wrong_flags s) 35 (λ t. refl))
      (first_right _ _ (right (wrong_cascade s) 71 (λ t. t))
      (first_right _ _ (right (wrong_node s) 72 (λ t. t))
      (first_right _ _ (right (wrong_nodes s) 73 (λ t. t))
      (first_right _ _ (right (wrong_count s) 74 (λ t. t))
      (first_right _ _ (right (wrong_end s) 75 (λ t. t))
      (first_right _ _ (right (wrong_base s) 76 (λ t. t))
      (first_right _ _ (right (wrong_input s) 77 (λ t. t))
      (first_right _ _ (right (wrong_byte s) 78 (λ t. t))
      (first_right _ _ (right (shared_bit s) 37 (λ t. t))
      (first_right _ _ (right (one_too_many before s) 38 (λ t. refl))
      (λ n h. absurd (none place n h))))))))))))))

  -- and each test is of its types
  typed : (number : ℕ) (rest : Bool) → (is_type number s && rest) ≡ true → byte_at s 0 ≡ number
  unfolding is_type
  typed number rest h = eqb-true _ _ (both_left (eqb (byte_at s 0) number) rest h)

  either_typed : (n m : ℕ) (p q : Bool) → (is_type n s && p || is_type m s && q) ≡ true → (byte_at s 0 ≡ n) ⊎ (byte_at s 0 ≡ m)
  either_typed n m p q h = ⊎_elim (λ a. inl (typed n p a)) (λ a. inr (typed m q a)) (or_cases (is_type n s && p) (is_type m s && q) h)

  of_type_lem : ToldOfType (RefusedThere place before s) (byte_at s 0)
  unfolding if wrong_cascade wrong_node wrong_nodes wrong_count wrong_end wrong_base wrong_input wrong_byte shared_bit
  of_type_lem =
      record {
        r71 = λ h. either_typed 18 20 _ _ (told_broken 71 h);
        r72 = λ h. either_typed 20 22 _ _ (told_broken 72 h);
        r73 = λ h. typed 20 _ (told_broken 73 h);
        r74 = λ h. typed 21 _ (told_broken 74 h);
        r75 = λ h. typed 21 _ (told_broken 75 h);
        r76 = λ h. typed 22 _ (told_broken 76 h);
        r77 = λ h. typed 23 _ (told_broken 77 h);
        r78 = λ h. typed 19 _ (told_broken 78 h);
        r37 = λ h. typed 18 _ (told_broken 37 h);
      }

-- THE PROMISE
module _ (place before : ℕ) (s : List ℕ) where
  abbrev full : Bool
  full = one_too_many before s

  abbrev verdict : Verdict
  verdict = first_refusal (structure_rules place before s)

  -- a kind whose ranges are all that it has
  by_field : {f : Option ℕ} → verdict ≡ first_refusal (refused_by f place ∷ rule full 38 place ∷ []) → (n : ℕ) → (38 ≡ n → ⊥)
      → Iff (RefusedThere place before s n) (f ≡ Some n)
  by_field {f} e n differ =
      let field = of_field place f n (rule full 38 place ∷ []) (passes place full 38 n [] differ (none place n)) in
      ((λ h. field.0 (sym e ∙ h)), λ h. e ∙ field.1 h)

  pub fields_exactly : FieldsExactly place before s
  fields_exactly =
      record {
        oftype = of_type_lem place before s;
        lio = λ o.
            let e = for_lio place before s o.r32 o.r33 refl o.type in
            let l = lio-told place (lio_of s) full in
            record {
              r71 = ((λ h. l.r71.0 (sym e ∙ h)), λ w. e ∙ l.r71.1 w);
              r37 = ((λ h. l.r37.0 (sym e ∙ h)), λ w. e ∙ l.r37.1 w);
            };
        ht = λ o.
            let e = by_field (for_ht place before s o.r32 o.r33 refl o.type) in
            record { r78 = chained (e 78 (λ z. omega arith)) (ht_fields (ht_of s)).r78 };
        eio = λ o.
            let e = by_field (for_eio place before s o.r32 o.r33 refl o.type) in
            let x = eio_fields (eio_of s) in
            record {
              r71 = chained (e 71 (λ z. omega arith)) x.r71;
              r72 = chained (e 72 (λ z. omega arith)) x.r72;
              r73 = chained (e 73 (λ z. omega arith)) x.r73;
            };
        msi = λ o.
            let e = by_field (for_msi place before s o.r32 o.r33 refl o.type) in
            let x = msi_fields (msi_of s) in
            record {
              r74 = chained (e 74 (λ z. omega arith)) x.r74;
              r75 = chained (e 75 (λ z. omega arith)) x.r75;
            };
        bio = λ o.
            let e = by_field (for_bio place before s o.r32 o.r33 refl o.type) in
            let x = bio_fields (bio_of s) in
            record {
              r72 = chained (e 72 (λ z. omega arith)) x.r72;
              r76 = chained (e 76 (λ z. omega arith)) x.r76;
            };
        lpc = λ o.
            let e = by_field (for_lpc place before s o.r32 o.r33 refl o.type) in
            let x = lpc_fields (lpc_of s) in
            record { r77 = chained (e 77 (λ z. omega arith)) x.r77 };
      }
