-- What it is to repeat an ID, position by position, and where UID and physical ID of a processor stand in the list of numbers.
use Prim.Native.Nat.{ℕ, zero, suc, ◌+◌, ◌*◌, ◌<◌}
use native.Mathlib.Omega.{arith}
use mathlib.Core.Path.{◌≡◌, refl, sym, ◌∙◌}
use mathlib.Core.Bool.{Bool, true, false, ◌||◌, true≢false}
use mathlib.Core.List.{List, [], ◌∷◌}
use mathlib.Core.Logic.{◌⊎◌, inl, inr}
use borrow.Author.Tests.{eqb-true, eqb-false}
use lib.Dec.{eqb}
use lib.ListN.{length, get_or, take}
use lib.Seq.{length-take-le, get_or-take}
use Rattle.words.specs.Lists.{first}
use Rattle.words.proofs.Choices.{no_if, passed}
use Rattle.words.proofs.Tests.{neither_left, neither_right}
use Rattle.processors.specs.Listing.{numbers_of}
use Rattle.processors.specs.declared.Processor.{Processor}
use Rattle.processors.specs.Repeats.{share_id, shares_with_one, no_processor, repeats_id}

-- ---- two processors
module _ (p q : Processor) where
  pub shared : share_id p q ≡ true → (p.uid ≡ q.uid) ⊎ (p.id ≡ q.id)
  shared = go (eqb p.uid q.uid) refl
    where
      go : (same : Bool) → eqb p.uid q.uid ≡ same → (same || eqb p.id q.id) ≡ true → (p.uid ≡ q.uid) ⊎ (p.id ≡ q.id)
      go true e h = inl (eqb-true p.uid q.uid e)
      go false e h = inr (eqb-true p.id q.id h)

  pub not_shared : share_id p q ≡ false → (p.uid ≡ q.uid → ⊥) × (p.id ≡ q.id → ⊥)
  not_shared h =
      let uids = eqb p.uid q.uid in
      let ids = eqb p.id q.id in
      (eqb-false p.uid q.uid (neither_left uids ids h), eqb-false p.id q.id (neither_right uids ids h))

-- ---- one of a list beside those before it
abbrev pub at : List Processor → ℕ → Processor
at ps k = get_or ps k no_processor

shares_some : (others : List Processor) (p : Processor) → shares_with_one others p ≡ true
    → (i : ℕ) × (i < length others) × (share_id p (at others i) ≡ true)
unfolding shares_with_one first
shares_some [] p h = absurd (true≢false (sym h))
shares_some (q ∷ qs) p h = go (share_id p q) refl (λ e. shares_some qs p (sym (no_if _ _ _ e refl) ∙ h))
  where
    go : (b : Bool) → share_id p q ≡ b → (share_id p q ≡ false → (i : ℕ) × (i < length qs) × (share_id p (at qs i) ≡ true))
        → (i : ℕ) × (i < length (q ∷ qs)) × (share_id p (at (q ∷ qs) i) ≡ true)
    go true e later = (0, omega arith, e)
    go false e later = let l = later e in (suc l.0, omega (arith, l.1), l.2)

shares_none : (others : List Processor) (p : Processor) → shares_with_one others p ≡ false → (i : ℕ) → i < length others
    → share_id p (at others i) ≡ false
unfolding shares_with_one first
shares_none [] p h i l = absurd (omega arith)
shares_none (q ∷ qs) p h zero l = (passed (share_id p q) true (shares_with_one qs p) false h true≢false).0
shares_none (q ∷ qs) p h (suc i) l = shares_none qs p (passed (share_id p q) true (shares_with_one qs p) false h true≢false).1 i (omega arith)

module _ (ps : List Processor) (k : ℕ) (inside : k < length ps) where
  pub repeats_some : repeats_id ps k ≡ true → (i : ℕ) × (i < k) × (share_id (at ps k) (at ps i) ≡ true)
  unfolding repeats_id
  repeats_some h =
      let some = shares_some (take k ps) (at ps k) h in
      let less : some.0 < k = omega (arith, some.1, length-take-le k ps (omega arith)) in
      (some.0, less, rw (get_or-take k ps some.0 no_processor less) at some.2)

  pub repeats_none : repeats_id ps k ≡ false → (i : ℕ) → i < k → share_id (at ps k) (at ps i) ≡ false
  unfolding repeats_id
  repeats_none h i l =
      rw (get_or-take k ps i no_processor l) at (shares_none (take k ps) (at ps k) h i (omega (arith, length-take-le k ps (omega arith))))

-- ---- as numbers
pub uid_at : (ps : List Processor) (k : ℕ) → get_or (numbers_of ps) (2 * k) 0 ≡ (at ps k).uid
unfolding numbers_of
uid_at [] k = refl
uid_at (p ∷ ps) zero = refl
uid_at (p ∷ ps) (suc k) = let e : 2 * suc k ≡ suc (suc (2 * k)) = omega arith in rw e (uid_at ps k)

pub id_at : (ps : List Processor) (k : ℕ) → get_or (numbers_of ps) (2 * k + 1) 0 ≡ (at ps k).id
unfolding numbers_of
id_at [] k = refl
id_at (p ∷ ps) zero = refl
id_at (p ∷ ps) (suc k) = let e : 2 * suc k + 1 ≡ suc (suc (2 * k + 1)) = omega arith in rw e (id_at ps k)
