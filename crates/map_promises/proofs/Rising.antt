-- The structures of a table stand one behind the other, so that an offset is that of one structure alone; and so do those of one
-- type.
use Prim.Native.Nat.{ℕ, zero, suc, ◌<◌, ◌≤◌}
use native.Mathlib.Omega.{arith}
use mathlib.Core.Path.{◌≡◌, refl, ap}
use mathlib.Core.List.{List, [], ◌∷◌}
use mathlib.Core.Bool.{Bool, true, false}
use lib.ListN.{length, get_or}
use Rattle.words.specs.Choice.{if}
use Rattle.words.specs.Lists.{those}
use Rattle.madt.specs.Pieces.{Piece, whole, cut, Whole, structures}
use Rattle.madt.proofs.Accepted.{no_whole}
use Rattle.map_promises.proofs.InOrder.{InOrder}

-- every structure stands at `from` or behind it, behind those before it, and before `until`
abbrev pub Rising : ℕ → ℕ → List Whole → Type 0
Rising until from [] = 0 < 1
Rising until from (x ∷ xs) = (from ≤ x.at) × (x.at < until) × Rising until (suc x.at) xs

pub structures_rise : (until from : ℕ) (ps : List Piece) → InOrder until from ps → Rising until from (structures ps)
unfolding structures
structures_rise until from [] o = omega arith
structures_rise until from (cut at ∷ ps) o = omega arith
structures_rise until from (whole at s ∷ ps) o = (o.0, o.1, structures_rise until (suc at) ps o.2)

module _ (until : ℕ) where
  sooner : (from to : ℕ) (xs : List Whole) → from ≤ to → Rising until to xs → Rising until from xs
  sooner from to [] l r = r
  sooner from to (x ∷ xs) l r = (omega (arith, r.0), r.1, r.2)

  -- those of one type rise too
  pub those_rise : (test : Whole → Bool) (from : ℕ) (xs : List Whole) → Rising until from xs → Rising until from (those test xs)
  unfolding those if
  those_rise test from [] r = r
  those_rise test from (x ∷ xs) r = go (test x) (those_rise test (suc x.at) xs r.2)
    where
      go : (b : Bool) → Rising until (suc x.at) (those test xs) → Rising until from (if b (x ∷ those test xs) (those test xs))
      go true later = (r.0, r.1, later)
      go false later = sooner from (suc x.at) (those test xs) (omega (arith, r.0)) later

  -- where the structure at an index stands
  pub rises_at : (from : ℕ) (xs : List Whole) → Rising until from xs → (i : ℕ) → i < length xs → (from ≤ (get_or xs i no_whole).at) × ((get_or xs i no_whole).at < until)
  rises_at from [] r i l = absurd (omega arith)
  rises_at from (x ∷ xs) r zero l = (r.0, r.1)
  rises_at from (x ∷ xs) r (suc i) l =
      let later = rises_at (suc x.at) xs r.2 i (omega arith) in (omega (arith, r.0, later.0), later.1)

  -- so an offset is that of one index
  pub one_index : (from : ℕ) (xs : List Whole) → Rising until from xs → (i j : ℕ) → i < length xs → j < length xs
      → (get_or xs i no_whole).at ≡ (get_or xs j no_whole).at → i ≡ j
  one_index from [] r i j l m e = absurd (omega arith)
  one_index from (x ∷ xs) r zero zero l m e = refl
  one_index from (x ∷ xs) r zero (suc j) l m e = absurd (omega (arith, (rises_at (suc x.at) xs r.2 j (omega arith)).0))
  one_index from (x ∷ xs) r (suc i) zero l m e = absurd (omega (arith, (rises_at (suc x.at) xs r.2 i (omega arith)).0))
  one_index from (x ∷ xs) r (suc i) (suc j) l m e = ap suc (one_index (suc x.at) xs r.2 i j (omega arith) (omega arith) e)

-- a structure that a test takes is one of all
abbrev Among : (Whole → Bool) → List Whole → Whole → Type 0
Among test xs y = (k : ℕ) × (k < length xs) × (get_or xs k no_whole ≡ y) × (test y ≡ true)

pub those-among : (test : Whole → Bool) (xs : List Whole) (i : ℕ) → i < length (those test xs) → Among test xs (get_or (those test xs) i no_whole)
unfolding those if
those-among test [] i l = absurd (omega arith)
those-among test (x ∷ xs) i l = go (test x) refl (those-among test xs) i l
  where
    go : (b : Bool) → test x ≡ b → ((i : ℕ) → i < length (those test xs) → Among test xs (get_or (those test xs) i no_whole))
        → (i : ℕ) → i < length (if b (x ∷ those test xs) (those test xs))
        → Among test (x ∷ xs) (get_or (if b (x ∷ those test xs) (those test xs)) i no_whole)
    go true t later zero l = (0, omega arith, refl, t)
    go true t later (suc i) l = let r = later i (omega arith) in (suc r.0, omega (arith, r.1), r.2, r.3)
    go false t later i l = let r = later i l in (suc r.0, omega (arith, r.1), r.2, r.3)
