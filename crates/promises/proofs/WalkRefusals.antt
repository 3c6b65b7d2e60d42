-- Refusals 31 to 33, 35, 71 to 78, 37 and 38: of a structure of the MADT, at its place. And 34, at one of them.
use Prim.Native.Nat.{ℕ, suc, ◌+◌, ◌<◌, ◌≤◌}
use native.Mathlib.Omega.{arith}
use mathlib.Core.Path.{refl}
use mathlib.Core.List.{List, [], ◌∷◌, ◌++◌}
use mathlib.Core.Bool.{Bool, true}
use lib.ListN.{length}
use Rattle.words.specs.Bytes.{byte_at}
use Rattle.words.specs.Refusals.{Verdict, rule, first_refusal}
use Rattle.madt.specs.Rules.{structure_rules}
use Rattle.madt.specs.Pieces.{Piece, whole, cut, Whole, pieces, structures}
use Rattle.madt.specs.Contents.{how_many}
use Rattle.madt.specs.Walk.{rules_in_turn, kind_rules, walk_rules, walked}
use Rattle.madt.proofs.Accepted.{walk_verdict}
use Rattle.map_promises.proofs.InOrder.{InOrder, pieces_in_order}
use Rattle.map_promises.proofs.Rising.{Rising, structures_rise}
use Rattle.promises.proofs.Told.{is_in_turn, is34, is_of_structures, Told, Named, Inside, tell, told_left, told_right, none_told, rule_told, joined-told}

module _ (capture : List ℕ) where
  -- a rule of a structure inside the capture, and the rest
  one_told : (own : ℕ → Bool) (broken : Bool) (n place : ℕ) (later : List Verdict) → Named own n → Inside capture place → Told own capture (first_refusal later)
      → Told own capture (first_refusal (rule broken n place ∷ later))
  one_told own broken n place later named at rest = rule_told own capture broken n place later (tell own capture n place named at) (λ z. rest)

  structure_told : (place before : ℕ) (s : List ℕ) → Inside capture place → Told is_in_turn capture (first_refusal (structure_rules place before s))
  unfolding structure_rules
  structure_told place before s at =
      one_told is_in_turn _ 32 place _ (refl, refl, refl, refl) at
      (one_told is_in_turn _ 33 place _ (refl, refl, refl, refl) at
      (one_told is_in_turn _ 35 place _ (refl, refl, refl, refl) at
      (one_told is_in_turn _ 71 place _ (refl, refl, refl, refl) at
      (one_told is_in_turn _ 72 place _ (refl, refl, refl, refl) at
      (one_told is_in_turn _ 73 place _ (refl, refl, refl, refl) at
      (one_told is_in_turn _ 74 place _ (refl, refl, refl, refl) at
      (one_told is_in_turn _ 75 place _ (refl, refl, refl, refl) at
      (one_told is_in_turn _ 76 place _ (refl, refl, refl, refl) at
      (one_told is_in_turn _ 77 place _ (refl, refl, refl, refl) at
      (one_told is_in_turn _ 78 place _ (refl, refl, refl, refl) at
      (one_told is_in_turn _ 37 place _ (refl, refl, refl, refl) at
      (one_told is_in_turn _ 38 place _ (refl, refl, refl, refl) at (none_told is_in_turn capture)))))))))))))

module _ (capture : List ℕ) (base until : ℕ) (ends : base + until ≤ length capture) where
  in_turn_told : (before : List Whole) (ps : List Piece) (from : ℕ) → 0 < from → InOrder until from ps
      → Told is_in_turn capture (first_refusal (rules_in_turn base before ps))
  unfolding rules_in_turn
  in_turn_told before [] from l o = none_told is_in_turn capture
  in_turn_told before (cut at ∷ ps) from l o =
      one_told capture is_in_turn true 31 (base + at) [] (refl, refl, refl, refl) (omega (arith, o.0), omega (arith, o.1)) (none_told is_in_turn capture)
  in_turn_told before (whole at s ∷ ps) from l o =
      joined-told is_in_turn capture (structure_rules (base + at) (how_many (byte_at s 0) before) s) _
      (structure_told capture (base + at) (how_many (byte_at s 0) before) s (omega (arith, o.0), omega (arith, o.1)))
      (λ sound. in_turn_told (before ++ (record { at = at; bytes = s } ∷ [])) ps (suc at) (omega arith) o.2)

  -- 34, of structures that stand inside the capture
  kinds_told : (before all : List Whole) (from : ℕ) → 0 < from → Rising until from all → Told is34 capture (first_refusal (kind_rules base before all))
  unfolding kind_rules
  kinds_told before [] from l o = none_told is34 capture
  kinds_told before (x ∷ all) from l o =
      one_told capture is34 _ 34 (base + x.at) _ (refl, refl, refl, refl) (omega (arith, o.0), omega (arith, o.1))
      (kinds_told (before ++ (x ∷ [])) all (suc x.at) (omega arith) o.2)

  -- the structures of a MADT that ends inside the capture, in turn and then together
  module _ (table : List ℕ) (first : 44 ≤ until) (all : length table ≤ until) where
    pub turns_told : Told is_in_turn capture (first_refusal (rules_in_turn base [] (pieces table 44)))
    turns_told = in_turn_told [] (pieces table 44) 44 (omega arith) (pieces_in_order table until all 44 first)

    together_told : Told is34 capture (first_refusal (kind_rules base [] (structures (pieces table 44))))
    together_told = kinds_told [] (structures (pieces table 44)) 44 (omega arith) (structures_rise until 44 (pieces table 44) (pieces_in_order table until all 44 first))

  -- its walk
  pub walked-told : (table : List ℕ) (sci : ℕ) (pins : ℕ → ℕ) → 44 ≤ until → length table ≤ until → Told is_of_structures capture (walked table base sci pins).verdict
  unfolding walk_rules
  walked-told table sci pins first all =
      rw (walk_verdict table base sci pins)
      (joined-told is_of_structures capture (rules_in_turn base [] (pieces table 44)) _
      (told_left is_in_turn is34 capture (first_refusal (rules_in_turn base [] (pieces table 44))) (turns_told table first all))
      (λ sound. told_right is_in_turn is34 capture (first_refusal (kind_rules base [] (structures (pieces table 44)))) (together_told table first all)))
