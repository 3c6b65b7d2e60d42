-- Document 01, "structures in turn, each through 31 to 38" (71 to 78 stand in 36's place), and 34, which W-201 of document 02 has "after the
-- walk and before 39": the map of a MADT, given by its own bytes, or its first refusal.
use Rattle.std.specs.Prelude.{ℕ, ◌+◌, Bool, true, ◌&&◌, ◌||◌, List, [], ◌∷◌, ◌++◌, leb, Ok, Err}
use Rattle.words.specs.Bytes.{byte_at}
use Rattle.words.specs.Refusals.{Verdict, rule, unless, first_refusal}
use Rattle.words.specs.declared.Refusal.{Refusal}
use Rattle.madt.specs.Pieces.{Piece, whole, cut, Whole, pieces, structures}
use Rattle.madt.specs.Rules.{is_type, structure_rules}
use Rattle.madt.specs.Contents.{how_many, found_in, nothing}
use Rattle.madt.specs.declared.Found.{Found}

-- the rules of some pieces in turn, after the structures before them: 31 of one that is cut, `structure_rules` of a whole one. The MADT
-- stands at `base`.
unfoldable pub rules_in_turn : ℕ → List Whole → List Piece → List Verdict
rules_in_turn base before [] = []
rules_in_turn base before (cut at ∷ pieces) = rule true 31 (base + at) ∷ []
rules_in_turn base before (whole at s ∷ pieces) =
    structure_rules (base + at) (how_many (byte_at s 0) before) s
    ++ rules_in_turn base (before ++ (record { at = at; bytes = s } ∷ [])) pieces

-- a structure "that gives the board both kinds or a second HT", by those before it
unfoldable pub gives_both : List Whole → List ℕ → Bool
gives_both before s =
    is_type 19 s && (leb 1 (how_many 19 before) || leb 1 (how_many 20 before)) || is_type 20 s && leb 1 (how_many 19 before)

-- 34 of some structures in turn, after those before them: "at the first structure" of which this is true
unfoldable pub kind_rules : ℕ → List Whole → List Whole → List Verdict
kind_rules base before [] = []
kind_rules base before (x ∷ later) = rule (gives_both before x.bytes) 34 (base + x.at) ∷ kind_rules base (before ++ (x ∷ [])) later

-- all rules of the structures of the MADT with some bytes: 31 to 38 and 71 to 78 in turn, and then 34
unfoldable pub walk_rules : List ℕ → ℕ → List Verdict
walk_rules table base = rules_in_turn base [] (pieces table 44) ++ kind_rules base [] (structures (pieces table 44))

-- what the walk tells of every capture: its verdict, and what is found
pub record Walked : Type 0 where
  pub verdict : Verdict
  pub found : Found

-- a refusal comes with the fixed empty map and without processors
unfoldable pub turned_away : Refusal → Walked
turned_away refusal = record { verdict = Err refusal; found = nothing 0 }

-- what is found in the MADT with some bytes, at a place, with the SCI number of the map, where `pins` tells how many inputs the
-- bridges with a hardware ID have
unfoldable pub walked : List ℕ → ℕ → ℕ → (ℕ → ℕ) → Walked
walked table base sci pins =
    unless turned_away (first_refusal (walk_rules table base))
    (record { verdict = Ok tt; found = found_in base sci pins (structures (pieces table 44)) })
