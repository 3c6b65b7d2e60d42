-- A shortcut of the program, and no line of document 01: the walk notes in a lent room where the enabled CORE stand, so that nothing has to
-- step over the table again. That these are all of an accepted MADT is proved in proofs/Accepted, and in the crate processors that no
-- answer changes by it (proofs/ReadAgain).
use Rattle.std.specs.Prelude.{ℕ, ◌+◌, List, [], ◌∷◌, ◌++◌}
use Rattle.std.proofs.lemmas.List.Edits.{sets}
use Rattle.words.specs.Bytes.{byte_at}
use Rattle.words.specs.Refusals.{unless, first_refusal}
use Rattle.madt.specs.Pieces.{Piece, whole, cut, Whole, pieces}
use Rattle.madt.specs.Rules.{structure_rules}
use Rattle.madt.specs.Contents.{how_many, enabled_cores, offsets_of}

-- the structures that are taken in turn, after some before them: a refusal ends it
unfoldable pub taken_in_turn : ℕ → List Whole → List Piece → List Whole
taken_in_turn base before [] = []
taken_in_turn base before (cut at ∷ pieces) = []
taken_in_turn base before (whole at s ∷ pieces) =
    let x : Whole = record { at = at; bytes = s } in
    unless (λ refusal. []) (first_refusal (structure_rules (base + at) (how_many (byte_at s 0) before) s))
    (x ∷ taken_in_turn base (before ++ (x ∷ [])) pieces)

-- all that are taken of the MADT with some bytes
unfoldable pub taken : List ℕ → ℕ → List Whole
taken table base = taken_in_turn base [] (pieces table 44)

-- the room afterwards: in its front it is noted where the enabled CORE that were taken stand in the table, and the rest stays
unfoldable pub noted : List ℕ → ℕ → List ℕ → List ℕ
noted table base room = sets room 0 (offsets_of (enabled_cores (taken table base)))
