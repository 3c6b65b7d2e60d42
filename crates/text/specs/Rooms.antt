-- What the program works in, and no line of document 01: the list that it lends to the reading, the bytes that it prints into, and
-- what a writer does to them.
-- That the list is never too short is proved in proofs/Few, that every text fits in proofs/Bounds, so that no answer changes.
use Rattle.std.specs.Prelude.{◌≡◌, ℕ, ◌+◌, ◌≤◌, List, length, replicate}
use Rattle.std.proofs.lemmas.List.Edits.{sets}
use Rattle.text.specs.declared.put.Writer.{Writer}

-- two numbers for each processor, of which there are at most 256
abbrev pub lent : List ℕ
lent = replicate 512 0

-- some bytes from byte n on end where every text does
abbrev pub Fits : ℕ → List ℕ → Type 0
Fits n bytes = n + length bytes ≤ 16384

-- what a writer did: it has the room that it had, and where the bytes end no later than every text does, the room has them from the
-- old end on, as far as it goes, and the new end is the one behind them
pub record Wrote (bytes : List ℕ) (old new : Writer) : Type 0 where
  pub same : new.room.ghost_name ≡ old.room.ghost_name
  pub end : Fits old.end bytes → new.end ≡ old.end + length bytes
  pub room : Fits old.end bytes → new.room.now ≡ sets old.room.now old.end bytes
