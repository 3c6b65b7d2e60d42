-- Document 01, "Board A and its neighbours": the lines of the printed map, kind by kind, with the `ht` line of W-201 of document 02, and the
-- line of a refusal, to which W-202 adds the second place.
use Rattle.std.specs.Prelude.{ℕ, ◌+◌, ◌-◌, List, [], ◌∷◌, ◌++◌, eqb, Result, Ok, Err}
use Prim.Native.Char.{code}
use Rattle.words.specs.Choice.{if}
use Rattle.words.specs.declared.Refusal.{Refusal}
use Rattle.kinds.specs.declared.Half.{Half}
use Rattle.kinds.specs.declared.Lio.{Lio}
use Rattle.kinds.specs.declared.Ht.{Ht}
use Rattle.kinds.specs.declared.Eio.{Eio}
use Rattle.kinds.specs.declared.Bio.{Bio}
use Rattle.kinds.specs.declared.Msi.{Msi}
use Rattle.kinds.specs.declared.Lpc.{Lpc}
use Rattle.lines.specs.declared.Route.{Route}
use Rattle.lines.specs.declared.Route.TheVariants.{Arrives, Unwired, NoOwner}
use Rattle.text.specs.Numerals.{letters, decimal}

-- what each element of a list adds, one behind the other
unfoldable pub each : {A : Type 0} → (A → List ℕ) → List A → List ℕ
each f [] = []
each f (x ∷ xs) = f x ++ each f xs

-- ---- a line
-- a blank, and a number
unfoldable pub field : ℕ → List ℕ
field number = code " " ∷ decimal number

-- a word, and numbers behind it
unfoldable pub phrase : List ℕ → List ℕ → List ℕ
phrase word numbers = word ++ each field numbers

-- the same with a newline at its end
unfoldable pub line : List ℕ → List ℕ → List ℕ
line word numbers = phrase word numbers ++ (code "\n" ∷ [])

-- ---- the kinds of lines
-- "capture version"
unfoldable pub version_line : ℕ → List ℕ
version_line version = line (letters "map") (version ∷ [])

-- "UID and ID"
unfoldable pub core_line : ℕ → ℕ → List ℕ
core_line uid id = line (letters "core") (uid ∷ id ∷ [])

-- the processor list holds them in turn
unfoldable pub core_lines : List ℕ → List ℕ
core_lines [] = []
core_lines (uid ∷ []) = []
core_lines (uid ∷ id ∷ later) = core_line uid id ++ core_lines later

-- "cascade and mask, a line for each used half": a half with mask 0 is unused
unfoldable pub half_line : Half → List ℕ
half_line half = if (eqb half.mask 0) [] (line (letters "lio") (half.cascade ∷ half.mask ∷ []))

-- "low first"
unfoldable pub lio_lines : Lio → List ℕ
lio_lines lio = half_line lio.low ++ half_line lio.high

-- "The map prints `ht` and the eight bytes where `eio` stood": an HT that is there
unfoldable pub ht_line : Ht → List ℕ
ht_line ht = if ht.present (line (letters "ht") ht.bytes) []

-- "node, cascade, map"
unfoldable pub eio_line : Eio → List ℕ
eio_line eio = line (letters "eio") (eio.node ∷ eio.cascade ∷ eio.nodes ∷ [])

-- the last of some numbers in a row
abbrev pub last_of : ℕ → ℕ → ℕ
last_of first count = first + count - 1

-- "node, first and last number"
unfoldable pub bio_line : Bio → List ℕ
bio_line bio = line (letters "bio") (bio.node ∷ bio.base ∷ last_of bio.base bio.pins ∷ [])

-- "first and last slot"
unfoldable pub msi_line : Msi → List ℕ
msi_line msi = line (letters "msi") (msi.start ∷ last_of msi.start msi.count ∷ [])

-- "its bridge's node and input"; an LPC that is accepted has a bridge of its node (43)
unfoldable pub lpc_line : Lpc → List ℕ
lpc_line lpc = if lpc.present (line (letters "lpc") (lpc.node ∷ lpc.cascade ∷ [])) []

-- "number, vector, arrival number"; the SCI of an accepted map arrives (54)
unfoldable pub sci_line : ℕ → Result Route Refusal → List ℕ
sci_line sci (Ok (Arrives vector number)) = line (letters "sci") (sci ∷ vector ∷ number ∷ [])
sci_line sci (Ok Unwired) = []
sci_line sci (Ok NoOwner) = []
sci_line sci (Err refusal) = []

-- "printed `refused 52 at 262 with 243`; all others carry 0, unprinted": the places, to the end of the line
unfoldable pub places_line : ℕ → ℕ → List ℕ
places_line place second =
    if (eqb second 0)
    (line (letters " at") (place ∷ []))
    (phrase (letters " at") (place ∷ []) ++ line (letters " with") (second ∷ []))

-- "A refusal prints `refused NUMBER at PLACE`."
unfoldable pub refusal_line : Refusal → List ℕ
refusal_line refusal = phrase (letters "refused") (refusal.number ∷ []) ++ places_line refusal.place refusal.second
