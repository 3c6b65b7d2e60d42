-- Words and numbers as bytes.
use Rattle.std.specs.Prelude.{ℕ, zero, suc, ◌+◌, ◌/◌, ◌%◌, List, [], ◌∷◌, ◌++◌, ltb}
use Prim.Native.Char.{code}
use Prim.Native.String.{String, [] as empty, ◌∷◌ as ◌then◌}
use Rattle.words.specs.Choice.{if}

-- the bytes of a word
unfoldable pub letters : String → List ℕ
letters empty = []
letters (c then cs) = code c ∷ letters cs

-- the byte of a digit
abbrev pub digit : ℕ → ℕ
digit d = 48 + d

-- the digits of n, of which there are no more than k: those of n / 10, and then the last
unfoldable pub digits : ℕ → ℕ → List ℕ
digits zero n = []
digits (suc k) n =
    let front = digits k (n / 10) in
    if (ltb n 10) (digit n ∷ []) (front ++ (digit (n % 10) ∷ []))

-- "Numbers are decimal": no zero leads, and 0 is one digit. A number of 64 bits has no more than 20 digits.
unfoldable pub decimal : ℕ → List ℕ
decimal n = digits 20 n
