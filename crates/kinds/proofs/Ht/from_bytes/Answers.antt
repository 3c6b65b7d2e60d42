-- `Ht::from_bytes` reads the bytes of an HT.
use mathlib.Core.Path.{◌≡◌, refl}
use Rattle.std.proofs.Common.{rules, ℕ, List, [], ◌∷◌, length}
use native.Mathlib.Omega.{arith}
use Rattle.words.specs.Bytes.{byte_at}
use Rattle.kinds.specs.Makers.{ht_of}
use Rattle.kinds.proofs.Ht.from_bytes.Goals as goal

-- a list of eight by its elements
eight : (xs : List ℕ) → length xs ≡ 8
    → xs ≡ byte_at xs 0 ∷ byte_at xs 1 ∷ byte_at xs 2 ∷ byte_at xs 3 ∷ byte_at xs 4 ∷ byte_at xs 5 ∷ byte_at xs 6 ∷ byte_at xs 7 ∷ []
eight (a ∷ b ∷ c ∷ d ∷ e ∷ f ∷ g ∷ h ∷ []) l = refl
eight _ l = absurd (omega arith)

pub returns : goal.returns
unfolding ht_of
returns c =
    let bytes = c.from_fn-bytes.result in
    let s = c.args.structure.now in
    let b0 : byte_at bytes 0 ≡ byte_at s 13 = search rules in
    let b1 : byte_at bytes 1 ≡ byte_at s 14 = search rules in
    let b2 : byte_at bytes 2 ≡ byte_at s 15 = search rules in
    let b3 : byte_at bytes 3 ≡ byte_at s 16 = search rules in
    let b4 : byte_at bytes 4 ≡ byte_at s 17 = search rules in
    let b5 : byte_at bytes 5 ≡ byte_at s 18 = search rules in
    let b6 : byte_at bytes 6 ≡ byte_at s 19 = search rules in
    let b7 : byte_at bytes 7 ≡ byte_at s 20 = search rules in
    rw (eight bytes c.from_fn-bytes.ensures.items.long, b0, b1, b2, b3, b4, b5, b6, b7)
