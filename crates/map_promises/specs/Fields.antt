-- What a structure is refused with for a field out of its range: "71 cascade of EIO or LIO, 72 node or hardware ID, 73 node map, 74 MSI
-- count, 75 MSI end, 76 GSI base, 77 LPC cascade, 78 HT byte" (document 02, W-202), each number by itself, in numbers and not by the tests that
-- the rules are made of. proofs/Fields.antt has the theorem.
use Rattle.std.specs.Prelude.{ℕ, ◌+◌, ◌<◌, ◌≤◌, true, false, List, ◌⊎◌, ◌≡◌, length, get_or, Err}
use Rattle.words.specs.Bytes.{byte_at}
use Rattle.words.specs.Refusals.{refused, first_refusal}
use Rattle.kinds.specs.Makers.{lio_of, ht_of, eio_of, msi_of, bio_of, lpc_of}
use Rattle.kinds.specs.Ranges.{bit_in_both}
use Rattle.kinds.specs.declared.Half.{Half}
use Rattle.kinds.specs.declared.Lio.{Lio}
use Rattle.kinds.specs.declared.Ht.{Ht}
use Rattle.kinds.specs.declared.Eio.{Eio}
use Rattle.kinds.specs.declared.Msi.{Msi}
use Rattle.kinds.specs.declared.Bio.{Bio}
use Rattle.kinds.specs.declared.Lpc.{Lpc}
use Rattle.madt.specs.Rules.{wrong_length, wrong_version, structure_rules}

-- one exactly when the other
abbrev pub Iff : Type 0 → Type 0 → Type 0
Iff A B = (A → B) × (B → A)

-- a number is not from `low` to `high`
abbrev pub Outside : ℕ → ℕ → ℕ → Type 0
Outside low high n = (n < low) ⊎ (high < n)

-- "of a used LIO half": one with a mask
abbrev pub HalfWrong : Half → Type 0
HalfWrong half = (half.mask ≡ 0 → ⊥) × Outside 2 9 half.cascade

abbrev pub LioWrong : Lio → Type 0
LioWrong lio = HalfWrong lio.low ⊎ HalfWrong lio.high

-- ---- what is told of the fields of each kind; a number's rule is asked where those above it are kept
pub record LioTold (told : ℕ → Type 0) (lio : Lio) : Type 0 where
  pub r71 : Iff (told 71) (LioWrong lio)
  -- 37, "a bit in both LIO masks", comes behind
  pub r37 : Iff (told 37) ((LioWrong lio → ⊥) × (bit_in_both lio ≡ true))

-- a byte of the HT is over 31
abbrev pub ByteWrong : Ht → Type 0
ByteWrong ht = (n : ℕ) × (n < length ht.bytes) × (31 < get_or ht.bytes n 0)

pub record HtTold (told : ℕ → Type 0) (ht : Ht) : Type 0 where
  pub r78 : Iff (told 78) (ByteWrong ht)

pub record EioTold (told : ℕ → Type 0) (eio : Eio) : Type 0 where
  pub r71 : Iff (told 71) (Outside 2 9 eio.cascade)
  pub r72 : Iff (told 72) ((Outside 2 9 eio.cascade → ⊥) × (63 < eio.node))
  pub r73 : Iff (told 73) ((Outside 2 9 eio.cascade → ⊥) × (eio.node ≤ 63) × (eio.nodes ≡ 0))

pub record MsiTold (told : ℕ → Type 0) (msi : Msi) : Type 0 where
  pub r74 : Iff (told 74) (msi.count ≡ 0)
  pub r75 : Iff (told 75) ((msi.count ≡ 0 → ⊥) × (256 < msi.start + msi.count))

pub record BioTold (told : ℕ → Type 0) (bio : Bio) : Type 0 where
  pub r72 : Iff (told 72) (63 < bio.node)
  pub r76 : Iff (told 76) ((bio.node ≤ 63) × Outside 64 65472 bio.base)

pub record LpcTold (told : ℕ → Type 0) (lpc : Lpc) : Type 0 where
  pub r77 : Iff (told 77) (63 < lpc.cascade)

-- and of which types each number is told at all
pub record ToldOfType (told : ℕ → Type 0) (type : ℕ) : Type 0 where
  pub r71 : told 71 → (type ≡ 18) ⊎ (type ≡ 20)
  pub r72 : told 72 → (type ≡ 20) ⊎ (type ≡ 22)
  pub r73 : told 73 → type ≡ 20
  pub r74 : told 74 → type ≡ 21
  pub r75 : told 75 → type ≡ 21
  pub r76 : told 76 → type ≡ 22
  pub r77 : told 77 → type ≡ 23
  pub r78 : told 78 → type ≡ 19
  pub r37 : told 37 → type ≡ 18

-- ---- the statement
-- a structure of a type whose length and version are right
pub record OfType (number : ℕ) (s : List ℕ) : Type 0 where
  pub type : byte_at s 0 ≡ number
  pub r32 : wrong_length s ≡ false
  pub r33 : wrong_version s ≡ false

-- it stands at a place, behind so many of its kind, and is refused with a number
abbrev pub RefusedThere : ℕ → ℕ → List ℕ → ℕ → Type 0
RefusedThere place before s n = first_refusal (structure_rules place before s) ≡ Err (refused n place)

pub record FieldsExactly (place before : ℕ) (s : List ℕ) : Type 0 where
  pub oftype : ToldOfType (RefusedThere place before s) (byte_at s 0)
  pub lio : OfType 18 s → LioTold (RefusedThere place before s) (lio_of s)
  pub ht : OfType 19 s → HtTold (RefusedThere place before s) (ht_of s)
  pub eio : OfType 20 s → EioTold (RefusedThere place before s) (eio_of s)
  pub msi : OfType 21 s → MsiTold (RefusedThere place before s) (msi_of s)
  pub bio : OfType 22 s → BioTold (RefusedThere place before s) (bio_of s)
  pub lpc : OfType 23 s → LpcTold (RefusedThere place before s) (lpc_of s)
