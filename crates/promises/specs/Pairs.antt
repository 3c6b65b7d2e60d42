-- W-212 of document 02, "Bridges with fewer pins": what is promised of the pairs of a capture, said of its bytes, and of the counts that
-- they give to the map's bridges. Each statement stands alone, and holds in both readings; proofs/Pairs.antt has a theorem for it.
use Rattle.std.specs.Prelude.{ℕ, ◌+◌, ◌*◌, ◌<◌, ◌≤◌, false, List, ◌⊎◌, ◌≡◌, length, Ok, Err}
use Rattle.words.specs.Bytes.{byte_at}
use Rattle.words.specs.Refusals.{refused_with, first_refusal}
use Rattle.capture.specs.Fields.{version}
use Rattle.capture.specs.Rules.{wrong_size, wrong_mark, wrong_version, wrong_count, wrong_total, segment_rules}
use Rattle.tables.specs.declared.Strictness.{Strictness}
use Rattle.lines.specs.Says.{says}
use Rattle.map_promises.specs.Sources.{bio_at}
use Rattle.map_promises.specs.Clashing.{OnePlace, Exactly}
use Rattle.reading.specs.Scan.{scan}
use Rattle.reading.specs.Reading.{reading_of}
use Rattle.promises.specs.Captures.{Accepted}

-- ---- "four pairs of bytes at 18 (hardware ID, number of inputs 1 to 64; a pair with number 0 is empty and its ID is free)"
abbrev pub number_of : List ℕ → ℕ → ℕ
number_of capture k = byte_at capture (19 + 2 * k)

-- pair k gives a hardware ID: the capture has pairs, and this one is not empty
pub record Gives (capture : List ℕ) (k id : ℕ) : Type 0 where
  pub paired : version capture ≡ 2
  pub counted : k < 4
  pub has : byte_at capture (18 + 2 * k) ≡ id
  pub full : 1 ≤ number_of capture k

-- ---- 7: "after 6, at the pair for a number over 64 or an ID given twice in pairs that are not empty"
-- no rule below 7 is broken
pub record KeepsTo6 (capture : List ℕ) : Type 0 where
  pub r1 : wrong_size capture ≡ false
  pub r2 : wrong_mark capture ≡ false
  pub r3 : wrong_version capture ≡ false
  pub r4 : wrong_count capture ≡ false
  pub r5 : wrong_total capture ≡ false
  pub r6 : first_refusal (segment_rules capture) ≡ Ok tt

-- pair k has a number over 64, or the ID that an earlier one gives
abbrev pub Wrong : List ℕ → ℕ → Type 0
Wrong capture k =
    (64 < number_of capture k) ⊎ ((j : ℕ) × (j < k) × (id : ℕ) × Gives capture j id × Gives capture k id)

pub record WrongPair (capture : List ℕ) (k : ℕ) : Type 0 where
  pub paired : version capture ≡ 2
  pub counted : k < 4
  pub wrong : Wrong capture k

-- the first such, in turn
pub record FirstWrong (capture : List ℕ) (place : ℕ) : Type 0 where
  pub k : ℕ
  pub here : WrongPair capture k
  pub before : (j : ℕ) → j < k → WrongPair capture j → ⊥
  pub at : place ≡ 18 + 2 * k

-- 7 is told exactly then, at the first: of what the capture is refused with, and of the reading's answer, whatever list it is lent
pub record SevenExactly (strictness : Strictness) (capture : List ℕ) : Type 0 where
  pub scanned : Exactly (λ p q. (scan strictness capture).verdict ≡ Err (refused_with 7 p q))
      (KeepsTo6 capture × ((k : ℕ) × WrongPair capture k)) (OnePlace (FirstWrong capture))
  pub read : (list : List ℕ)
      → Exactly (λ p q. (reading_of strictness capture list).answer ≡ Err (refused_with 7 p q))
      (KeepsTo6 capture × ((k : ℕ) × WrongPair capture k)) (OnePlace (FirstWrong capture))

-- ---- "The map's BIO gets this count": the bridges with a hardware ID have n inputs,
pub record HasPins (capture : List ℕ) (id n : ℕ) : Type 0 where
  -- the number of a pair that gives it,
  pub told : (k : ℕ) → Gives capture k id → n ≡ number_of capture k
  -- and 64 "without a pair"
  pub else64 : ((k : ℕ) → Gives capture k id → ⊥) → n ≡ 64

-- and so has each BIO in the map of an accepted capture
abbrev pub AcceptedIsCounted : Strictness → List ℕ → Type 0
AcceptedIsCounted strictness capture =
    Accepted strictness capture → let said = says (scan strictness capture).map in
    (j : ℕ) → j < length said.bios → HasPins capture (bio_at said j).node (bio_at said j).pins

-- ---- "or of a version 1 capture": it gets the answers that it got before. Every BIO has 64 inputs, and neither 7 nor 45 is given
pub record AsBefore (strictness : Strictness) (capture : List ℕ) : Type 0 where
  pub pins : Accepted strictness capture → let said = says (scan strictness capture).map in
      (j : ℕ) → j < length said.bios → (bio_at said j).pins ≡ 64
  pub no7 : (p q : ℕ) → (scan strictness capture).verdict ≡ Err (refused_with 7 p q) → ⊥
  pub no45 : (p q : ℕ) → (scan strictness capture).verdict ≡ Err (refused_with 45 p q) → ⊥

abbrev pub VersionOneAsBefore : Strictness → List ℕ → Type 0
VersionOneAsBefore strictness capture = version capture ≡ 1 → AsBefore strictness capture
