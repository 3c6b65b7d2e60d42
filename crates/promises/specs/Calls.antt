-- What is promised of the C entry for the reading: it does what the reading does. Each statement stands alone; proofs/ has a
-- theorem for it.
use Rattle.std.specs.Prelude.{ℕ, ◌*◌, ◌^◌, ◌<◌, ◌≤◌, List, ◌++◌, ◌⊎◌, ◌≡◌, length, get_or, drop, Result, Ok, Err}
use Rattle.words.specs.Bytes.{number_at}
use Rattle.words.specs.Refusals.{refused}
use Rattle.words.specs.declared.Refusal.{Refusal}
use Rattle.tables.specs.declared.Strictness.TheVariants.{Strict}
use Rattle.lines.specs.Answers.{refusal_code}
use Rattle.processors.specs.Image.{image}
use Rattle.processors.specs.Listing.{processors, count}
use Rattle.reading.specs.Scan.{scan}
use Rattle.reading.specs.Reading.{madt_found, reading_of, list_after}
use Rattle.reading.specs.Entries.{read_code, read_result, bytes_after}
use Rattle.map_promises.specs.Statements.{answer_in_code}
use Rattle.promises.specs.RefusalTable.{OfTheTable}

-- lent the bytes of a list, it leaves the bytes of what the reading leaves of that list, and gives the reading's answer as a
-- number
abbrev pub SameReading : List ℕ → List ℕ → Type 0
SameReading capture list =
    (bytes_after capture (image list) ≡ image (list_after Strict capture list))
    × (read_result capture (image list) ≡ read_code (reading_of Strict capture list).answer)

-- "four little-endian ones a number": a list of 32-bit numbers is read back from its bytes, as numbers of a capture are read
abbrev pub ReadBack : List ℕ → Type 0
ReadBack list = ((at : ℕ) → get_or list at 0 < 2 ^ 32) → (at : ℕ) → number_at 4 (image list) (4 * at) ≡ get_or list at 0

-- lent any bytes, it does one of three things. It refuses what breaks a rule up to 54, with the bytes as they were;
pub record NotRead (capture list : List ℕ) : Type 0 where
  pub refusal : Refusal
  pub broken : (scan Strict capture).verdict ≡ Err refusal
  pub ofthetable : OfTheTable capture refusal
  pub result : read_result capture list ≡ refusal_code refusal
  pub kept : bytes_after capture list ≡ list

-- or "60 means under 8 × count bytes", with the bytes as they were;
pub record TooShort (capture list : List ℕ) : Type 0 where
  pub sound : (scan Strict capture).verdict ≡ Ok tt
  pub short : length list < 8 * count (madt_found Strict capture)
  pub result : read_result capture list ≡ refusal_code (refused 60 0)
  pub kept : bytes_after capture list ≡ list

-- or it answers the count, with the processors' bytes in front and the rest as it was
pub record HasRead (capture list : List ℕ) : Type 0 where
  pub sound : (scan Strict capture).verdict ≡ Ok tt
  pub room : 8 * count (madt_found Strict capture) ≤ length list
  pub result : read_result capture list ≡ count (madt_found Strict capture)
  pub most : count (madt_found Strict capture) ≤ 256
  pub bytes : bytes_after capture list ≡ image (processors (madt_found Strict capture)) ++ drop (8 * count (madt_found Strict capture)) list

abbrev pub CReading : List ℕ → List ℕ → Type 0
CReading capture list = NotRead capture list ⊎ (TooShort capture list ⊎ HasRead capture list)

-- no two answers have one number, so that a result is decoded in one way: a count is below 2^48, a refusal is not; two refusals
-- with one number have equal refusal numbers and equal places
abbrev pub AnswerFits : Result ℕ Refusal → Type 0
AnswerFits (Ok processors) = processors < 2 ^ 48
AnswerFits (Err r) = (0 < r.number) × (r.place < 2 ^ 32)

abbrev pub ReadCodesApart : Type 0
ReadCodesApart = (a b : Result ℕ Refusal) → AnswerFits a → AnswerFits b → read_code a ≡ read_code b → answer_in_code a ≡ answer_in_code b
