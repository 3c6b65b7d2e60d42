-- Document 01, "Board A and its neighbours": the twelve examples, and that board A is read. All of it is computed from the
-- bytes of the board by the definitions that the contracts cite. By W-202 of document 02 the last three tell more.
use Rattle.std.specs.Prelude.{ℕ, true, List, [], ◌∷◌, map, ◌≡◌, replicate, Result, Ok, Err}
use Rattle.words.specs.Refusals.{Verdict, refused, refused_with}
use Rattle.words.specs.declared.Refusal.{Refusal}
use Rattle.kinds.specs.Used.{no_ht, no_eio, no_bio, no_msi}
use Rattle.tables.specs.declared.Strictness.{Strictness}
use Rattle.lines.specs.Answers.{route_of, trace_of}
use Rattle.lines.specs.declared.Map.{Map}
use Rattle.lines.specs.declared.Route.{Route}
use Rattle.lines.specs.declared.Route.TheVariants.{Arrives, Unwired, NoOwner}
use Rattle.lines.specs.declared.Trace.{Trace}
use Rattle.lines.specs.declared.Trace.TheVariants.{Nothing, LpcCascade, MsiSlot}
use Rattle.reading.specs.Scan.{scan}
use Rattle.reading.specs.Reading.{reading_of, list_after}
use Rattle.reading.specs.Entries.{read_result, bytes_after}
use Rattle.text.specs.Numerals.{letters}
use Rattle.text.specs.Text.{text_of}
use Rattle.promises.specs.BoardA.{board_a, msi_from_63, msi_to_257, eio_at_2}

-- what is asked: where a number of board A arrives; what arrives at a vector of board A with a number; what becomes of a
-- neighbour
pub data Question : Type 0 where
  number : ℕ → Question
  arrival : ℕ → ℕ → Question
  neighbour : List ℕ → Question

-- what is answered
pub data Told : Type 0 where
  routed : Result Route Refusal → Told
  traced : Result Trace Refusal → Told
  judged : Verdict → Told

-- what the definitions say
unfoldable pub told : Strictness → Question → Told
told strictness (number n) = routed (route_of (scan strictness board_a).map n)
told strictness (arrival vector n) = traced (trace_of (scan strictness board_a).map vector n)
told strictness (neighbour capture) = judged (scan strictness capture).verdict

-- a question, and document 01's answer
infix 4 ◌is◌
pub data Example : Type 0 where
  ◌is◌ : Question → Told → Example

abbrev pub question : Example → Question
question (asked is given) = asked

abbrev pub answer : Example → Told
answer (asked is given) = given

abbrev pub is_refused : Refusal → Told
is_refused refusal = judged (Err refusal)

unfoldable pub twelve : List Example
twelve =
    (number 72 is routed (Ok (Arrives 3 8)))
    ∷ (number 26 is routed (Ok (Arrives 2 10)))
    ∷ (number 3 is routed (Ok (Arrives 3 19)))
    ∷ (number 45 is routed (Ok Unwired))
    ∷ (number 50 is routed (Ok NoOwner))
    ∷ (number 128 is routed (Ok NoOwner))
    ∷ (arrival 3 19 is traced (Ok (LpcCascade 83)))
    ∷ (arrival 3 64 is traced (Ok (MsiSlot 0 64)))
    ∷ (arrival 2 24 is traced (Ok Nothing))
    ∷ (neighbour msi_from_63 is is_refused (refused_with 52 262 243))
    ∷ (neighbour msi_to_257 is is_refused (refused 75 243))
    ∷ (neighbour eio_at_2 is is_refused (refused_with 53 230 207))
    ∷ []

-- the statement over the list: asked in turn, the definitions give the answers, in either reading
abbrev pub TwelveExamples : Strictness → Type 0
TwelveExamples strictness = map (λ e. told strictness (question e)) twelve ≡ map answer twelve

-- ---- board A is accepted by both readings, with 2 processors and the list 0, 0, 1, 1; what lies past them stays
-- what the lists held before
abbrev pub old : ℕ
old = 0xFFFFFFFF

abbrev pub old_byte : ℕ
old_byte = 0xFF

-- its map: "the used fields of LIO, EIO, BIO, MSI and LPC, in table order, and the SCI number"; unused places hold 0
abbrev pub map_of_a : Map
map_of_a =
    record {
      lio = record { present = true; low = record { cascade = 2; mask = 0x00FFFFFF }; high = record { cascade = 0; mask = 0 } };
      ht = no_ht;
      eiocount = 1;
      eios = record { cascade = 3; node = 0; nodes = 1 } ∷ no_eio ∷ no_eio ∷ no_eio ∷ [];
      biocount = 1;
      bios = record { node = 0; base = 64; pins = 64 } ∷ no_bio ∷ no_bio ∷ no_bio ∷ [];
      msicount = 1;
      msis = record { start = 64; count = 192 } ∷ no_msi ∷ no_msi ∷ no_msi ∷ [];
      lpc = record { present = true; node = 0; cascade = 19 };
      sci = 75;
    }

pub record BoardAIsRead (strictness : Strictness) : Type 0 where
  pub accepted : (scan strictness board_a).verdict ≡ Ok tt
  pub reading : reading_of strictness board_a (old ∷ old ∷ old ∷ old ∷ old ∷ []) ≡ record { answer = Ok 2; map = map_of_a }
  pub list : list_after strictness board_a (old ∷ old ∷ old ∷ old ∷ old ∷ []) ≡ 0 ∷ 0 ∷ 1 ∷ 1 ∷ old ∷ []
  -- and by the C entry
  pub result : read_result board_a (replicate 17 old_byte) ≡ 2
  pub bytes : bytes_after board_a (replicate 17 old_byte)
      ≡ 0 ∷ 0 ∷ 0 ∷ 0 ∷ 0 ∷ 0 ∷ 0 ∷ 0 ∷ 1 ∷ 0 ∷ 0 ∷ 0 ∷ 1 ∷ 0 ∷ 0 ∷ 0 ∷ old_byte ∷ []

-- ---- what is printed for board A: document 01's nine lines
abbrev pub BoardAIsPrinted : Type 0
BoardAIsPrinted =
    text_of board_a
    ≡ letters "map 1\ncore 0 0\ncore 1 1\nlio 2 16777215\neio 0 3 1\nbio 0 64 127\nmsi 64 255\nlpc 0 19\nsci 75 3 11\n"
