-- Document 01, "Refusals in order": "The lowest line that applies wins, with these exceptions: segments are taken in turn; the XSDT
-- goes through 20 to 25, then its entries in turn, each through 20 to 22; structures in turn, each through 31 to 38. 26 and 27 come
-- after all entries, 39 after all structures." By W-202 of document 02 71 to 78 stand in 36's place, and by W-201 34 stands before 39, after all
-- structures. What each rule says of a capture stands in one list, `all_rules` of crates/reading/specs/Scan, in this order.
use Rattle.std.specs.Prelude.{ℕ, not, List, [], ◌∷◌, ◌++◌, ◌≡◌, Result, Ok, Err}
use Rattle.words.specs.Refusals.{Verdict, rule, first_refusal}
use Rattle.tables.specs.declared.Strictness.{Strictness}
use Rattle.words.specs.Rooms.{has_room}
use Rattle.processors.specs.Listing.{processors}
use Rattle.reading.specs.Scan.{all_rules, scan}
use Rattle.reading.specs.Reading.{madt_found, reading_of}
use Rattle.words.specs.declared.Refusal.{Refusal}

-- THE STATEMENTS: what a capture is refused with is what the first broken rule says; and it is accepted if none is broken
abbrev pub FirstRuleWins : Strictness → List ℕ → Type 0
FirstRuleWins strictness capture = (scan strictness capture).verdict ≡ first_refusal (all_rules strictness capture)

-- and so with the reading, where the list comes last: 60
unfoldable pub verdict_of : Result ℕ Refusal → Verdict
verdict_of (Ok processors) = Ok tt
verdict_of (Err refusal) = Err refusal

abbrev pub ListComesLast : Strictness → List ℕ → List ℕ → Type 0
ListComesLast strictness capture list =
    verdict_of (reading_of strictness capture list).answer
    ≡ first_refusal (all_rules strictness capture ++ (rule (not (has_room (processors (madt_found strictness capture)) list)) 60 0 ∷ []))
