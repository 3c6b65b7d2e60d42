-- A shortcut of the program, and no line of document 01: the scan that an answer of the inner functions stands for, which is what is found or
-- the refusal alone. That it is `scan` of Scan is the contract of `scan_noting`, and proofs/Scanned has what follows of it, so that no answer
-- changes.
use Rattle.std.specs.Prelude.{Result, Ok, Err}
use Rattle.words.specs.declared.Refusal.{Refusal}
use Rattle.reading.specs.Scan.{turned_down}
use Rattle.reading.specs.declared.Accepted.{Accepted}
use Rattle.reading.specs.declared.Scan.{Scan}

unfoldable pub scan_of : Result Accepted Refusal → Scan
scan_of (Ok a) = record { verdict = Ok tt; madt = a.madt; map = a.map }
scan_of (Err refusal) = turned_down refusal
