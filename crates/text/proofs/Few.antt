-- An accepted capture has at most 256 processors, so the list that is lent for them is never too short.
use mathlib.Core.Path.{◌≡◌}
use mathlib.Core.List.{List}
use Prim.Native.Nat.{ℕ, ◌≤◌}
use native.Mathlib.Omega.{arith}
use lib.ListN.{length}
use Rattle.tables.specs.declared.Strictness.TheVariants.{Strict}
use Rattle.processors.specs.Listing.{processors}
use Rattle.processors.proofs.AtMost256.{at_most_256}
use Rattle.processors.proofs.Filling.{twice_all}
use Rattle.reading.specs.Scan.{madt_bytes, scan}
use Rattle.reading.specs.Reading.{madt_found}
use Rattle.reading.proofs.Scanned.{scanned}
use Rattle.std.specs.Prelude.{Ok}

-- two numbers for each processor
pub list_long_enough : (capture : List ℕ) → (scan Strict capture).verdict ≡ Ok tt → length (processors (madt_found Strict capture)) ≤ 512
unfolding madt_found
list_long_enough capture sound =
    let s = scanned Strict capture sound in
    let table = madt_bytes capture s.t.madt in
    rw s.madt (omega (arith, twice_all table, at_most_256 table s.t.madt.place s.t.sci _ s.walk))
