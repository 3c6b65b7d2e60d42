-- The map of an accepted capture is that of its MADT's structures, in table order.
use mathlib.Core.List.{List}
use Prim.Native.Nat.{ℕ}
use mathlib.Core.Path.{ap, ◌∙◌}
use Rattle.capture.proofs.Pins.{pins_in_range}
use Rattle.tables.specs.declared.Strictness.{Strictness}
use Rattle.tables.proofs.Inside.{tables_inside}
use Rattle.lines.specs.declared.Map.{Map}
use Rattle.map_promises.proofs.WalkKeepsBooks.{walk_keeps_books}
use Rattle.map_promises.proofs.WalkInTableOrder.{walk_in_table_order}
use Rattle.reading.specs.Scan.{madt_bytes}
use Rattle.reading.proofs.Scanned.{scanned}
use Rattle.promises.specs.Captures.{AcceptedIsOfMadt}

-- THE PROMISE
pub accepted_is_of_madt : (strictness : Strictness) (capture : List ℕ) → AcceptedIsOfMadt strictness capture
accepted_is_of_madt strictness capture h =
    let s = scanned strictness capture h in
    let t = s.t in
    let sound = (tables_inside strictness capture t s.tables).sound in
    record {
      t = t;
      tables = s.tables;
      order = rw s.map (walk_in_table_order (madt_bytes capture t.madt) t.madt.place t.sci _ s.walk);
      sci = ap (λ (m : Map). m.sci) s.map ∙ (walk_keeps_books (madt_bytes capture t.madt) t.madt.place t.sci _ (pins_in_range capture sound) s.walk).1;
    }
