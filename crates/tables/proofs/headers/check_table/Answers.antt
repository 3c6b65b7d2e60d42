-- `tables::check_table` gives 20 first.
use Rattle.std.proofs.Common.{◌≡◌, ℕ, List, ap, sym, ◌∙◌, arith}
use Rattle.capture.specs.declared.Reach.{Reach}
use Rattle.capture.specs.Reach.{reached}
use Rattle.tables.specs.Table.{address_at}
use Rattle.tables.proofs.Whole.{table_20, table_within_lem, place_small, room_small}
use Rattle.tables.proofs.headers.check_table.Goals as goal
use Rattle.std.specs.Prelude.{Err}

-- what was found at the table's address
there : (capture : List ℕ) (field : ℕ) {address : ℕ} {reach : Reach} → address ≡ address_at capture field → reach ≡ reached capture address
    → reach ≡ reached capture (address_at capture field)
there capture field a r = r ∙ ap (reached capture) a

pub returns-then-reach : goal.returns-then-reach
returns-then-reach c =
    ap Err c.refuse.ensures ∙ sym (table_20 _ _ c.args.capture.kept (there _ _ c.address_at.ensures c.reach_of-reach.ensures) (omega arith))

pub overflow_cast-reach : goal.overflow_cast-reach
overflow_cast-reach c =
    omega (arith, place_small _ _ c.args.capture.kept (there _ _ c.address_at.ensures c.reach_of-reach.ensures) (omega arith))

pub overflow_cast-reach-2 : goal.overflow_cast-reach-2
overflow_cast-reach-2 c =
    omega (arith, room_small _ _ c.args.capture.kept (there _ _ c.address_at.ensures c.reach_of-reach.ensures) (omega arith))

pub returns : goal.returns
returns c =
    c.check_whole.ensures ∙ sym (table_within_lem _ _ c.args.capture.kept (there _ _ c.address_at.ensures c.reach_of-reach.ensures) (omega arith))
