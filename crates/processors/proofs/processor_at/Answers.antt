-- `processor_at` takes the eight bytes of both IDs apart.
use mathlib.Core.Path.{◌≡◌, ◌∙◌}
use Prim.Native.Nat.{ℕ, ◌+◌, ◌*◌, ◌%◌, ◌/◌, ◌<◌}
use native.Mathlib.Omega.{arith}
use Rattle.words.specs.Bytes.{AllBytes, number_at}
use Rattle.words.proofs.Numbers.{number_split, number_small}
use Rattle.processors.specs.Again.{processor_at}
use Rattle.processors.proofs.processor_at.Goals as goal

pub returns : goal.returns
unfolding processor_at
returns c =
    let table = c.args.table.now in
    let at = c.args.at in
    let bytes : AllBytes table = λ (k : ℕ). (c.type_inv.table k).fits in
    let low : number_at 4 table (at + 3) < 4294967296 = number_small 4 table (at + 3) bytes in
    let behind : at + 3 + 4 ≡ at + 7 = omega arith in
    let both : number_at 8 table (at + 3) ≡ number_at 4 table (at + 3) + 4294967296 * number_at 4 table (at + 7) = rw behind at (number_split 4 4 table (at + 3)) in
    let ids = (rw c.from.ensures at c.u64_at-ids.ensures) ∙ both in
    let uid : c.u64_at-ids.result % 4294967296 ≡ number_at 4 table (at + 3) = omega arith in
    let id : c.u64_at-ids.result / 4294967296 ≡ number_at 4 table (at + 7) = omega arith in
    rw (uid, id)
