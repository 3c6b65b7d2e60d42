-- `put_number` stores the four bytes of a number.
use mathlib.Core.List.{append_assoc}
use mathlib.Core.Path.{◌≡◌, sym, ◌∙◌}
use Prim.Native.Nat.{◌+◌, ◌-◌}
use native.Mathlib.Omega.{arith}
use lib.Seq.{sets-eq, drop-drop}
use Rattle.processors.specs.Image.{four_bytes}
use Rattle.processors.proofs.bytes.put_number.Goals as goal

pub returns : goal.returns
unfolding four_bytes
returns c =
    let a = c.args in
    let bytes = four_bytes a.number in
    let four : a.n + 4 - a.n ≡ 4 = omega arith in
    rw (c.copy_from_slice.ensures.after, c.to_le_bytes.ensures, four, drop-drop)
    (sym (append_assoc _ bytes _) ∙ sym (sets-eq bytes a.list.now a.n c.requires))
