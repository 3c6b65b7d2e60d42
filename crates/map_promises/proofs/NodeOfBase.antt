-- The node of an LPC is the upper half of byte 8 of its structure.
use Prim.Native.Nat.{ℕ}
use native.Mathlib.Omega.{arith}
use mathlib.Core.List.{List}
use Rattle.words.specs.Bytes.{number_at}
use Rattle.kinds.specs.Makers.{lpc_of}
use Rattle.map_promises.specs.Walks.{NodeOfBase}

-- THE PROMISE
pub node_of_base : (s : List ℕ) → NodeOfBase s
unfolding lpc_of number_at
node_of_base s bytes =
    omega (arith, bytes 3, bytes 4, bytes 5, bytes 6, bytes 7, bytes 8, bytes 9, bytes 10)
