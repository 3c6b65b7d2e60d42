-- The length of a struct's field that is an array of structs: what is known of it stands at the mapped list.
use mathlib.Core.Path.{◌≡◌, sym, ◌∙◌}
use mathlib.Core.List.{List, map}
use Prim.Native.Nat.{ℕ}
use lib.ListN.{length, length-map}

pub length_mapped : {X Y : Type 0} (f : X → Y) (array : List X) (n : ℕ) → length (map f array) ≡ n → length array ≡ n
length_mapped f array n h = sym (length-map array f) ∙ h
