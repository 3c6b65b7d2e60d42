-- A shortcut of the program, and no line of document 01: two claims that clash by no rule, which a map without clashes is tested for
-- before any search. That no answer changes is proved in proofs/Apart, and for whole maps in proofs/NoClash of `lines`.
use Rattle.std.specs.Prelude.{Bool, not, ◌||◌}
use Rattle.clashes.specs.Rules.{repeats_node, shares_number, shares_vector, shares_core}
use Rattle.clashes.specs.declared.Claim.{Claim}

-- none of 41, 51, 52 and 53
unfoldable pub apart : Claim → Claim → Bool
apart x y = not (repeats_node x y || shares_number x y || shares_vector x y || shares_core x y)
