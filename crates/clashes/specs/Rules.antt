-- When two claims clash, and when one stands alone: document 01, "Refusals in order", 41, 42 and 51 to 53.
use Rattle.std.specs.Prelude.{ℕ, ◌+◌, List, Bool, not, ◌&&◌, ◌||◌, eqb, ltb}
use Rattle.words.specs.Choice.{if}
use Rattle.words.specs.Lists.{every}
use Rattle.clashes.specs.declared.Run.{Run}
use Rattle.clashes.specs.declared.Claim.{Claim}

-- `node` and `hub` of a claim that names no node: nodes go to 63
abbrev pub no_node : ℕ
no_node = 65535

-- two runs have a number in common
abbrev pub meet : Run → Run → Bool
meet a b = ltb a.first (b.first + b.count) && ltb b.first (a.first + a.count)

-- 41: EIO repeats an earlier node
abbrev pub repeats_node : Claim → Claim → Bool
repeats_node x y = not (eqb x.node no_node) && eqb x.node y.node

-- 51: two sources share a global number
abbrev pub shares_number : Claim → Claim → Bool
shares_number x y = meet x.numbers y.numbers

-- 52: two sources share a vector of one hub: "Demand 3 and 52 read HT vectors beside extended ones" (W-201 of document 02); a hub
-- without a node is every hub
abbrev pub shares_vector : Claim → Claim → Bool
shares_vector x y = (eqb x.hub y.hub || eqb x.hub no_node || eqb y.hub no_node) && meet x.vectors y.vectors

-- a core vector that is used is one of a claim's two
abbrev pub enters_by : ℕ → Claim → Bool
enters_by vector y = not (eqb vector 0) && (eqb vector y.low || eqb vector y.high)

-- 53: two controllers enter one core vector; "both LIO halves may use one vector": they are one claim
abbrev pub shares_core : Claim → Claim → Bool
shares_core x y = enters_by x.low y || enters_by x.high y

-- two claims clash by a rule
unfoldable pub clash : ℕ → Claim → Claim → Bool
clash rule x y =
    if (eqb rule 41) (repeats_node x y)
    (if (eqb rule 51) (shares_number x y)
    (if (eqb rule 52) (shares_vector x y)
    (shares_core x y)))

-- none of some nodes is this one
abbrev pub is_missing : ℕ → List ℕ → Bool
is_missing node nodes = every (λ n. not (eqb n node)) nodes

-- 42: "BIO without an EIO of its node", and "with HT, for a hardware ID other than 0": the hubs have some nodes, and none has the claim's
abbrev pub lone : List ℕ → Claim → Bool
lone nodes x = not (eqb x.hub no_node) && is_missing x.hub nodes
