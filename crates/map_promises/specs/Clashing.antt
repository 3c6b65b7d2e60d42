-- What two structures may not share, and what is told of it: document 01, "Refusals in order", 41 to 43 and 51 to 53, each by
-- itself, with 44 of W-201 of document 02, 45 of W-212, and the second place that W-202 gives to 51 to 53. The sharing is said of sources and controllers, not of
-- claims. Each statement at the end stands alone; proofs/Clashing.antt has a theorem for it.
use Rattle.std.specs.Prelude.{ℕ, ◌<◌, ◌≤◌, true, false, ◌⊎◌, ◌≡◌, length, get_or, Ok, Err}
use Rattle.words.specs.Refusals.{refused_with}
use Rattle.kinds.specs.Ranges.{bit_in_both}
use Rattle.parts.specs.Inputs.{wired}
use Rattle.lines.specs.Says.{Said, says}
use Rattle.lines.specs.Hubs.{hubs}
use Rattle.lines.specs.Claims.{claims}
use Rattle.lines.specs.Rules.{too_many, both_kinds, ranges_kept, rule40, rule41, rule42, rule43, rule44, rule45, first_broken}
use Rattle.lines.specs.declared.Map.{Map}
use Rattle.lines.specs.declared.Places.{Places}
use Rattle.map_promises.specs.Sources.{Source, input, pin, slot, eio_at, hub_at, bio_at, IsSource, is_lpc_bridge, HasNumber, LandsOn}
use Rattle.map_promises.specs.Structures.{Structure, lio, eio, bio, msi, IsIn, place_of, Placed}

-- ---- what a structure has
-- "Each belongs to its own structure"
abbrev pub structure_of : Source → Structure
structure_of (input i) = lio
structure_of (pin j v) = bio j
structure_of (slot m s e) = msi m

-- x is a source of structure s
abbrev pub IsSourceOf : Said → Structure → Source → Type 0
IsSourceOf said s x = IsSource said x × (structure_of x ≡ s)

-- an EIO has node n
abbrev pub HasNode : Said → Structure → ℕ → Type 0
HasNode said lio n = ⊥
HasNode said (eio e) n = (eio_at said e).node ≡ n
HasNode said (bio j) n = ⊥
HasNode said (msi m) n = ⊥

-- a controller enters core vector v: a used half of the LIO does, or an EIO
abbrev pub Enters : Said → Structure → ℕ → Type 0
Enters said lio v =
    ((said.lio.low.mask ≡ 0 → ⊥) × (said.lio.low.cascade ≡ v)) ⊎ ((said.lio.high.mask ≡ 0 → ⊥) × (said.lio.high.cascade ≡ v))
Enters said (eio e) v = (eio_at said e).cascade ≡ v
Enters said (bio j) v = ⊥
Enters said (msi m) v = ⊥

-- ---- what two structures share
-- 41: they are EIO of one node
abbrev pub ShareNode : Said → Structure → Structure → Type 0
ShareNode said s t = (n : ℕ) × HasNode said s n × HasNode said t n

-- 51: a source of each has one global number
abbrev pub ShareNumber : Said → Structure → Structure → Type 0
ShareNumber said s t =
    (x : Source) × (y : Source) × IsSourceOf said s x × IsSourceOf said t y × (g : ℕ) × HasNumber said x g × HasNumber said y g

-- 52: a source of each takes the same vector of one hub
abbrev pub ShareVector : Said → Structure → Structure → Type 0
ShareVector said s t =
    (x : Source) × (y : Source) × IsSourceOf said s x × IsSourceOf said t y
    × (e : ℕ) × (k : ℕ) × (e < length (hubs said)) × LandsOn said x e k × LandsOn said y e k

-- 53: they are controllers that enter one core vector
abbrev pub ShareCore : Said → Structure → Structure → Type 0
ShareCore said s t = (v : ℕ) × Enters said s v × Enters said t v

-- ---- what is broken
-- two different structures of the map share something
pub record Sharing (said : Said) (Share : Structure → Structure → Type 0) : Type 0 where
  pub s : Structure
  pub t : Structure
  pub s_in : IsIn said s
  pub t_in : IsIn said t
  pub differ : s ≡ t → ⊥
  pub share : Share s t

-- 41: "EIO repeats an earlier node"
abbrev pub TwoNode : Said → Type 0
TwoNode said = Sharing said (ShareNode said)

-- 42: "BIO without an EIO of its node", or "with HT, for a hardware ID other than 0": without a hub of its node
abbrev pub IsLone : Said → ℕ → Type 0
IsLone said j =
    (j < length said.bios) × ((e : ℕ) → e < length (hubs said) → (hub_at said e).node ≡ (bio_at said j).node → ⊥)

abbrev pub LoneBio : Said → Type 0
LoneBio said = (j : ℕ) × IsLone said j

-- 43: the LPC has "no such BIO", whatever others there are
abbrev pub NoBridge : Said → Type 0
NoBridge said = (said.lpc.present ≡ true) × ((j : ℕ) → j < length said.bios → (bio_at said j).node ≡ said.lpc.node → ⊥)

-- 44: a byte of the HT names "an unwired input", whether or not anything lands on its vectors
abbrev pub NamesUnwired : Said → Type 0
NamesUnwired said =
    (said.ht.present ≡ true) × (n : ℕ) × (n < length said.ht.bytes) × (wired said.lio (get_or said.ht.bytes n 0) ≡ false)

-- 45: the LPC has "a cascade at or past its bridge's count"
abbrev pub NoInput : Said → Type 0
NoInput said =
    (said.lpc.present ≡ true) × (j : ℕ) × (j < length said.bios) × (is_lpc_bridge said j ≡ true) × ((bio_at said j).pins ≤ said.lpc.cascade)

-- 51: "two sources share a global number"
abbrev pub TwoNumber : Said → Type 0
TwoNumber said =
    (x : Source) × (y : Source) × IsSource said x × IsSource said y × (x ≡ y → ⊥) × (g : ℕ) × HasNumber said x g × HasNumber said y g

-- 52: "two sources share an extended vector of one EIO", or an HT vector
abbrev pub TwoVector : Said → Type 0
TwoVector said =
    (x : Source) × (y : Source) × IsSource said x × IsSource said y × (x ≡ y → ⊥)
    × (e : ℕ) × (k : ℕ) × (e < length (hubs said)) × LandsOn said x e k × LandsOn said y e k

-- 53: "two controllers enter one core vector"; both halves of the LIO are one controller, and the HT is not "among the controllers that
-- enter one"
abbrev pub TwoCore : Said → Type 0
TwoCore said = Sharing said (ShareCore said)

-- ---- what is named
-- "the first structure that clashes with an earlier", and "the earliest structure that the named one clashes with by that rule": s at
-- p shares with t at q, which stands before it; no structure before s shares with an earlier one; and s shares with none that
-- stands before t
pub record Names (said : Said) (places : Places) (Share : Structure → Structure → Type 0) (p q : ℕ) : Type 0 where
  pub s : Structure
  pub t : Structure
  pub s_in : IsIn said s
  pub t_in : IsIn said t
  pub s_at : place_of places s ≡ p
  pub t_at : place_of places t ≡ q
  pub earlier : q < p
  pub share : Share s t
  pub first : (u v : Structure) → IsIn said u → IsIn said v → place_of places v < place_of places u → Share u v → p ≤ place_of places u
  pub earliest : (v : Structure) → IsIn said v → place_of places v < p → Share s v → q ≤ place_of places v

-- 41 names the later alone: it stands at p, and there is an earlier one
abbrev pub NamesLater : Said → Places → (Structure → Structure → Type 0) → ℕ → Type 0
NamesLater said places Share p = (q : ℕ) × Names said places Share p q

-- "where one line fits several structures, the first in table order is named": of the BIO without a hub, the one at p
pub record NamesLone (said : Said) (places : Places) (p : ℕ) : Type 0 where
  pub j : ℕ
  pub lone : IsLone said j
  pub at : place_of places (bio j) ≡ p
  pub first : (i : ℕ) → IsLone said i → p ≤ place_of places (bio i)

-- 41 to 45 tell one place: "all others carry 0"
abbrev pub OnePlace : (ℕ → Type 0) → ℕ → ℕ → Type 0
OnePlace Named p q = Named p × (q ≡ 0)

-- ---- "The lowest line that applies wins"
-- no rule below 41 is broken
pub record KeepsTo40 (map : Map) (madt : ℕ) : Type 0 where
  pub ranges : ranges_kept (says map) ≡ true
  pub r37 : bit_in_both (says map).lio ≡ false
  pub r38 : too_many map ≡ false
  pub r34 : both_kinds (says map) ≡ false
  pub r40 : rule40 (says map) madt ≡ Ok tt

-- no rule below 43 is broken
pub record KeepsTo42 (map : Map) (places : Places) (madt : ℕ) : Type 0 where
  pub to40 : KeepsTo40 map madt
  pub r41 : rule41 (claims (says map) places) ≡ Ok tt
  pub r42 : rule42 (says map) (claims (says map) places) ≡ Ok tt

-- no rule below 44 is broken
pub record KeepsTo43 (map : Map) (places : Places) (madt : ℕ) : Type 0 where
  pub to42 : KeepsTo42 map places madt
  pub r43 : rule43 (says map) places.lpc ≡ Ok tt

-- no rule below 45 is broken
pub record KeepsTo44 (map : Map) (places : Places) (madt : ℕ) : Type 0 where
  pub to43 : KeepsTo43 map places madt
  pub r44 : rule44 (says map) places.ht ≡ Ok tt

-- no rule below 51 is broken
pub record KeepsTo45 (map : Map) (places : Places) (madt : ℕ) : Type 0 where
  pub to44 : KeepsTo44 map places madt
  pub r45 : rule45 (says map) places.lpc ≡ Ok tt

-- ---- demand 3, its last sentence: the statements
-- the map is refused with n, at p, with the second place q
abbrev pub RefusedWith : Map → Places → ℕ → ℕ → ℕ → ℕ → ℕ → Type 0
RefusedWith map places madt fadt n p q = first_broken map places madt fadt ≡ Err (refused_with n p q)

-- a number is told exactly when its rule is the first that is broken, and then with the two places that are named so
abbrev pub Exactly : (ℕ → ℕ → Type 0) → Type 0 → (ℕ → ℕ → Type 0) → Type 0
Exactly told broken named = ((p q : ℕ) → told p q → broken × named p q) × (broken → (p : ℕ) × (q : ℕ) × told p q)

-- "all others carry 0": only 51 to 53 tell a second place (any map)
abbrev pub OthersCarryNone : Map → Places → ℕ → ℕ → Type 0
OthersCarryNone map places madt fadt = (n p q : ℕ) → RefusedWith map places madt fadt n p q → ((51 ≤ n) × (n ≤ 53)) ⊎ (q ≡ 0)

-- 41: exactly when two EIO have one node; the later is named, and it alone
abbrev pub NodeExactly : Map → Places → ℕ → ℕ → Type 0
NodeExactly map places madt fadt =
    Placed (says map) places → KeepsTo40 map madt
    → Exactly (RefusedWith map places madt fadt 41) (TwoNode (says map)) (OnePlace (NamesLater (says map) places (ShareNode (says map))))

-- 42: exactly when no two EIO have one node, and a BIO has no hub of its node; the first such is named
abbrev pub LoneExactly : Map → Places → ℕ → ℕ → Type 0
LoneExactly map places madt fadt =
    Placed (says map) places → KeepsTo40 map madt
    → Exactly (RefusedWith map places madt fadt 42) ((TwoNode (says map) → ⊥) × LoneBio (says map)) (OnePlace (NamesLone (says map) places))

-- 43: exactly when there is an LPC, and no BIO has its node; the LPC is named
abbrev pub BridgeExactly : Map → Places → ℕ → ℕ → Type 0
BridgeExactly map places madt fadt =
    KeepsTo42 map places madt
    → Exactly (RefusedWith map places madt fadt 43) (NoBridge (says map)) (OnePlace (λ p. p ≡ places.lpc))

-- 44: exactly when there is an HT, and a byte of it names an input that is not wired; the HT is named
abbrev pub WiredExactly : Map → Places → ℕ → ℕ → Type 0
WiredExactly map places madt fadt =
    KeepsTo43 map places madt
    → Exactly (RefusedWith map places madt fadt 44) (NamesUnwired (says map)) (OnePlace (λ p. p ≡ places.ht))

-- 45: exactly when there is an LPC, and the input of its cascade is none that its bridge has; the LPC is named
abbrev pub InputExactly : Map → Places → ℕ → ℕ → Type 0
InputExactly map places madt fadt =
    KeepsTo44 map places madt
    → Exactly (RefusedWith map places madt fadt 45) (NoInput (says map)) (OnePlace (λ p. p ≡ places.lpc))

-- 51: exactly when two sources share a global number; named are the later of their structures and the earliest that it shares with
abbrev pub NumberExactly : Map → Places → ℕ → ℕ → Type 0
NumberExactly map places madt fadt =
    Placed (says map) places → KeepsTo45 map places madt
    → Exactly (RefusedWith map places madt fadt 51) (TwoNumber (says map)) (Names (says map) places (ShareNumber (says map)))

-- 52: exactly when no two sources do, and two share a vector of one hub
abbrev pub VectorExactly : Map → Places → ℕ → ℕ → Type 0
VectorExactly map places madt fadt =
    Placed (says map) places → KeepsTo45 map places madt
    → Exactly (RefusedWith map places madt fadt 52) ((TwoNumber (says map) → ⊥) × TwoVector (says map))
    (Names (says map) places (ShareVector (says map)))

-- 53: exactly when no two sources share either, and two controllers enter one core vector
abbrev pub CoreExactly : Map → Places → ℕ → ℕ → Type 0
CoreExactly map places madt fadt =
    Placed (says map) places → KeepsTo45 map places madt
    → Exactly (RefusedWith map places madt fadt 53)
    ((TwoNumber (says map) → ⊥) × (TwoVector (says map) → ⊥) × TwoCore (says map))
    (Names (says map) places (ShareCore (says map)))
