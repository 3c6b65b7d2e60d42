-- What is promised of maps. Each statement stands alone; proofs/ has a theorem of the same name for it.
use Rattle.std.specs.Prelude.{ℕ, ◌+◌, ◌-◌, ◌^◌, ◌<◌, ◌≤◌, true, false, not, ◌&&◌, ◌||◌, List, map as mapped, ◌⊎◌, ◌≡◌, eqb, leb, length, Result, Ok, Err}
use Rattle.words.specs.Choice.{if}
use Rattle.words.specs.Lists.{first}
use Rattle.words.specs.Refusals.{refused, rule}
use Rattle.words.specs.declared.Refusal.{Refusal}
use Rattle.kinds.specs.Ranges.{bit_in_both}
use Rattle.clashes.specs.Search.{first_lone}
use Rattle.clashes.specs.Told.{spotted}
use Rattle.clashes.specs.declared.Claim.{Claim}
use Rattle.parts.specs.Inputs.{leads}
use Rattle.lines.specs.Says.{Said, says, Same}
use Rattle.lines.specs.Hubs.{hubs}
use Rattle.lines.specs.Routes.{through, owner}
use Rattle.lines.specs.Traces.{landed, traced}
use Rattle.lines.specs.Rules.{ranges_kept, both_kinds, rule40, rule42, rule43, rule44, rule45, first_broken, keeps_rules}
use Rattle.lines.specs.Answers.{route_of, trace_of, bad_map, route_code, trace_code}
use Rattle.lines.specs.declared.Map.{Map}
use Rattle.lines.specs.declared.Owner.TheVariants.{LioInput as OwnedLio}
use Rattle.lines.specs.declared.Places.{Places}
use Rattle.lines.specs.declared.Route.{Route}
use Rattle.lines.specs.declared.Route.TheVariants.{Arrives, Unwired, NoOwner}
use Rattle.lines.specs.declared.Trace.{Trace}
use Rattle.lines.specs.declared.Trace.TheVariants.{Nothing, LioInput, BioInput, LpcCascade, MsiSlot}
use Rattle.map_promises.specs.Sources.{Source, pin, bio_at, IsSource, arrives, IsBehind, name}
use Rattle.map_promises.specs.Structures.{Placed}

-- ---- demand 3: no two lines look alike
-- every source arrives, and "Two different sources never arrive at the same core vector with the same number"
abbrev pub NoTwoAlike : Said → Type 0
NoTwoAlike said =
    ((x : Source) → IsSource said x → (vector : ℕ) × (number : ℕ) × (arrives said x ≡ Arrives vector number))
    × ((x y : Source) → IsSource said x → IsSource said y → arrives said x ≡ arrives said y → x ≡ y)

-- "tracing any vector and number back names the one source that arrives there": it names it, and what it names arrives there
abbrev pub TracingNames : Map → Type 0
TracingNames map =
    (x : Source) (vector number : ℕ) → IsSource (says map) x
    → (arrives (says map) x ≡ Arrives vector number → trace_of map vector number ≡ Ok (name (says map) x))
    × (trace_of map vector number ≡ Ok (name (says map) x) → arrives (says map) x ≡ Arrives vector number)

-- a source arrives there
abbrev pub Arrived : Said → ℕ → ℕ → Type 0
Arrived said vector number = (x : Source) × IsSource said x × (arrives said x ≡ Arrives vector number)

-- "and says that none does exactly when none does"
abbrev pub NothingExactly : Map → Type 0
NothingExactly map =
    (vector number : ℕ)
    → (Arrived (says map) vector number × (trace_of map vector number ≡ Ok Nothing → ⊥))
    ⊎ ((Arrived (says map) vector number → ⊥) × (trace_of map vector number ≡ Ok Nothing))

-- ---- places
-- whether a rule is broken does not hang on the places: the reading, which knows them, accepts no map that 61 refuses, and
-- refuses none that 61 lets pass
abbrev pub PlacesDoNotMatter : Map → Type 0
PlacesDoNotMatter map =
    (places : Places) (madt fadt : ℕ)
    → Placed (says map) places
    → (ranges_kept (says map) ≡ true → bit_in_both (says map).lio ≡ false → both_kinds (says map) ≡ false
    → first_broken map places madt fadt ≡ Ok tt → keeps_rules map ≡ true)
    × (keeps_rules map ≡ true → first_broken map places madt fadt ≡ Ok tt)

-- ---- the LPC lines, and there and back
-- "The sixteen LPC lines count as the one pin that they share": it is one of the bridge of the LPC's node, and each line arrives where
-- it does
abbrev pub LpcLinesShare : Map → Type 0
LpcLinesShare map =
    let said = says map in
    said.lpc.present ≡ true
    → (j : ℕ) × IsBehind said j × ((n : ℕ) → n < 16 → route_of map n ≡ Ok (arrives said (pin j said.lpc.cascade)))

-- W-208 of document 02 changes nothing where all bridges have the LPC's node: the first of them is the LPC's, as it was before
pub record AsBefore (map : Map) : Type 0 where
  -- 43 is told of an LPC where there is no BIO at all, and 45 by the count of the first (any map)
  pub r43 : (place : ℕ) → rule43 (says map) place ≡ rule ((says map).lpc.present && eqb (length (says map).bios) 0) 43 place
  pub r45 : (place : ℕ) → 0 < length (says map).bios
      → rule45 (says map) place ≡ rule ((says map).lpc.present && leb (bio_at (says map) 0).pins (says map).lpc.cascade) 45 place
  -- and of a map that keeps the rules, each LPC line arrives where the first bridge's input of the LPC's cascade does, and is traced to it
  pub arriving : keeps_rules map ≡ true → (says map).lpc.present ≡ true
      → (n : ℕ) → n < 16 → route_of map n ≡ Ok (arrives (says map) (pin 0 (says map).lpc.cascade))
  pub tracing : keeps_rules map ≡ true → (says map).lpc.present ≡ true
      → (vector number : ℕ) → arrives (says map) (pin 0 (says map).lpc.cascade) ≡ Arrives vector number
      → trace_of map vector number ≡ Ok (LpcCascade ((bio_at (says map) 0).base + (says map).lpc.cascade))

abbrev pub OneNodeAsBefore : Map → Type 0
OneNodeAsBefore map =
    ((j : ℕ) → j < length (says map).bios → (bio_at (says map) j).node ≡ (says map).lpc.node) → AsBefore map

-- W-201 of document 02 changes nothing of a map without an HT: its rules, owners, arrivals and traces are what they were when hubs were EIO
-- alone, and no LIO input was named (any map)
pub record AsWithoutHt (map : Map) : Type 0 where
  pub r34 : both_kinds (says map) ≡ false
  -- "no LIO or no EIO", "BIO without an EIO of its node", and no 44
  pub r40 : (madt : ℕ) → rule40 (says map) madt ≡ rule (not (says map).lio.present || eqb (length (says map).eios) 0) 40 madt
  pub r42 : (all : List Claim) → rule42 (says map) all ≡ spotted 42 (first_lone (mapped (λ e. e.node) (says map).eios) all)
  pub r44 : (place : ℕ) → rule44 (says map) place ≡ Ok tt
  -- "16 to 47 the LIO inputs 0 to 31"
  pub owned : (n : ℕ) → 16 ≤ n → n < 48 → owner (says map) n ≡ OwnedLio (n - 16)
  -- "at that EIO's cascade, with number v"
  pub arriving : (node v : ℕ)
      → through (hubs (says map)) node v ≡ first (λ e. eqb e.node node) (λ e. Arrives e.cascade v) NoOwner (says map).eios
  -- a wired LIO input, or what has landed on an EIO
  pub tracing : (vector number : ℕ)
      → traced (says map) vector number
      ≡ if (leads (says map).lio.low vector number || leads (says map).lio.high vector number) (LioInput (16 + number))
      (first (λ e. eqb e.cascade vector) (λ e. landed (says map) e.node number) Nothing (says map).eios)

abbrev pub WithoutHtAsBefore : Map → Type 0
WithoutHtAsBefore map = (says map).ht.present ≡ false → AsWithoutHt map

-- a trace tells the global number n
abbrev pub Tells : ℕ → Result Trace Refusal → Type 0
Tells n trace = (trace ≡ Ok (LioInput n)) ⊎ ((trace ≡ Ok (BioInput n)) ⊎ (trace ≡ Ok (LpcCascade n)))

-- routing a number and tracing its arrival comes back to that number; from an LPC line, to the pin that it shares
abbrev pub ThereAndBack : Map → Type 0
ThereAndBack map =
    (n vector number : ℕ) → route_of map n ≡ Ok (Arrives vector number)
    → (16 ≤ n → Tells n (trace_of map vector number))
    × (n < 16 → (j : ℕ) × IsBehind (says map) j × (trace_of map vector number ≡ Ok (LpcCascade ((bio_at (says map) j).base + (says map).lpc.cascade))))

-- ---- 61
-- a map that breaks a rule is refused with 61 at place 0, whatever is asked; one that keeps them is never refused
abbrev pub RefusedExactly : Map → Type 0
RefusedExactly map =
    (keeps_rules map ≡ false
    → ((n : ℕ) → route_of map n ≡ Err bad_map) × ((vector number : ℕ) → trace_of map vector number ≡ Err bad_map))
    × (keeps_rules map ≡ true
    → ((n : ℕ) (r : Refusal) → route_of map n ≡ Err r → ⊥) × ((vector number : ℕ) (r : Refusal) → trace_of map vector number ≡ Err r → ⊥))

-- ---- one map, one answer
-- "maps that differ only there are the same map": they get the same answers
abbrev pub SameAnswers : Map → Map → Type 0
SameAnswers map other =
    Same map other
    → (keeps_rules map ≡ keeps_rules other)
    × ((n : ℕ) → route_of map n ≡ route_of other n)
    × ((vector number : ℕ) → trace_of map vector number ≡ trace_of other vector number)

-- ---- answers as numbers
-- a route, or a trace, whose values fit the code: a core vector and a node take a byte, any other value 32 bits, and a
-- refusal's number is not 0
abbrev pub RouteFits : Result Route Refusal → Type 0
RouteFits (Ok (Arrives vector number)) = (vector < 2 ^ 8) × (number < 2 ^ 32)
RouteFits (Ok Unwired) = 0 < 1
RouteFits (Ok NoOwner) = 0 < 1
RouteFits (Err r) = (0 < r.number) × (r.place < 2 ^ 32)

abbrev pub TraceFits : Result Trace Refusal → Type 0
TraceFits (Ok Nothing) = 0 < 1
TraceFits (Ok (LioInput n)) = n < 2 ^ 32
TraceFits (Ok (BioInput n)) = n < 2 ^ 32
TraceFits (Ok (LpcCascade n)) = n < 2 ^ 32
TraceFits (Ok (MsiSlot node slot)) = (node < 2 ^ 8) × (slot < 2 ^ 32)
TraceFits (Err r) = (0 < r.number) × (r.place < 2 ^ 32)

-- every answer of a map that keeps the rules fits its code
abbrev pub AnswersFit : Map → Type 0
AnswersFit map =
    keeps_rules map ≡ true → ((n : ℕ) → RouteFits (route_of map n)) × ((vector number : ℕ) → TraceFits (trace_of map vector number))

-- what a code holds of an answer: all of it, but of a refusal only number and place
abbrev pub in_code : Refusal → Refusal
in_code r = refused r.number r.place

abbrev pub answer_in_code : {A : Type 0} → Result A Refusal → Result A Refusal
answer_in_code (Ok answer) = Ok answer
answer_in_code (Err r) = Err (in_code r)

-- no two answers have one code: two refusals with one code have equal numbers and equal places
abbrev pub RouteCodesApart : Type 0
RouteCodesApart = (r s : Result Route Refusal) → RouteFits r → RouteFits s → route_code r ≡ route_code s → answer_in_code r ≡ answer_in_code s

abbrev pub TraceCodesApart : Type 0
TraceCodesApart = (r s : Result Trace Refusal) → TraceFits r → TraceFits s → trace_code r ≡ trace_code s → answer_in_code r ≡ answer_in_code s
