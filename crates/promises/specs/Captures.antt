-- What is promised of captures, in either reading: how strict it is, is a parameter. Each statement stands alone; proofs/ has a theorem for it.
use Rattle.std.specs.Prelude.{ℕ, true, List, None, ◌≡◌, Ok, Err}
use Rattle.words.specs.Refusals.{refused_with, first_refusal}
use Rattle.words.specs.declared.Refusal.{Refusal}
use Rattle.capture.specs.Pairs.{pairs_of, pins_of}
use Rattle.tables.specs.Survey.{survey}
use Rattle.tables.specs.declared.Tables.{Tables}
use Rattle.tables.specs.declared.Strictness.{Strictness}
use Rattle.lines.specs.Says.{Said, says}
use Rattle.lines.specs.Claims.{claims}
use Rattle.lines.specs.Rules.{rule40, rule41, rule42, rule43, rule44, rule45, keeps_rules}
use Rattle.lines.specs.Answers.{route_of, trace_of}
use Rattle.lines.specs.declared.Map.{Map}
use Rattle.lines.specs.declared.Places.{Places}
use Rattle.lines.specs.declared.Route.TheVariants.{Arrives}
use Rattle.owners.specs.Lookups.{filling_of}
use Rattle.madt.specs.Pieces.{pieces, structures}
use Rattle.processors.specs.Listing.{count}
use Rattle.processors.specs.Repeats.{first_repeat}
use Rattle.map_promises.specs.Clashing.{ShareNode, ShareNumber, ShareVector, ShareCore, TwoNode, LoneBio, NoBridge, NamesUnwired, NoInput, TwoNumber, TwoVector, TwoCore, Names, NamesLater, NamesLone, OnePlace, Exactly}
use Rattle.map_promises.specs.Owners.{ByTheMap}
use Rattle.map_promises.specs.Routing.{RouteIsSources, UnwiredExactly, NoOwnerExactly, OwnerExactly}
use Rattle.map_promises.specs.Statements.{NoTwoAlike, TracingNames, NothingExactly, LpcLinesShare, ThereAndBack}
use Rattle.map_promises.specs.Walks.{Normal, InTableOrder}
use Rattle.reading.specs.Scan.{madt_bytes, walk_of, rules_before_51, scan}
use Rattle.reading.specs.Reading.{reading_of}

-- ---- demand 3: "Take any accepted capture"
-- no rule up to 54 is broken
abbrev pub Accepted : Strictness → List ℕ → Type 0
Accepted strictness capture = (scan strictness capture).verdict ≡ Ok tt

-- what a person at the bench may rely on in a map
pub record Trustworthy (map : Map) : Type 0 where
  -- it keeps 71 to 78, 37, 38, 34 and 40 to 54, and its unused places hold 0
  pub keeps : keeps_rules map ≡ true
  pub normal : Normal map
  -- 61 is never given: every question about it is answered
  pub routes : (number : ℕ) (r : Refusal) → route_of map number ≡ Err r → ⊥
  pub traces : (vector number : ℕ) (r : Refusal) → trace_of map vector number ≡ Err r → ⊥
  -- the SCI arrives somewhere
  pub sci : (vector : ℕ) × (number : ℕ) × (route_of map map.sci ≡ Ok (Arrives vector number))
  -- "The answer to a global number is: arrives (vector, number), unwired, or no owner": a source's number arrives where the
  -- source does, and each of the other two answers is given exactly where it is due
  pub arriving : RouteIsSources map
  pub unwired : UnwiredExactly map
  pub unowned : NoOwnerExactly map
  -- each number has the owner that owns it; and a lookup with the table that the map fills in tells that owner, and that answer (W-211 of
  -- document 02)
  pub owners : OwnerExactly map
  pub lookups : (number : ℕ) → ByTheMap map (filling_of map).table number
  -- "Two different sources never arrive at the same core vector with the same number"
  pub alike : NoTwoAlike (says map)
  -- "tracing any vector and number back names the one source that arrives there, and says that none does exactly when none does"
  pub tracing : TracingNames map
  pub nothing : NothingExactly map
  -- "The sixteen LPC lines count as the one pin that they share"; and tracing is the way back
  pub lpc : LpcLinesShare map
  pub back : ThereAndBack map

-- the map of an accepted capture is that
abbrev pub AcceptedIsTrustworthy : Strictness → List ℕ → Type 0
AcceptedIsTrustworthy strictness capture = Accepted strictness capture → Trustworthy (scan strictness capture).map

-- and so is the map that the reading hands back with a count
abbrev pub ReadIsTrustworthy : Strictness → List ℕ → List ℕ → Type 0
ReadIsTrustworthy strictness capture list =
    (count : ℕ) → (reading_of strictness capture list).answer ≡ Ok count → Trustworthy (reading_of strictness capture list).map

-- ---- "The map holds the used fields of LIO, EIO, BIO, MSI and LPC, in table order, and the SCI number"
-- the map of an accepted capture is that of its MADT's structures, its bridges have as many inputs as its pairs tell, and its SCI number
-- is the FADT's
pub record MapOfMadt (strictness : Strictness) (capture : List ℕ) : Type 0 where
  pub t : Tables
  pub tables : survey strictness capture ≡ Ok t
  pub order :
      InTableOrder t.madt.place (pins_of (pairs_of capture)) (structures (pieces (madt_bytes capture t.madt) 44)) (scan strictness capture).map (walk_of capture t).found.places
  pub sci : (scan strictness capture).map.sci ≡ t.sci

abbrev pub AcceptedIsOfMadt : Strictness → List ℕ → Type 0
AcceptedIsOfMadt strictness capture = Accepted strictness capture → MapOfMadt strictness capture

-- ---- demand 3, its last sentence
-- "A capture that breaks no earlier rule": none up to 40
pub record NothingBefore41 (strictness : Strictness) (capture : List ℕ) (t : Tables) : Type 0 where
  -- 1 to 30; the tables are t
  pub tables : survey strictness capture ≡ Ok t
  -- 31 to 38 and 71 to 78, structure by structure, and 34
  pub structures : (walk_of capture t).verdict ≡ Ok tt
  -- no enabled CORE repeats an ID of an earlier one, and there is one
  pub r39 : first_repeat (madt_bytes capture t.madt) ≡ None
  pub r40core : count (madt_bytes capture t.madt) ≡ 0 → ⊥
  -- the rest of 40, of the map that the walk found
  pub r40 : rule40 (says (walk_of capture t).found.map) t.madt.place ≡ Ok tt

-- none up to 42
pub record NothingBefore43 (strictness : Strictness) (capture : List ℕ) (t : Tables) : Type 0 where
  pub to40 : NothingBefore41 strictness capture t
  -- 41 and 42, of the map that the walk found
  pub r41 : rule41 (claims (says (walk_of capture t).found.map) (walk_of capture t).found.places) ≡ Ok tt
  pub r42 : rule42 (says (walk_of capture t).found.map) (claims (says (walk_of capture t).found.map) (walk_of capture t).found.places) ≡ Ok tt

-- none up to 43
pub record NothingBefore44 (strictness : Strictness) (capture : List ℕ) (t : Tables) : Type 0 where
  pub to42 : NothingBefore43 strictness capture t
  pub r43 : rule43 (says (walk_of capture t).found.map) (walk_of capture t).found.places.lpc ≡ Ok tt

-- none up to 44
pub record NothingBefore45 (strictness : Strictness) (capture : List ℕ) (t : Tables) : Type 0 where
  pub to43 : NothingBefore44 strictness capture t
  pub r44 : rule44 (says (walk_of capture t).found.map) (walk_of capture t).found.places.ht ≡ Ok tt

-- none up to 45
pub record NothingBefore51 (strictness : Strictness) (capture : List ℕ) (t : Tables) : Type 0 where
  pub to44 : NothingBefore45 strictness capture t
  pub r45 : rule45 (says (walk_of capture t).found.map) (walk_of capture t).found.places.lpc ≡ Ok tt

-- the same by the one list of all rules: none of those that stand before 51 refuses
abbrev pub NotRefusedBefore51 : Strictness → List ℕ → Type 0
NotRefusedBefore51 strictness capture = first_refusal (rules_before_51 strictness capture) ≡ Ok tt

-- it is the same: the rules are asked in their order
abbrev pub RulesInOrder : Strictness → List ℕ → Type 0
RulesInOrder strictness capture =
    (NotRefusedBefore51 strictness capture → (t : Tables) × NothingBefore51 strictness capture t)
    × ((t : Tables) → NothingBefore51 strictness capture t → NotRefusedBefore51 strictness capture)

-- "refused for a clash exactly when": each number by itself, over the structures that the walk found; `told n p q` is that n is told
-- at place p with the second place q
pub record EachExactly (told : ℕ → ℕ → ℕ → Type 0) (strictness : Strictness) (capture : List ℕ) (t : Tables) (said : Said) (places : Places)
    : Type 0 where
  -- "EIO repeats an earlier node"
  pub r41 : NothingBefore41 strictness capture t → Exactly (told 41) (TwoNode said) (OnePlace (NamesLater said places (ShareNode said)))
  -- "BIO without an EIO of its node", or, with an HT, of another hardware ID than 0
  pub r42 : NothingBefore41 strictness capture t → Exactly (told 42) ((TwoNode said → ⊥) × LoneBio said) (OnePlace (NamesLone said places))
  -- "no such BIO", at the LPC
  pub r43 : NothingBefore43 strictness capture t → Exactly (told 43) (NoBridge said) (OnePlace (λ p. p ≡ places.lpc))
  -- "a byte naming an unwired input", at the HT
  pub r44 : NothingBefore44 strictness capture t → Exactly (told 44) (NamesUnwired said) (OnePlace (λ p. p ≡ places.ht))
  -- "a cascade at or past its bridge's count", at the LPC
  pub r45 : NothingBefore45 strictness capture t → Exactly (told 45) (NoInput said) (OnePlace (λ p. p ≡ places.lpc))
  -- "two sources share a global number"
  pub r51 : NothingBefore51 strictness capture t → Exactly (told 51) (TwoNumber said) (Names said places (ShareNumber said))
  -- "or an extended vector of one EIO", or an HT vector
  pub r52 :
      NothingBefore51 strictness capture t
      → Exactly (told 52) ((TwoNumber said → ⊥) × TwoVector said) (Names said places (ShareVector said))
  -- "or two controllers enter by one core vector"
  pub r53 :
      NothingBefore51 strictness capture t
      → Exactly (told 53) ((TwoNumber said → ⊥) × (TwoVector said → ⊥) × TwoCore said) (Names said places (ShareCore said))

-- so of what the capture is refused with
abbrev pub RefusedExactlyForSharing : Strictness → List ℕ → Tables → Type 0
RefusedExactlyForSharing strictness capture t =
    EachExactly (λ n p q. (scan strictness capture).verdict ≡ Err (refused_with n p q)) strictness capture t (says (walk_of capture t).found.map)
    (walk_of capture t).found.places

-- and so of the reading's answer, whatever list it is lent
abbrev pub ReadRefusedExactlyForSharing : Strictness → List ℕ → List ℕ → Tables → Type 0
ReadRefusedExactlyForSharing strictness capture list t =
    EachExactly (λ n p q. (reading_of strictness capture list).answer ≡ Err (refused_with n p q)) strictness capture t (says (walk_of capture t).found.map)
    (walk_of capture t).found.places
