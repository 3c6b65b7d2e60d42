-- The rules that a map must keep: document 01, "Refusals in order", 71 to 78 (36 before W-202 of document 02), 37, 38, 34 and 40 to 54,
-- with 34, 40, 42 and 44 as W-201 has them, 43 as W-208, 45 of W-212, and their order.
use Rattle.std.specs.Prelude.{ℕ, Bool, true, false, not, ◌&&◌, ◌||◌, List, [], ◌∷◌, ◌++◌, eqb, ltb, leb, length, is_none}
use Rattle.words.specs.Lists.{every, first}
use Rattle.words.specs.Refusals.{Verdict, rule, first_refusal, is_sound}
use Rattle.kinds.specs.Ranges.{bit_in_both, lio_field, ht_field, eio_field, bio_field, pins_fit, msi_field, lpc_field}
use Rattle.kinds.specs.declared.Eio.{Eio}
use Rattle.kinds.specs.declared.Bio.{Bio}
use Rattle.kinds.specs.declared.Msi.{Msi}
use Rattle.kinds.specs.declared.Lpc.{Lpc}
use Rattle.clashes.specs.Search.{first_clash, first_lone}
use Rattle.clashes.specs.Told.{at_later, at_both, spotted}
use Rattle.clashes.specs.declared.Claim.{Claim}
use Rattle.parts.specs.Inputs.{names_unwired, is_bridge}
use Rattle.lines.specs.Says.{Said, says}
use Rattle.lines.specs.Hubs.{hubs, nodes}
use Rattle.lines.specs.Claims.{claims}
use Rattle.lines.specs.Routes.{arrival}
use Rattle.lines.specs.declared.Map.{Map}
use Rattle.lines.specs.declared.Places.{Places}
use Rattle.lines.specs.declared.Route.{Route}
use Rattle.lines.specs.declared.Route.TheVariants.{Arrives, Unwired, NoOwner}

-- ---- the rules
-- 71 to 78: every EIO, BIO and MSI has its fields in their ranges; "61 also for a map with a count outside 1 to 64"
unfoldable pub eios_fit : List Eio → Bool
eios_fit eios = every (λ e. is_none (eio_field e)) eios

unfoldable pub bios_fit : List Bio → Bool
bios_fit bios = every (λ b. is_none (bio_field b) && pins_fit b.pins) bios

unfoldable pub msis_fit : List Msi → Bool
msis_fit msis = every (λ m. is_none (msi_field m)) msis

-- and so has every structure
unfoldable pub ranges_kept : Said → Bool
ranges_kept said =
    is_none (lio_field said.lio)
    && is_none (ht_field said.ht)
    && eios_fit said.eios
    && bios_fit said.bios
    && msis_fit said.msis
    && is_none (lpc_field said.lpc)

-- 38: one too many of its kind; a map has one LIO, one HT and one LPC at most
abbrev pub too_many : Map → Bool
too_many map = ltb 4 map.eiocount || ltb 4 map.biocount || ltb 4 map.msicount

-- 34: "A board has either HT or EIO", and the map has both
abbrev pub both_kinds : Said → Bool
both_kinds said = said.ht.present && not (eqb (length said.eios) 0)

-- 40: no LIO, or "neither EIO nor HT": no hub
abbrev pub rule40 : Said → ℕ → Verdict
rule40 said madt = rule (not said.lio.present || eqb (length (hubs said)) 0) 40 madt

-- 41: EIO repeats an earlier node
abbrev pub rule41 : List Claim → Verdict
rule41 all = at_later 41 (first_clash 41 all)

-- 42: BIO without an EIO of its node, or "with HT, for a hardware ID other than 0": without a hub of its node
abbrev pub rule42 : Said → List Claim → Verdict
rule42 said all = spotted 42 (first_lone (nodes said) all)

-- there is an LPC, and no BIO is its bridge
unfoldable pub no_bridge : Lpc → List Bio → Bool
no_bridge lpc bios = lpc.present && every (λ b. not (is_bridge lpc b)) bios

-- 43: "no such BIO" (W-208 of document 02)
abbrev pub rule43 : Said → ℕ → Verdict
rule43 said place = rule (no_bridge said.lpc said.bios) 43 place

-- 44: "at the HT for a byte naming an unwired input" (W-201)
abbrev pub rule44 : Said → ℕ → Verdict
rule44 said place = rule (names_unwired said.lio said.ht) 44 place

-- there is an LPC, and its bridge, "the earliest of equals", lacks the input of its cascade
unfoldable pub no_input : Lpc → List Bio → Bool
no_input lpc bios = lpc.present && first (is_bridge lpc) (λ b. leb b.pins lpc.cascade) false bios

-- 45: "at the LPC for a cascade at or past its bridge's count" (W-212)
abbrev pub rule45 : Said → ℕ → Verdict
rule45 said place = rule (no_input said.lpc said.bios) 45 place

-- the rule of 51, 52 or 53, at "the first structure that clashes with an earlier"
abbrev pub rule_clash : ℕ → List Claim → Verdict
rule_clash number all = at_both number (first_clash number all)

-- 51: two sources share a global number
abbrev pub rule51 : List Claim → Verdict
rule51 all = rule_clash 51 all

-- 52: two sources share an extended vector of one EIO, or an HT vector
abbrev pub rule52 : List Claim → Verdict
rule52 all = rule_clash 52 all

-- 53: two controllers enter one core vector
abbrev pub rule53 : List Claim → Verdict
rule53 all = rule_clash 53 all

-- an answer that is no arrival
unfoldable pub lost : Route → Bool
lost (Arrives vector number) = false
lost Unwired = true
lost NoOwner = true

-- 54: SCI_INT doesn't arrive
abbrev pub rule54 : Said → ℕ → Verdict
rule54 said fadt = rule (lost (arrival said said.sci)) 54 fadt

-- ---- their order
-- what the rules say from 40 to 45
unfoldable pub rules_to_45 : Said → Places → ℕ → List Verdict
rules_to_45 said places madt =
    let all = claims said places in
    rule40 said madt
    ∷ rule41 all
    ∷ rule42 said all
    ∷ rule43 said places.lpc
    ∷ rule44 said places.ht
    ∷ rule45 said places.lpc
    ∷ []

-- and from 51 to 54
unfoldable pub rules_from_51 : Said → Places → ℕ → List Verdict
rules_from_51 said places fadt =
    let all = claims said places in
    rule51 all
    ∷ rule52 all
    ∷ rule53 all
    ∷ rule54 said fadt
    ∷ []

unfoldable pub map_rules : Said → Places → ℕ → ℕ → List Verdict
map_rules said places madt fadt = rules_to_45 said places madt ++ rules_from_51 said places fadt

-- the first broken rule of a map with places, from 38 on; the walk refuses 71 to 78, 37, 38 and 34 at their structures
unfoldable pub first_broken : Map → Places → ℕ → ℕ → Verdict
first_broken map places madt fadt = first_refusal (rule (too_many map) 38 madt ∷ map_rules (says map) places madt fadt)

-- ---- 61: a map asked about breaks 71 to 78, 37, 38, 34 or 40 to 54, or has a BIO with a count outside 1 to 64
-- a map has no places: any that differ will do
abbrev pub slot_places : Places
slot_places =
    record {
      lio = 1;
      eios = 2 ∷ 3 ∷ 4 ∷ 5 ∷ [];
      bios = 6 ∷ 7 ∷ 8 ∷ 9 ∷ [];
      msis = 10 ∷ 11 ∷ 12 ∷ 13 ∷ [];
      lpc = 14;
      ht = 15;
    }

-- the map breaks none of the rules
unfoldable pub keeps_rules : Map → Bool
keeps_rules map =
    ranges_kept (says map)
    && not (bit_in_both (says map).lio)
    && not (both_kinds (says map))
    && is_sound (first_broken map slot_places 0 0)
