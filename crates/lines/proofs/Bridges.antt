-- Laws of the LPC's bridge: what one search of it tells is rule 43, then 44, then 45.
use mathlib.Core.Path.{◌≡◌, refl}
use mathlib.Core.Bool.{Bool, true, false, not, ◌&&◌}
use mathlib.Core.List.{List, [], ◌∷◌}
use Prim.Native.Nat.{ℕ}
use lib.Dec.{leb}
use Rattle.std.specs.Prelude.{Option, Some, cond, Ok, Err}
use Rattle.std.specs.List.{find}
use Rattle.std.specs.Option.{option_map_or}
use Rattle.words.specs.Choice.{if}
use Rattle.words.specs.Lists.{first, every}
use Rattle.words.specs.Refusals.{Verdict, refused, rule, unless, first_refusal}
use Rattle.words.proofs.Choices.{yes_if}
use Rattle.kinds.specs.Used.{said_lpc}
use Rattle.kinds.specs.declared.Bio.{Bio}
use Rattle.kinds.specs.declared.Lpc.{Lpc}
use Rattle.kinds.proofs.Used.{lpc_present}
use Rattle.parts.specs.Inputs.{is_bridge}
use Rattle.lines.specs.Rules.{no_bridge, no_input}

-- 45, of a bridge, behind what 44 says
abbrev pub rules_from_44 : Verdict → Lpc → ℕ → Bio → Verdict
rules_from_44 from44 lpc place bio = first_refusal (from44 ∷ rule (leb bio.pins lpc.cascade) 45 place ∷ [])

-- what the search answers, by what std's `find` gives of it
abbrev pub searched : Verdict → Lpc → ℕ → Option Bio → Verdict
searched from44 lpc place bridge = option_map_or (rules_from_44 from44 lpc place) bridge (Err (refused 43 place))

-- 43, 44 and 45, one after the other
abbrev in_turn : Verdict → Bool → Bool → ℕ → Verdict
in_turn from44 none lacks place = first_refusal (rule none 43 place ∷ from44 ∷ rule lacks 45 place ∷ [])

-- it is these rules
all-rules : (from44 : Verdict) (lpc : Lpc) (place : ℕ) (bios : List Bio)
    → in_turn from44 (every (λ b. not (is_bridge lpc b)) bios) (first (is_bridge lpc) (λ b. leb b.pins lpc.cascade) false bios) place
    ≡ searched from44 lpc place (find (is_bridge lpc) bios)
unfolding first first_refusal unless if
all-rules from44 lpc place [] = refl
all-rules from44 lpc place (b ∷ bs) = go (is_bridge lpc b) _ _ _ (all-rules from44 lpc place bs)
  where
    go : (t none lacks : Bool) (bridge : Option Bio) → in_turn from44 none lacks place ≡ searched from44 lpc place bridge
        → in_turn from44 (not t && none) (if t (leb b.pins lpc.cascade) lacks) place ≡ searched from44 lpc place (cond t (Some b) bridge)
    go true none lacks bridge e = refl
    go false none lacks bridge e = e

-- by what is said of an LPC
abbrev pub judged : Verdict → Lpc → ℕ → List Bio → Verdict
judged from44 lpc place bios = in_turn from44 (no_bridge (said_lpc lpc) bios) (no_input (said_lpc lpc) bios) place

-- one that is not there breaks neither 43 nor 45, and of one that is there the search tells them
pub absent : (from44 : Verdict) (lpc : Lpc) (place : ℕ) (bios : List Bio) → lpc.present ≡ false → judged from44 lpc place bios ≡ from44
unfolding no_bridge no_input first_refusal unless if
absent from44 lpc place bios h = rw (lpc_present lpc, h) (alone from44)
  where
    alone : (v : Verdict) → unless Err v (Ok tt) ≡ v
    alone (Ok tt) = refl
    alone (Err r) = refl

pub present : (from44 : Verdict) (lpc : Lpc) (place : ℕ) (bios : List Bio) → lpc.present ≡ true
    → judged from44 lpc place bios ≡ searched from44 lpc place (find (is_bridge lpc) bios)
unfolding no_bridge no_input said_lpc
present from44 lpc place bios h =
    let e : said_lpc lpc ≡ lpc = yes_if _ _ _ h in
    rw (e, h) (all-rules from44 lpc place bios)
