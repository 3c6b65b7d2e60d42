-- The map of every accepted capture keeps the rules, so that it is never refused, no two of its lines look alike, and tracing
-- names the one source that arrives. "Take any accepted capture, and as sources its wired processor lines, bridge pins and
-- message slots."
use Prim.Native.Nat.{ℕ}
use mathlib.Core.Path.{◌≡◌, refl, ap, ◌∙◌}
use mathlib.Core.List.{List, ◌∷◌}
use mathlib.Core.Bool.{true, false, not, ◌&&◌, true≢false}
use Rattle.std.specs.Prelude.{Ok}
use Rattle.words.specs.Refusals.{rule, is_sound}
use Rattle.words.proofs.Choices.{yes_if}
use Rattle.words.proofs.Verdicts.{is_sound_lem, rule_kept, each_sound}
use Rattle.kinds.specs.Ranges.{bit_in_both}
use Rattle.clashes.proofs.Logic.{and_right}
use Rattle.tables.specs.declared.Strictness.{Strictness}
use Rattle.lines.specs.Says.{says}
use Rattle.lines.specs.Routes.{arrival}
use Rattle.lines.specs.Rules.{ranges_kept, too_many, both_kinds, lost, rules_to_45, rules_from_51, map_rules, first_broken, keeps_rules, slot_places}
use Rattle.lines.specs.Answers.{route_of}
use Rattle.lines.specs.declared.Route.{Route}
use Rattle.lines.specs.declared.Route.TheVariants.{Arrives, Unwired, NoOwner}
use Rattle.lines.specs.declared.Map.{Map}
use Rattle.map_promises.specs.Walks.{Normal}
use Rattle.map_promises.proofs.NoTwoAlike.{no_two_alike}
use Rattle.map_promises.proofs.RefusedExactly.{refused-exactly}
use Rattle.map_promises.proofs.Owners.{both_ways_agree}
use Rattle.map_promises.proofs.Routing.{route_is_sources, unwired-exactly, no_owner_exactly, owner-exactly}
use Rattle.map_promises.proofs.Tracing.{tracing_names, nothing-exactly}
use Rattle.map_promises.proofs.ThereAndBack.{lpc_lines_share, there_and_back}
use Rattle.reading.specs.Scan.{scan}
use Rattle.reading.proofs.AcceptedKeepsRules.{accepted_is_normal, accepted_keeps_rules}
use Rattle.promises.specs.Captures.{Trustworthy, AcceptedIsTrustworthy, ReadIsTrustworthy}
use Rattle.promises.proofs.WhyRead.{why_read}

-- 54: an answer that is not lost is an arrival
not-lost : (route : Route) → lost route ≡ false → (vector : ℕ) × (number : ℕ) × (route ≡ Arrives vector number)
unfolding lost
not-lost (Arrives vector number) h = (vector, number, refl)
not-lost Unwired h = absurd (true≢false h)
not-lost NoOwner h = absurd (true≢false h)

sci_arrives : (map : Map) → keeps_rules map ≡ true → (vector : ℕ) × (number : ℕ) × (route_of map map.sci ≡ Ok (Arrives vector number))
unfolding keeps_rules first_broken map_rules rules_to_45 rules_from_51 route_of
sci_arrives map k =
    let said = says map in
    let lower = ranges_kept said && not (bit_in_both said.lio) && not (both_kinds said) in
    let first = is_sound_lem (first_broken map slot_places 0 0) (and_right lower (is_sound (first_broken map slot_places 0 0)) k) in
    let lost_sci = lost (arrival said said.sci) in
    let r54 = each_sound (rule (too_many map) 38 0 ∷ map_rules said slot_places 0 0) first 10 in
    let w = not-lost (arrival said said.sci) (rule_kept lost_sci 54 0 r54) in
    (w.0, w.1, yes_if _ _ _ k ∙ ap Ok w.2)

trustworthy : (map : Map) → keeps_rules map ≡ true → Normal map → Trustworthy map
trustworthy map k n =
    let answered = (refused-exactly map).1 k in
    record {
      keeps = k;
      normal = n;
      routes = answered.0;
      traces = answered.1;
      sci = sci_arrives map k;
      arriving = route_is_sources map k;
      unwired = unwired-exactly map k;
      unowned = no_owner_exactly map k;
      owners = owner-exactly map k;
      lookups = both_ways_agree map k;
      alike = no_two_alike map k;
      tracing = tracing_names map k;
      nothing = nothing-exactly map k;
      lpc = lpc_lines_share map k;
      back = there_and_back map k;
    }

-- THE PROMISES
pub accepted_is_trustworthy : (strictness : Strictness) (capture : List ℕ) → AcceptedIsTrustworthy strictness capture
accepted_is_trustworthy strictness capture h =
    trustworthy (scan strictness capture).map (accepted_keeps_rules strictness capture h) (accepted_is_normal strictness capture h)

pub read_is_trustworthy : (strictness : Strictness) (capture list : List ℕ) → ReadIsTrustworthy strictness capture list
read_is_trustworthy strictness capture list count h =
    let why = why_read strictness capture list count h in
    rw why.map (accepted_is_trustworthy strictness capture why.accepted)
