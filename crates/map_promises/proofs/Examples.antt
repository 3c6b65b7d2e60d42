-- The examples of maps hold: computed.
use mathlib.Core.Path.{refl}
use Rattle.words.specs.Choice.{if}
use Rattle.words.specs.Refusals.{unless, first_refusal, is_sound}
use Rattle.words.specs.Lists.{first, in_each, numbers_from, numbers_below}
use Rattle.words.specs.Rooms.{written}
use Rattle.kinds.specs.Ranges.{lio_field, ht_field, eio_field, msi_field, bio_field, lpc_field}
use Rattle.kinds.specs.Used.{used_half, said_lio, said_ht, said_lpc}
use Rattle.clashes.specs.Folds.{fold}
use Rattle.clashes.specs.Rules.{clash}
use Rattle.clashes.specs.Search.{sooner, nearer, partner, better, first_clash, lonelier, first_lone}
use Rattle.clashes.specs.Told.{at_later, at_both, spotted}
use Rattle.parts.specs.Inputs.{has_bit, core_vector, is_named, names_unwired, has_pin}
use Rattle.lines.specs.Answers.{in_numbers, route_of, trace_of}
use Rattle.lines.specs.AtOnce.{triple_of, triples_of, at_once_rules, at_once, answers_after}
use Rattle.lines.specs.Claims.{placed, claims}
use Rattle.lines.specs.Hubs.{hubs_of, nodes_of}
use Rattle.lines.specs.Routes.{lio_arrival, through, bio_owner, owner, arrival_of, arrival}
use Rattle.lines.specs.Rules.{eios_fit, bios_fit, msis_fit, ranges_kept, no_bridge, no_input, lost, rules_to_45, rules_from_51, map_rules, first_broken, keeps_rules}
use Rattle.lines.specs.Traces.{slot_told, is_lpc_pin, pin_told, landed, comes_by, hub_traced, led_by_lio, traced}
use Rattle.lines.specs.declared.Map.{Map}
use Rattle.owners.specs.Table.{table_of, empty_table, owner_in, same_owner, same_table}
use Rattle.owners.specs.Lookups.{filling_of, lookup_rules, owner_by, lookup_of}
use Rattle.map_promises.specs.Examples.{Question, Told, told, broken_alone, fewer_pins, right_bridge, many_at_once, beside_the_map, on_the_ht, unused_places, first_named, MapExamples}

-- what is told, with all that it is computed by
unfoldable computed : Map → Question → Told
unfolding if first in_each numbers_from numbers_below written fold lio_field ht_field eio_field msi_field bio_field lpc_field used_half said_lio said_ht said_lpc clash sooner nearer partner better first_clash lonelier first_lone has_bit core_vector is_named names_unwired has_pin in_numbers route_of trace_of triple_of triples_of at_once_rules at_once answers_after placed claims hubs_of nodes_of lio_arrival through bio_owner owner arrival_of arrival at_later at_both spotted eios_fit bios_fit msis_fit ranges_kept no_bridge no_input lost rules_to_45 rules_from_51 map_rules first_broken unless first_refusal is_sound keeps_rules slot_told is_lpc_pin pin_told landed comes_by hub_traced led_by_lio traced table_of empty_table owner_in same_owner same_table filling_of lookup_rules owner_by lookup_of told
computed map question = told map question

-- THE PROMISES
pub broken_alone_lem : MapExamples broken_alone
unfolding computed broken_alone
broken_alone_lem = refl

pub fewer_pins_lem : MapExamples fewer_pins
unfolding computed fewer_pins
fewer_pins_lem = refl

pub right_bridge_lem : MapExamples right_bridge
unfolding computed right_bridge
right_bridge_lem = refl

pub many_at_once_lem : MapExamples many_at_once
unfolding computed many_at_once
many_at_once_lem = refl

pub beside_the_map_lem : MapExamples beside_the_map
unfolding computed beside_the_map
beside_the_map_lem = refl

pub on_the_ht_lem : MapExamples on_the_ht
unfolding computed on_the_ht
on_the_ht_lem = refl

pub unused_places_lem : MapExamples unused_places
unfolding computed unused_places
unused_places_lem = refl

pub first-named : MapExamples first_named
unfolding computed first_named
first-named = refl
