-- Document 01's twelve examples hold, board A is read, and board A moved is the same board: computed from their bytes.
use Prim.Native.Nat.{ℕ, zero, suc, ◌≤◌}
use native.Mathlib.Omega.{arith}
use mathlib.Core.List.{List}
use mathlib.Core.Path.{◌≡◌, refl}
use Rattle.reading.specs.declared.Scan.{Scan}
use Rattle.words.specs.Choice.{if}
use Rattle.words.specs.Refusals.{unless, first_refusal, is_sound}
use Rattle.words.specs.Bytes.{number_at, spelled, total, byte_sum}
use Rattle.words.specs.Lists.{first, those, in_each, numbers_from, numbers_below}
use Rattle.capture.specs.Fields.{version, segment_count, total_length, rsdp_address, header_size, descriptor, descriptors_end, segment_address, segment_length, segments, lengths, segment_place}
use Rattle.capture.specs.Presence.{is_present, place_of, goes_on, run_end, holds, place_in, located, rsdp_stretch, rsdp_place, presence_rules}
use Rattle.capture.specs.Pairs.{pair_at, pairs_of, tells_of, pins_of, pair_broken, pair_rules}
use Rattle.capture.specs.Rules.{wrong_size, wrong_mark, wrong_version, wrong_count, wrong_total, empty_segment, ends_past_memory, end_before, starts_early, segment_broken, segment_rules, container_rules}
use Rattle.tables.specs.Finder.{names, named_from, first_named, named_after, second_named}
use Rattle.tables.specs.Rsdp.{rsd_ptr, wrong_signature, wrong_revision, wrong_length, wrong_sums, rsdp_rules, xsdt_field}
use Rattle.tables.specs.Structures.{structure_length, broken_at, step_at}
use Rattle.tables.specs.Survey.{apic, facp, earlier, second_rule, name_rules, length_rules, wrong_madt_revision, wrong_flags, madt_field_rules, sci_number, with_sci, table_of_entry, madt_of, fadt_of, tables_from, xsdt_of, tables_of, rules_before_29, survey_rules}
use Rattle.tables.specs.Table.{signature, table_length, revision, address_at, header_at, table_named, cut_short, wrong_sum, table_rules}
use Rattle.tables.specs.Xsdt.{xsdt_signature, not_xsdt, wrong_xsdt_revision, entry_count, wrong_body, xsdt_rules, entry_field, entries, entry_rules}
use Rattle.tables.specs.declared.Strictness.{Strictness}
use Rattle.tables.specs.declared.Strictness.TheVariants.{Ordinary, Strict}
use Rattle.kinds.specs.Makers.{core_of, lio_of, ht_of, eio_of, msi_of, bio_of, lpc_of}
use Rattle.kinds.specs.Ranges.{lio_field, ht_field, eio_field, msi_field, bio_field, lpc_field}
use Rattle.kinds.specs.Used.{used_half, said_lio, said_ht, said_lpc}
use Rattle.clashes.specs.Folds.{fold}
use Rattle.clashes.specs.Rules.{clash}
use Rattle.clashes.specs.Search.{sooner, nearer, partner, better, first_clash, lonelier, first_lone}
use Rattle.clashes.specs.Told.{at_later, at_both, spotted}
use Rattle.parts.specs.Inputs.{has_bit, core_vector, is_named, names_unwired, has_pin}
use Rattle.lines.specs.Answers.{route_of, trace_of}
use Rattle.lines.specs.Claims.{placed, claims}
use Rattle.lines.specs.Hubs.{hubs_of, nodes_of}
use Rattle.lines.specs.Routes.{lio_arrival, through, bio_owner, owner, arrival_of, arrival}
use Rattle.lines.specs.Rules.{eios_fit, bios_fit, msis_fit, ranges_kept, no_bridge, no_input, lost, rules_to_45, rules_from_51, map_rules, first_broken, keeps_rules}
use Rattle.lines.specs.Traces.{slot_told, is_lpc_pin, pin_told, landed, comes_by, hub_traced, led_by_lio, traced}
use Rattle.madt.specs.Pieces.{piece_at, pieces_from, pieces, structures}
use Rattle.madt.specs.Rules.{is_type, is_known, length_of, wrong_length as wrong_structure_length, wrong_version as wrong_structure_version, wrong_flags as reserved_flags, wrong_cascade, wrong_node, wrong_nodes, wrong_count as no_slots, wrong_end, wrong_base, wrong_input, wrong_byte, shared_bit, one_too_many, structure_rules}
use Rattle.madt.specs.Contents.{of_type, made, standing, the_one, bridge_of, map_of, places_of, is_enabled_core, enabled_cores, found_in}
use Rattle.madt.specs.Walk.{rules_in_turn, gives_both, kind_rules, walk_rules, turned_away, walked}
use Rattle.processors.specs.Image.{four_bytes, image}
use Rattle.words.specs.Rooms.{has_room, written, filled}
use Rattle.processors.specs.Listing.{numbers_of, processors, count}
use Rattle.processors.specs.Repeats.{shares_with_one, repeats_id, first_repeating, first_repeat}
use Rattle.reading.specs.Entries.{answer_in, read_code, read_result, bytes_after}
use Rattle.reading.specs.Reading.{without_map, answered, madt_found, reading_of, list_after}
use Rattle.reading.specs.Scan.{madt_bytes, empty_map, turned_down, repeat_rule, processor_rule, madt_rules, line_rules, rules_before_51, all_rules, accepted, scan}
use Rattle.text.specs.Numerals.{letters, digits, decimal}
use Rattle.text.specs.Lines.{each, field, phrase, line, version_line, core_line, core_lines, half_line, lio_lines, ht_line, eio_line, bio_line, msi_line, lpc_line, sci_line}
use Rattle.text.specs.Text.{map_parts, map_text, text_of}
use Rattle.promises.specs.BoardA.{board_a, msi_from_63, msi_to_257, eio_at_2, board_a_moved}
use Rattle.promises.specs.Captures.{Accepted}
use Rattle.promises.specs.Examples.{told, twelve, TwelveExamples, BoardAIsRead, BoardAIsPrinted}
use Rattle.promises.specs.Moved.{BoardAMoves}
use Rattle.promises.specs.Pairs.{number_of, Gives, HasPins}

-- the scan, with all that it and the answers are computed by
unfoldable computed : Strictness → List ℕ → Scan
unfolding if unless first_refusal in_each first fold number_at spelled total byte_sum numbers_from numbers_below version segment_count total_length rsdp_address header_size descriptor descriptors_end segment_address segment_length segments lengths segment_place is_present place_of goes_on run_end holds place_in located rsdp_stretch rsdp_place presence_rules wrong_size wrong_mark wrong_version wrong_count wrong_total empty_segment ends_past_memory end_before starts_early segment_broken segment_rules pair_at pairs_of tells_of pins_of pair_broken pair_rules container_rules names named_from first_named named_after second_named rsd_ptr wrong_signature wrong_revision wrong_length wrong_sums rsdp_rules xsdt_field structure_length broken_at step_at apic facp earlier second_rule name_rules length_rules wrong_madt_revision wrong_flags madt_field_rules sci_number with_sci table_of_entry madt_of fadt_of tables_from xsdt_of tables_of rules_before_29 survey_rules signature table_length revision address_at header_at table_named cut_short wrong_sum table_rules xsdt_signature not_xsdt wrong_xsdt_revision entry_count wrong_body xsdt_rules entry_field entries entry_rules core_of lio_of ht_of eio_of msi_of bio_of lpc_of lio_field ht_field eio_field msi_field bio_field lpc_field used_half said_lio said_ht said_lpc clash sooner nearer partner better first_clash lonelier first_lone has_bit core_vector is_named names_unwired has_pin route_of trace_of placed claims hubs_of nodes_of lio_arrival through bio_owner owner arrival_of arrival at_later at_both spotted eios_fit bios_fit msis_fit ranges_kept no_bridge no_input lost rules_to_45 rules_from_51 map_rules first_broken is_sound keeps_rules slot_told is_lpc_pin pin_told landed comes_by hub_traced led_by_lio traced piece_at pieces_from pieces structures those is_type is_known length_of wrong_structure_length wrong_structure_version reserved_flags wrong_cascade wrong_node wrong_nodes no_slots wrong_end wrong_base wrong_input wrong_byte shared_bit one_too_many structure_rules of_type made standing the_one bridge_of map_of places_of found_in rules_in_turn gives_both kind_rules walk_rules turned_away walked is_enabled_core enabled_cores numbers_of processors count has_room written filled shares_with_one repeats_id first_repeating first_repeat without_map answered madt_found reading_of list_after madt_bytes empty_map turned_down repeat_rule processor_rule madt_rules line_rules rules_before_51 all_rules accepted scan
computed strictness capture = scan strictness capture

-- THE PROMISES
pub twelve_examples : (strictness : Strictness) → TwelveExamples strictness
unfolding board_a msi_from_63 msi_to_257 eio_at_2 told twelve computed
twelve_examples Ordinary = refl
twelve_examples Strict = refl

pub board_a_is_read : (strictness : Strictness) → BoardAIsRead strictness
unfolding board_a computed four_bytes image answer_in read_code read_result bytes_after
board_a_is_read Ordinary = record { accepted = refl; reading = refl; list = refl; result = refl; bytes = refl }
board_a_is_read Strict = record { accepted = refl; reading = refl; list = refl; result = refl; bytes = refl }

pub board_a_is_printed : BoardAIsPrinted
unfolding board_a computed text_of map_text map_parts each field phrase line version_line core_line core_lines half_line lio_lines ht_line eio_line bio_line msi_line lpc_line sci_line letters digits decimal
board_a_is_printed = refl

-- board A moved: whatever the hardware ID, no pair tells another number than 64
moved_pins : (id : ℕ) → HasPins board_a_moved id 64
unfolding board_a_moved
moved_pins id = record { told = told64; else64 = λ never. refl }
  where
    told64 : (k : ℕ) → Gives board_a_moved k id → 64 ≡ number_of board_a_moved k
    told64 zero g = refl
    told64 (suc zero) g = refl
    told64 (suc (suc zero)) g = absurd (let full : 1 ≤ 0 = g.full in omega arith)
    told64 (suc (suc (suc zero))) g = absurd (let full : 1 ≤ 0 = g.full in omega arith)
    told64 (suc (suc (suc (suc k)))) g = absurd (let few = g.counted in omega arith)

still_pins : (id : ℕ) → HasPins board_a id 64
unfolding board_a version number_at
still_pins id = record { told = λ k g. absurd (let two : 1 ≡ 2 = g.paired in omega arith); else64 = λ never. refl }

pub board_a_moves : BoardAMoves
unfolding board_a board_a_moved computed
board_a_moves =
    record {
      board = record { madt = refl; sci = refl; pins = λ before later x e b. (64, still_pins _, moved_pins _) };
      accepted = accepted;
      places = (refl, refl);
    }
  where
    accepted : (strictness : Strictness) → Accepted strictness board_a_moved
    accepted Ordinary = refl
    accepted Strict = refl
