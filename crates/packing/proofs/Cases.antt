-- The cases of specs/Cases.antt come out as they should: computed.
-- Assumes nothing.
use lib.Dec.{T}
use Rattle.rules.specs.Table.{xml_uri, xmlns_uri, xml_prefix, xmlns_prefix, nodes, words, node}
use Rattle.rules.specs.Answers.{number_of, filled_number, filled_rows, filled_bytes}
use Rattle.rules.specs.Utf8.{following, well_formed}
use Rattle.rules.specs.Refusals.{bad_size, parent_rule, parent_allowed, second_element, bad_structure, must_be_empty, fields_refusal, encodings_refusal, good_name, bad_names, bad_namespace, bad_declaration, is_double, faults, conflicts, row_refusal, check_refusal}
use Rattle.rules.specs.Outputs.{padded, refusal}
use Rattle.rules.specs.Normalization.{success, too_many_rows, too_many_bytes, room_refusal}
use Rattle.rules.specs.Cases.{answer_numbers, gives}
use Rattle.packing.specs.Packing.{entered, entered_all, entries, joined, start_of, packed_field, packed_node, packed_form, packing_refusal, packed, packed_into, bundle_packed}
use Rattle.rules.specs.Answers.{written_number, written_bytes}
use Rattle.little_endian.specs.Numbers.{words_from}
use Rattle.bundles.specs.Bundles.{write_bundle, is_old, row_bytes, wrong_mark, other_version, bad_lengths, bundle_refusal, bundle_table, bundle_pool}
use Rattle.bundles.specs.Operations.{write_refused, write_done, bundle_written, state_bundle}
use Rattle.bundles.specs.Cases.{write_gives, same_lists}
use Rattle.packing.specs.Cases.{passes, cases, over_bundles, all_pass}

pub all-pass : T all_pass
unfolding xml_uri xmlns_uri xml_prefix xmlns_prefix nodes words node number_of filled_number filled_rows filled_bytes following well_formed bad_size parent_rule parent_allowed second_element bad_structure must_be_empty fields_refusal encodings_refusal good_name bad_names bad_namespace bad_declaration is_double faults conflicts row_refusal check_refusal padded refusal success too_many_rows too_many_bytes room_refusal answer_numbers gives entered entered_all entries joined start_of packed_field packed_node packed_form packing_refusal packed packed_into bundle_packed written_number written_bytes words_from write_bundle is_old row_bytes wrong_mark other_version bad_lengths bundle_refusal bundle_table bundle_pool write_refused write_done bundle_written state_bundle write_gives same_lists passes cases over_bundles all_pass
all-pass = tt
