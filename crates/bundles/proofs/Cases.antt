-- The cases of specs/Cases.antt come out as they should: computed.
-- Assumes nothing.
use lib.Dec.{T}
use Rattle.rules.specs.Table.{xml_uri, xmlns_uri, xml_prefix, xmlns_prefix, nodes, words, node}
use Rattle.rules.specs.Answers.{number_of, check_number, filled_number, filled_rows, filled_bytes, written_number, written_bytes}
use Rattle.rules.specs.Utf8.{following, well_formed}
use Rattle.rules.specs.Refusals.{bad_size, parent_rule, parent_allowed, second_element, bad_structure, must_be_empty, fields_refusal, encodings_refusal, good_name, bad_names, bad_namespace, bad_declaration, is_double, faults, conflicts, row_refusal, check_refusal, checked}
use Rattle.rules.specs.Lookups.{climb, elements_from, own_declarations, scope_of, scope_at, in_scope_uri}
use Rattle.rules.specs.Outputs.{padded, refusal}
use Rattle.rules.specs.Normalization.{declare, repair_element, repair_attribute, repair_attributes, normalize_row, normalize_rows, normal_form, too_many_rows, too_many_bytes, level1_refusal, room_refusal, normalization_refusal}
use Rattle.little_endian.specs.Numbers.{words_from}
use Rattle.bundles.specs.Bundles.{write_bundle, is_old, row_bytes, wrong_mark, other_version, bad_lengths, bundle_refusal, widened, bundle_table, bundle_pool}
use Rattle.bundles.specs.Operations.{table_read_refusal, table_read, write_refused, write_done, bundle_written, table_written, bundle_read, bundle_checked, state_bundle, normalized_into, bundle_normalized}
use Rattle.bundles.specs.Cases.{check_gives, read_gives, write_gives, same_lists, cases, all_pass}

pub all-pass : T all_pass
unfolding xml_uri xmlns_uri xml_prefix xmlns_prefix nodes words node number_of check_number filled_number filled_rows filled_bytes written_number written_bytes bad_size parent_rule parent_allowed second_element bad_structure must_be_empty fields_refusal following well_formed encodings_refusal good_name bad_names bad_namespace bad_declaration is_double faults conflicts row_refusal check_refusal checked climb elements_from own_declarations scope_of scope_at in_scope_uri declare repair_element repair_attribute repair_attributes normalize_row normalize_rows normal_form padded too_many_rows too_many_bytes level1_refusal room_refusal normalization_refusal words_from write_bundle is_old row_bytes wrong_mark other_version bad_lengths bundle_refusal widened bundle_table bundle_pool table_read_refusal refusal table_read write_refused write_done bundle_written table_written bundle_read bundle_checked state_bundle normalized_into bundle_normalized check_gives read_gives write_gives same_lists cases all_pass
all-pass = tt
