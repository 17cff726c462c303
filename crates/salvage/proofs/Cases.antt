-- The cases of specs/Cases.antt come out as they should: computed.
-- Assumes nothing.
use lib.Dec.{T}
use Rattle.rules.specs.Table.{xml_uri, xmlns_uri, xml_prefix, xmlns_prefix, nodes, words, node}
use Rattle.rules.specs.Answers.{number_of, salvaged_number, salvaged_rows, salvaged_dropped, rescued_number, rescued_bytes, rescued_dropped}
use Rattle.rules.specs.Utf8.{following, well_formed}
use Rattle.rules.specs.Refusals.{bad_size, parent_rule, parent_allowed, second_element, bad_structure, must_be_empty, fields_refusal, encodings_refusal, good_name, bad_names, bad_namespace, bad_declaration, is_double, faults}
use Rattle.rules.specs.Outputs.{padded}
use Rattle.dropped_rows.specs.Dropped.{drop_refusal, kept, drops_below}
use Rattle.salvage.specs.Salvage.{new_parent, salvaged_nodes, drops, listed, fault_refusal, too_short, salvage_refusal, salvaged, rescue_refused, rescued, bundle_salvaged}
use Rattle.little_endian.specs.Numbers.{words_from}
use Rattle.bundles.specs.Bundles.{write_bundle, is_old, row_bytes, wrong_mark, other_version, bad_lengths, bundle_refusal, bundle_table, bundle_pool}
use Rattle.bundles.specs.Cases.{same_lists}
use Rattle.salvage.specs.Cases.{answer_numbers, gives, passes, cases, over_bundles, all_pass}

pub all-pass : T all_pass
unfolding xml_uri xmlns_uri xml_prefix xmlns_prefix nodes words node number_of salvaged_number salvaged_dropped salvaged_rows following well_formed bad_size parent_rule parent_allowed second_element bad_structure must_be_empty fields_refusal encodings_refusal good_name bad_names bad_namespace bad_declaration is_double faults padded drop_refusal kept new_parent salvaged_nodes drops_below drops listed fault_refusal too_short salvage_refusal salvaged rescue_refused rescued bundle_salvaged rescued_number rescued_bytes rescued_dropped words_from write_bundle is_old row_bytes wrong_mark other_version bad_lengths bundle_refusal bundle_table bundle_pool same_lists answer_numbers gives passes cases over_bundles all_pass
all-pass = tt
