-- The cases of specs/Cases.antt come out as they should: computed.
-- Assumes nothing.
use lib.Dec.{T}
use lib.ListN.{drop}
use Rattle.rules.specs.Lists.{all_of}
use Rattle.rules.specs.Table.{xml_uri, xmlns_uri, xml_prefix, xmlns_prefix, nodes, node}
use Rattle.rules.specs.Answers.{number_of, check_number}
use Rattle.rules.specs.Utf8.{following, well_formed}
use Rattle.rules.specs.Refusals.{bad_size, parent_rule, parent_allowed, second_element, bad_structure, must_be_empty, fields_refusal, encodings_refusal, good_name, bad_names, bad_namespace, bad_declaration, is_double, faults, conflicts, row_refusal, check_refusal}
use Rattle.rules.specs.Lookups.{climb, elements_from, own_declarations, scope_of, scope_at, in_scope_uri}
use Rattle.rules.specs.Demands.{element_means_in, element_means, attribute_means_in, attribute_means, means, is_bound}
use Rattle.proposals.specs.Proposals.{failed, keeps_row, is_changed, is_foreign, is_unresolved, judged, proposal_refusal, proposal_checked, bundle_check_refusal, bundle_proposal_checked}
use Rattle.little_endian.specs.Numbers.{words_from}
use Rattle.bundles.specs.Bundles.{write_bundle, is_old, row_bytes, wrong_mark, other_version, bad_lengths, bundle_refusal, widened, bundle_table, bundle_pool}
use Rattle.bundles.specs.Versions.{narrowed, old_bundle}
use Rattle.proposals.specs.Cases.{passes, cases, over_bundles, passes_over, all_pass}

-- those of 40 and 41, by themselves
pub failing-pass : T (all_of passes (drop 19 cases))
unfolding xml_uri xmlns_uri xml_prefix xmlns_prefix nodes node number_of check_number following well_formed bad_size parent_rule parent_allowed second_element bad_structure must_be_empty fields_refusal encodings_refusal good_name bad_names bad_namespace bad_declaration is_double faults conflicts row_refusal check_refusal climb elements_from own_declarations scope_of scope_at in_scope_uri element_means_in element_means attribute_means_in attribute_means means is_bound failed keeps_row is_changed is_foreign is_unresolved judged proposal_refusal proposal_checked words_from write_bundle is_old row_bytes wrong_mark other_version bad_lengths bundle_refusal widened bundle_table bundle_pool narrowed old_bundle bundle_check_refusal bundle_proposal_checked passes cases
failing-pass = tt

-- all of them
pub all-pass : T all_pass
unfolding xml_uri xmlns_uri xml_prefix xmlns_prefix nodes node number_of check_number following well_formed bad_size parent_rule parent_allowed second_element bad_structure must_be_empty fields_refusal encodings_refusal good_name bad_names bad_namespace bad_declaration is_double faults conflicts row_refusal check_refusal climb elements_from own_declarations scope_of scope_at in_scope_uri element_means_in element_means attribute_means_in attribute_means means is_bound failed keeps_row is_changed is_foreign is_unresolved judged proposal_refusal proposal_checked words_from write_bundle is_old row_bytes wrong_mark other_version bad_lengths bundle_refusal widened bundle_table bundle_pool narrowed old_bundle bundle_check_refusal bundle_proposal_checked passes cases over_bundles passes_over all_pass
all-pass = tt
