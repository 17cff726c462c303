-- The cases of specs/Cases.antt come out as they should: computed.
-- Assumes nothing.
use lib.Dec.{T}
use Rattle.rules.specs.Table.{xml_uri, xmlns_uri, xml_prefix, xmlns_prefix, nodes, node}
use Rattle.rules.specs.Answers.{number_of, written_number, written_bytes}
use Rattle.rules.specs.Utf8.{following, well_formed, sequence, leading, decoded}
use Rattle.rules.specs.Refusals.{bad_size, parent_rule, parent_allowed, second_element, bad_structure, must_be_empty, fields_refusal, encodings_refusal, good_name, bad_names, bad_namespace, bad_declaration, is_double, faults, conflicts, row_refusal, check_refusal}
use Rattle.rules.specs.Lookups.{climb, elements_from, element_child, own_declarations, scope_of, scope_at, in_scope_uri, lookup_refusal}
use Rattle.rules.specs.Outputs.{padded}
use Rattle.rules.specs.Normalization.{level1_refusal}
use Rattle.rules.specs.Demands.{element_means_in, element_means, attribute_means_in, attribute_means, means, up_from, self_and_ancestors}
use Rattle.bundles.specs.Operations.{write_refused, write_done}
use Rattle.bundles.specs.Cases.{write_gives, same_lists}
use Rattle.escapes.specs.Escapes.{escapes, escape, escaped}
use Rattle.escapes.specs.Undoing.{lines, referenced, is_bare, kept, read_value}
use Rattle.markup.specs.Trees.{child_rows, attribute_name, written_attributes, written_tree, meant_attributes, meant_tree}
use Rattle.markup.specs.Markup.{name_markup, attribute_markup, start_tag, end_tag, markup}
use Rattle.characters.specs.Characters.{holds_forbidden}
use Rattle.markup.specs.Writing.{element_to_write, in_subtree, has_no_markup, is_undeclared, is_inherited, subtree_refusal, text_of, text_refusal, text_written}
use Rattle.markup.specs.Reader.{nc_name, q_name, is_legal, value_of, att_value, attribute, attributes, s_tag, e_tag, element_by, content, read_markup}
use Rattle.markup.specs.Namespaces.{bindings_of, bound_to, attributes_expanded_by, meant_by, read}
use Rattle.markup.specs.ReadingBack.{joined_after}
use Rattle.markup.specs.Cases.{cases, texts, is_read, all_pass}

pub all-pass : T all_pass
unfolding xml_uri xmlns_uri xml_prefix xmlns_prefix nodes node number_of written_number written_bytes following well_formed sequence leading decoded bad_size parent_rule parent_allowed second_element bad_structure must_be_empty fields_refusal encodings_refusal good_name bad_names bad_namespace bad_declaration is_double faults conflicts row_refusal check_refusal climb elements_from element_child own_declarations scope_of scope_at in_scope_uri lookup_refusal padded level1_refusal element_means_in element_means attribute_means_in attribute_means means up_from self_and_ancestors write_refused write_done write_gives same_lists escapes escape escaped lines referenced is_bare kept read_value child_rows attribute_name written_attributes written_tree meant_attributes meant_tree name_markup attribute_markup start_tag end_tag markup element_to_write in_subtree has_no_markup holds_forbidden is_undeclared is_inherited subtree_refusal text_of text_refusal text_written nc_name q_name is_legal value_of att_value attribute attributes s_tag e_tag element_by content read_markup bindings_of bound_to attributes_expanded_by meant_by read joined_after cases texts is_read all_pass
all-pass = tt
