-- RULES 12.9: what is written reads back.
use Rattle.std.specs.Prelude.{ℕ, ◌≡◌, List, [], ◌∷◌, ◌++◌, ◌⊎◌, T, take}
use Rattle.std.proofs.Math.Option.{none, some}
use Rattle.rules.specs.Table.{DOCUMENT, Node, nodes, node}
use Rattle.rules.specs.Lookups.{elements_from}
use Rattle.rules.specs.Answers.{written_bytes}
use Rattle.rules.specs.Normalization.{normalized}
use Rattle.rules.specs.Demands.{succeeded, result_table, result_pool, result_rows}
use Rattle.rules.specs.declared.Refusal.{Refusal}
use Rattle.rules.specs.declared.Row.{Row}
use Rattle.bundles.specs.Operations.{WriteOutcome}
use Rattle.markup.specs.Trees.{Content, nothing, text, element, meant_tree}
use Rattle.markup.specs.Reader.{with_text}
use Rattle.markup.specs.Writing.{element_to_write, text_refusal, text_written}
use Rattle.markup.specs.Namespaces.{read}

-- Content behind a text: adjoining texts are one, and an empty one is none.
unfoldable pub joined_after : {N : Type 0} → List ℕ → Content N → Content N
joined_after before nothing = with_text before nothing
joined_after before (text value following) = joined_after (before ++ value) following
joined_after before (element name attributes content following) =
    with_text before (element name attributes (joined_after [] content) (joined_after [] following))

abbrev pub joined : {N : Type 0} → Content N → Content N
joined c = joined_after [] c

-- The text that writing leaves: the answered part of the output.
unfoldable pub text_left : WriteOutcome → List ℕ
text_left o = take (written_bytes o.answer) o.bytes

-- What is not refused is the text of an element, and from what is left of it in the output a reader gets the element's tree:
-- elements, attributes and texts in order, each name with its URI.
abbrev pub ReadsBack : Type 0
ReadsBack =
    (table pool : List ℕ) (start size : ℕ) → text_refusal table pool start size ≡ none →
    (e : ℕ) × (element_to_write (nodes table pool) start ≡ some e)
    × (read (text_left (text_written table pool start size)) ≡ some (joined (meant_tree (nodes table pool) e)))

-- Row r is a document, or an element that no other element is around: outward from it are entity references at most, and then a
-- document, a fragment or nothing.
abbrev pub Outermost : List Node → ℕ → Type 0
Outermost ns r = ((node ns r).type ≡ DOCUMENT) ⊎ (elements_from ns r ≡ r ∷ [])

-- What normalization gives, written from such a row, has every name declared and inherits nothing: neither 23 nor 24.
abbrev pub NormalizedIsWhole : Type 0
NormalizedIsWhole =
    (table pool : List ℕ) (table_size pool_size : ℕ) → T (succeeded (normalized table pool table_size pool_size)) →
    (start size : ℕ) (r : Row) → Outermost (result_rows (normalized table pool table_size pool_size)) start →
    (text_refusal (result_table (normalized table pool table_size pool_size)) (result_pool (normalized table pool table_size pool_size)) start size ≡ some (Refusal.Undeclared r) → ⊥)
    × (text_refusal (result_table (normalized table pool table_size pool_size)) (result_pool (normalized table pool table_size pool_size)) start size ≡ some (Refusal.Inherited r) → ⊥)
