-- The lookups go along a path in one way: what is left of the path gives what the whole path gives.
-- Assumes nothing.
use Rattle.std.proofs.Common.{ℕ, ◌+◌, ◌≤◌, ◌<◌, ◌≡◌, refl, sym, ap, ◌∙◌, Bool, true, false, cond, List, [], ◌∷◌, length, get_or, drop, add-one}
use mathlib.Core.Option.{Option, none, some}
use lib.ListN.{drop_of_length-le}
use lib.Seq.{drop-cons}
use Rattle.rules.specs.Lists.{first_that}
use Rattle.rules.specs.Table.{Field, Node, nodes, node, node_at, row_count}
use Rattle.rules.specs.Lookups.{own_declarations, declares, unless_empty, Binding, declared as found_at, unbound, or_unbound, declared_value_or, names_uri, uri_of_prefix, declared_prefix_or, names_prefix, gives_prefix, prefix_among}
use Rattle.rules.proofs.Table.{node-nodes}
use Rattle.rows.specs.Reading.{found}
use Rattle.ancestors.specs.Paths.{Element}
use Rattle.declarations.proofs.Rows.{found_some, found_none}
use Rattle.deciders.specs.Deciding.{Ordinary}

-- The declaration's answer, or what comes further outward.
abbrev pub declared_or : {A : Type 0} → (Node → A) → A → Option Node → A
declared_or declared further none = further
declared_or declared further (some d) = declared d

-- A lookup: at each element its own name answers, or the first of its declarations that passes a test, or the elements outward.
pub record Lookup (ns : List Node) (A : Type 0) : Type 0 where
  pub answer : List ℕ → A
  pub named : Node → Bool
  pub own : Node → A
  pub test : Node → Bool
  pub declared : Node → A
  pub nothing : A
  pub end : answer [] ≡ nothing
  pub step :
      (e : ℕ) (outward : List ℕ)
      → answer (e ∷ outward) ≡ cond (named (node ns e)) (own (node ns e)) (declared_or declared (answer outward) (first_that test (own_declarations ns e)))

-- What is left of the path from place i on gives what the whole path gives.
pub record Left {A : Type 0} (table pool path : List ℕ) (lookup : Lookup (nodes table pool) A) (i : ℕ) : Type 0 where
  pub same : lookup.answer (drop i path) ≡ lookup.answer path

module _ {A : Type 0} (table pool path : List ℕ) (lookup : Lookup (nodes table pool) A) where
  abbrev ns : List Node
  ns = nodes table pool

  module _ (i : ℕ) (going : Left table pool path lookup i) where
    pub left_end : length path ≤ i → lookup.nothing ≡ lookup.answer path
    left_end past = sym lookup.end ∙ sym (ap lookup.answer (drop_of_length-le path past)) ∙ going.same

    module _ (less : i < length path) (element : Element table (get_or path i 0)) where
      -- the first element of what is left
      abbrev e : ℕ
      e = get_or path i 0

      split : drop i path ≡ e ∷ drop (i + 1) path
      split = rw add-one (drop-cons path i 0 less)

      -- the answer, by whether the element's own name answers
      by :
          (t : Bool) → lookup.named (node_at table pool e) ≡ t
          → cond t (lookup.own (node_at table pool e)) (declared_or lookup.declared (lookup.answer (drop (i + 1) path)) (first_that lookup.test (own_declarations ns e))) ≡ lookup.answer path
      by t is =
          let row = node-nodes table pool e element.within in
          let further = declared_or lookup.declared (lookup.answer (drop (i + 1) path)) (first_that lookup.test (own_declarations ns e)) in
          sym (ap lookup.answer split ∙ lookup.step e (drop (i + 1) path)
          ∙ ap (λ n. cond (lookup.named n) (lookup.own n) further) row
          ∙ ap (λ u. cond u (lookup.own (node_at table pool e)) further) is)
          ∙ going.same

      pub left-own : lookup.named (node_at table pool e) ≡ true → lookup.own (node_at table pool e) ≡ lookup.answer path
      left-own is = by true is

      -- Its own name does not answer, and d is the first of its declarations that passes, if there is one.
      module _ (other : lookup.named (node_at table pool e) ≡ false) (d : ℕ) (first-own : found ns d ≡ first_that lookup.test (own_declarations ns e)) where
        further : (o : Option Node) → found ns d ≡ o → declared_or lookup.declared (lookup.answer (drop (i + 1) path)) o ≡ lookup.answer path
        further o is = ap (declared_or lookup.declared (lookup.answer (drop (i + 1) path))) (sym is ∙ first-own) ∙ by false other

        pub left-declared : d < row_count table → lookup.declared (node_at table pool d) ≡ lookup.answer path
        left-declared within = further (some (node_at table pool d)) (found_some table pool d within)

        pub left-next : row_count table ≤ d → Left table pool path lookup (i + 1)
        left-next past = record { same = further none (found_none table pool d past) }

-- The URI of a prefix that is not built in.
module _ (ns : List Node) (prefix : List ℕ) (ordinary : Ordinary prefix) where
  value-or : (further : Binding) (o : Option Node) → declared_value_or o further ≡ declared_or (λ d. or_unbound (unless_empty d.value)) further o
  value-or further none = refl
  value-or further (some d) = refl

  pub uri-end : uri_of_prefix ns prefix [] ≡ unbound
  unfolding uri_of_prefix
  uri-end = refl

  pub uri-step :
      (e : ℕ) (outward : List ℕ)
      → uri_of_prefix ns prefix (e ∷ outward)
      ≡ cond (names_uri prefix (node ns e)) (found_at (node ns e).uri)
      (declared_or (λ d. or_unbound (unless_empty d.value)) (uri_of_prefix ns prefix outward) (first_that (declares prefix) (own_declarations ns e)))
  unfolding uri_of_prefix
  uri-step e outward =
      rw (ordinary.not_xml, ordinary.not_xmlns)
      (ap (cond (names_uri prefix (node ns e)) (found_at (node ns e).uri)) (value-or (uri_of_prefix ns prefix outward) (first_that (declares prefix) (own_declarations ns e))))

  abbrev pub uri_lookup : Lookup ns Binding
  uri_lookup =
      record {
        answer = uri_of_prefix ns prefix;
        named = names_uri prefix;
        own = λ n. found_at n.uri;
        test = declares prefix;
        declared = λ d. or_unbound (unless_empty d.value);
        nothing = unbound;
        end = uri-end;
        step = uri-step;
      }

-- The prefix of a URI.
module _ (ns : List Node) (start uri : List ℕ) where
  prefix-or : (further : Option Field) (o : Option Node) → declared_prefix_or o further ≡ declared_or (λ d. some d.local) further o
  prefix-or further none = refl
  prefix-or further (some d) = refl

  pub prefix-end : prefix_among ns start uri [] ≡ none
  unfolding prefix_among
  prefix-end = refl

  pub prefix-step :
      (e : ℕ) (outward : List ℕ)
      → prefix_among ns start uri (e ∷ outward)
      ≡ cond (names_prefix ns start uri (node ns e)) (some (node ns e).prefix)
      (declared_or (λ d. some d.local) (prefix_among ns start uri outward) (first_that (gives_prefix ns start uri) (own_declarations ns e)))
  unfolding prefix_among
  prefix-step e outward =
      ap (cond (names_prefix ns start uri (node ns e)) (some (node ns e).prefix))
      (prefix-or (prefix_among ns start uri outward) (first_that (gives_prefix ns start uri) (own_declarations ns e)))

  abbrev pub prefix_lookup : Lookup ns (Option Field)
  prefix_lookup =
      record {
        answer = prefix_among ns start uri;
        named = names_prefix ns start uri;
        own = λ n. some n.prefix;
        test = gives_prefix ns start uri;
        declared = λ d. some d.local;
        nothing = none;
        end = prefix-end;
        step = prefix-step;
      }
