-- The reader's second part, as a relation of what is written to what is meant.
-- Assumes nothing.
use Prim.Native.Nat.{ℕ}
use mathlib.Core.Path.{◌≡◌, refl}
use mathlib.Core.Bool.{true}
use mathlib.Core.List.{List, [], ◌∷◌, ◌++◌}
use mathlib.Core.Option.{some}
use Rattle.rules.specs.Lists.{all_of}
use Rattle.markup.specs.Trees.{Content, nothing, text, element, Qualified, Expanded}
use Rattle.markup.specs.Reader.{with_text}
use Rattle.markup.specs.Namespaces.{Binding, bindings_of, is_legal_binding, all_different, same_prefix, same_expanded, expanded_by, attributes_expanded_by, meant_by}
use Rattle.markup.specs.ReadingBack.{joined_after}

-- A tag in a scope means a name and attributes.
pub record TagMeans (scope : List Binding) (qualified : Qualified) (owned : List (Qualified × List ℕ)) (meant_name : Expanded) (found : List (Expanded × List ℕ)) : Type 0 where
  pub legal : all_of is_legal_binding (bindings_of owned) ≡ true
  pub different : all_different same_prefix (bindings_of owned) ≡ true
  pub name : expanded_by (bindings_of owned ++ scope) qualified ≡ some meant_name
  pub attributes : attributes_expanded_by (bindings_of owned ++ scope) owned ≡ some found
  pub unique : all_different same_expanded found ≡ true

-- Content in a scope means content, item by item.
abbrev pub Means : List Binding → Content Qualified → Content Expanded → Type 0
Means scope nothing nothing = Unit {0}
Means scope nothing (text v f) = ⊥
Means scope nothing (element n o i f) = ⊥
Means scope (text value following) nothing = ⊥
Means scope (text value following) (text v f) = (value ≡ v) × Means scope following f
Means scope (text value following) (element n o i f) = ⊥
Means scope (element name owned inside following) nothing = ⊥
Means scope (element name owned inside following) (text v f) = ⊥
Means scope (element name owned inside following) (element n o i f) =
    TagMeans scope name owned n o × Means (bindings_of owned ++ scope) inside i × Means scope following f

-- Then it is what the reader gets.
pub means-read : (scope : List Binding) (c : Content Qualified) (m : Content Expanded) → Means scope c m → meant_by scope c ≡ some m
unfolding meant_by
means-read scope nothing nothing h = refl
means-read scope nothing (text v f) h = absurd h
means-read scope nothing (element n o i f) h = absurd h
means-read scope (text value following) nothing h = absurd h
means-read scope (text value following) (text v f) h = rw (means-read scope following f h.1, h.0) refl
means-read scope (text value following) (element n o i f) h = absurd h
means-read scope (element name owned inside following) nothing h = absurd h
means-read scope (element name owned inside following) (text v f) h = absurd h
means-read scope (element name owned inside following) (element n o i f) h =
    let t = h.0 in
    rw (t.legal, t.different, t.name, t.attributes, t.unique, means-read (bindings_of owned ++ scope) inside i h.1, means-read scope following f h.2) refl

-- Joining texts keeps it.
means-text : (scope : List Binding) (before : List ℕ) (c : Content Qualified) (m : Content Expanded) → Means scope c m → Means scope (with_text before c) (with_text before m)
means-text scope [] c m h = h
means-text scope (b ∷ bs) c m h = (refl, h)

pub means-joined : (scope : List Binding) (before : List ℕ) (c : Content Qualified) (m : Content Expanded) → Means scope c m → Means scope (joined_after before c) (joined_after before m)
unfolding joined_after
means-joined scope before nothing nothing h = means-text scope before nothing nothing h
means-joined scope before nothing (text v f) h = absurd h
means-joined scope before nothing (element n o i f) h = absurd h
means-joined scope before (text value following) nothing h = absurd h
means-joined scope before (text value following) (text v f) h =
    rw h.0 (means-joined scope (before ++ v) following f h.1)
means-joined scope before (text value following) (element n o i f) h = absurd h
means-joined scope before (element name owned inside following) nothing h = absurd h
means-joined scope before (element name owned inside following) (text v f) h = absurd h
means-joined scope before (element name owned inside following) (element n o i f) h =
    means-text scope before (element name owned (joined_after [] inside) (joined_after [] following)) (element n o (joined_after [] i) (joined_after [] f))
    (h.0, means-joined (bindings_of owned ++ scope) [] inside i h.1, means-joined scope [] following f h.2)
