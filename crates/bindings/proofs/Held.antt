-- What the arrays hold where they stand at an element is what is in scope there by definition.
-- Assumes nothing.
use Prim.Native.Nat.{ℕ, zero, suc, ◌+◌, ◌-◌, ◌≤◌, ◌<◌}
use mathlib.Core.Path.{◌≡◌, refl, sym, ◌∙◌, ap, subst}
use mathlib.Core.Bool.{Bool, true}
use mathlib.Core.List.{List, [], ◌∷◌, map}
use native.Mathlib.Omega.{arith}
use lib.ListN.{length}
use lib.Dec.{eqb}
use borrow.Author.Tests.{eqb-true, eq-eqb}
use Rattle.rules.specs.Lists.{gathered, all_of}
use Rattle.rules.specs.Table.{DECLARATION, Node, node_at, node, row_count}
use Rattle.rules.specs.Lookups.{scope_at}
use Rattle.rules.proofs.Lists.{by_cases, both_true}
use Rattle.rules.proofs.Table.{node-nodes}
use Rattle.rules.proofs.Passable.{is_passable, passable, passable-scope, scope-declarations}
use Rattle.numbers.specs.Numbers.{Names}
use Rattle.stacks.specs.Scopes.{nearest, Each}
use Rattle.scopes.specs.Rows.{own_rows, outward, scope_rows}
use Rattle.stacks.specs.Stacks.{PREFIXES, top_at, prefix_at, value_at}
use Rattle.scopes.specs.Standing.{Standing}
use Rattle.stacks.proofs.Each.{each_map, each_both, each_append}
use Rattle.scopes.proofs.Own.{own-each}
use Rattle.scopes.proofs.Answers.{standing-alike, standing-nearest}
use Rattle.scopes.proofs.Definitions.{scope-defined}
use Rattle.bindings.specs.Spelled.{Declares, Here, Scoped}

-- The positions of a scope are those of rows.
each-gathered : (P : ℕ → Type 0) (f : ℕ → List ℕ) → ((x : ℕ) → Each P (f x)) → (xs : List ℕ) → Each P (gathered f xs)
each-gathered P f each [] = tt
each-gathered P f each (x ∷ xs) = each_append P (f x) (gathered f xs) (each x) (each-gathered P f each xs)

abbrev pub Position : ℕ → ℕ → Type 0
Position n d = (0 < d) × (d ≤ n)

pub scope-positions : (table : List ℕ) (q : ℕ) → Each (Position (row_count table)) (scope_rows table q)
unfolding scope_rows
scope-positions table q =
    each-gathered (Position (row_count table)) (own_rows table)
    (λ e. each_map (λ d p. (p.0, p.1)) (own_rows table e) (own-each table e (row_count table)))
    (outward table q)

-- The nearest one is one of them, or 0.
each-nearest : (P : ℕ → Type 0) (key : ℕ → ℕ) (scope : List ℕ) (n : ℕ) → P 0 → Each P scope → P (nearest key scope n)
unfolding nearest
each-nearest P key [] n none? each = none?
each-nearest P key (d ∷ scope) n none? each = by_cases (eqb (key d) n) (λ q. rw q each.0) (λ q. rw q (each-nearest P key scope n none? each.1))

pub top_within : (table notes tops path : List ℕ) (q : ℕ) → Standing table notes tops path q → (n : ℕ) → top_at tops PREFIXES n ≤ row_count table
top_within table notes tops path q standing n =
    rw (standing-nearest table notes tops path q standing n)
    (each-nearest (λ (d : ℕ). d ≤ row_count table) (prefix_at notes) (scope_rows table q) n (omega arith)
    (each_map (λ d p. p.1) (scope_rows table q) (scope-positions table q)))

-- A test that all rows of a scope pass.
each-passes : (row : ℕ → Node) (test : Node → Bool) (scope : List ℕ) → all_of test (map row scope) ≡ true → Each (λ (d : ℕ). test (row d) ≡ true) scope
each-passes row test [] h = tt
each-passes row test (d ∷ scope) h = let both = both_true (test (row d)) (all_of test (map row scope)) h in (both.0, each-passes row test scope both.1)

map_each : (f h : ℕ → Node) (ds : List ℕ) → Each (λ (d : ℕ). f d ≡ h d) ds → map f ds ≡ map h ds
map_each f h [] same = refl
map_each f h (d ∷ ds) same = rw (same.0, map_each f h ds same.1) refl

abbrev is_declaration : Node → Bool
is_declaration d = eqb d.type DECLARATION

-- A row that is there.
inside : (ns : List Node) (r : ℕ) → (node ns r).type ≡ DECLARATION → r < length ns
unfolding node
inside [] r is = absurd (let y : ◌≡◌ {A = ℕ} 0 13 = is in omega arith)
inside (n ∷ ns) zero is = omega arith
inside (n ∷ ns) (suc r) is = omega (arith, inside ns r is)

-- What is in scope at an element, by numbers.
module _ {table notes tops path : List ℕ} {ns : List Node} {spelling : ℕ → List ℕ} {names e : ℕ} (h : Scoped table notes tops path ns spelling names e) where
  abbrev row : ℕ → Node
  row d = node ns (d - 1)

  abbrev positions : List ℕ
  positions = scope_rows table (e + 1)

  scope-rows : scope_at ns e ≡ map row positions
  scope-rows =
      let same = h.rows in
      ap (λ (l : List Node). scope_at l e) (sym same)
      ∙ scope-defined table h.pool h.small (rw same h.tree) e h.within (rw same h.kind)
      ∙ map_each (λ (d : ℕ). node_at table h.pool (d - 1)) row positions
      (each_map (λ d p. sym (ap (λ (l : List Node). node l (d - 1)) (sym same) ∙ node-nodes table h.pool (d - 1) (omega (arith, p.0, p.1)))) positions (scope-positions table (e + 1)))

  declares : (d : ℕ) → Position (row_count table) d → (is_declaration (row d) ≡ true) × (is_passable (row d) ≡ true) → Declares spelling names (prefix_at notes) (value_at notes) row d
  declares d position test =
      let kind = eqb-true (row d).type DECLARATION test.0 in
      let n = h.numbered (d - 1) (inside ns (d - 1) kind) in
      record {
        some = λ z. omega (arith, position.0);
        kind = kind;
        legal = (passable (row d) test.1).declaration;
        prefix = n.local;
        value = subst (λ (b : List ℕ). Names spelling names (value_at notes d) b) (rw (eq-eqb (row d).type DECLARATION kind) refl) n.value;
      }

  pub scope-here : Here spelling names (prefix_at notes) (value_at notes) row h.standing.scope (scope_at ns e)
  scope-here =
      record {
        spells = h.spelled;
        scope = positions;
        alike = standing-alike table notes tops path (e + 1) h.standing;
        each =
            each_both (λ d p t. declares d p t) positions (scope-positions table (e + 1))
            (each_both (λ d x y. (x, y)) positions
            (each-passes row is_declaration positions (sym (ap (all_of is_declaration) scope-rows) ∙ scope-declarations ns e))
            (each-passes row is_passable positions (sym (ap (all_of is_passable) scope-rows) ∙ passable-scope ns e h.passable)));
        rows = sym scope-rows;
      }
