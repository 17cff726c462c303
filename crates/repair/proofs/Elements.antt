-- Steps 1 and 2 of an element, by what the path says.
-- Assumes nothing.
use Prim.Native.Nat.{ℕ, ◌+◌, ◌-◌, ◌≤◌, ◌<◌}
use mathlib.Core.Path.{◌≡◌, refl, sym, ◌∙◌, ap, subst}
use mathlib.Core.Bool.{Bool, true, false, cond, ◌&&◌, not}
use mathlib.Core.List.{List, [], ◌∷◌, ◌++◌}
use mathlib.Core.Option.{Option, none, some, none-ne-some}
use native.Mathlib.Omega.{arith}
use lib.ListN.{length, get_or, set}
use lib.Dec.{eqb}
use borrow.Author.Tests.{eqb-true, eqb-false, eq-eqb, ne_eqb}
use Rattle.rules.specs.Lists.{first_that, any_of}
use Rattle.rules.specs.Table.{PARENT, DECLARATION, Node, no_node, node, word, row_count}
use Rattle.rules.specs.Lookups.{is_declaration_of, own_declarations, declares, scope_at}
use Rattle.rules.specs.Normalization.{State, new_declaration, with_value, is_own_declaration, declare, repair_element}
use Rattle.rules.specs.Demands.{element_means}
use Rattle.rules.proofs.Lists.{by_cases, true-not-false, both_true, true-both, first_that-none, none-first_that, first_that-none-get_or, first_that-append-some, first_that-passes, all_of-first_that, filtered-passes, any_of-filtered}
use Rattle.rules.proofs.Scope.{scope-split, above}
use Rattle.rules.proofs.Repairs.{element-by-meaning, is-element}
use Rattle.rules.proofs.Unique.{revalued-is-set}
use Rattle.notes.specs.Notes as noting
use Rattle.notes.specs.Notes.{note_at}
use Rattle.numbers.specs.Numbers.{Names}
use Rattle.numbers.proofs.Laws.{same_number}
use Rattle.stacks.specs.Scopes.{nearest}
use Rattle.stacks.specs.Stacks.{prefix_at, value_at}
use Rattle.bindings.specs.Spelled.{Declares, Here, row_at}
use Rattle.bindings.specs.Asking.{top_of, element_settled, Asked, own_top}
use Rattle.bindings.proofs.Scopes.{nearest-some}
use Rattle.bindings.proofs.Deciding.{nearest-declared}
use Rattle.bindings.proofs.Settled.{element-settled}
use Rattle.working.specs.Working.{Good, AtElement, AtOwn, Undeclared, After, SameAttributes, element_step, valued, declared_for}
use Rattle.working.proofs.Held.{part, count, part_count, parent-word, noted-row, asked, top_below, element-below, row, here, top-is}

-- A row that passes a test.
any_at : {A : Type 0} (test : A → Bool) (xs : List A) (d : A) (i : ℕ) → i < length xs → test (get_or xs i d) ≡ true → any_of test xs ≡ true
any_at test xs d i within is =
    by_cases (any_of test xs)
    (λ q. q)
    (λ q. absurd (true-not-false is (first_that-none-get_or test xs d i (first_that-none test xs q) within)))

module _ {table pool notes tops path : List ℕ} {rows bytes names limit e : ℕ} (h : AtElement table pool notes tops path rows bytes names limit e) where
  abbrev s : State
  s = h.state

  abbrev ns : List Node
  ns = s.rows

  abbrev n : Node
  n = node ns e

  below : e < rows
  below = element-below h.good h.element

  pub element-asked : Asked notes tops path e
  element-asked = asked h.good e below

  pub element-tops : top_of notes tops e ≤ row_count (part h.good)
  element-tops = rw (part_count h.good) (top_below h.good (note_at notes e noting.PREFIX))

  abbrev scope : Here h.good.numbers.spelling names (prefix_at notes) (value_at notes) (row h.good h.element) h.good.standing.scope (scope_at ns e)
  scope = here h.good h.element

  prefix : Names h.good.numbers.spelling names (note_at notes e noting.PREFIX) n.prefix.bytes
  prefix = (noted-row h.good e below).prefix

  uri : Names h.good.numbers.spelling names (note_at notes e noting.URI) n.uri.bytes
  uri = (noted-row h.good e below).uri

  top : top_of notes tops e ≡ nearest (prefix_at notes) h.good.standing.scope (note_at notes e noting.PREFIX)
  top = top-is h.good h.element (note_at notes e noting.PREFIX)

  means : element_settled notes tops path e ≡ element_means ns e
  unfolding element_means
  means = element-settled notes tops path scope e n h.element.named prefix uri (λ m bytes is. same_number h.good.numbers.spelled is h.good.numbers.xml) top

  repaired : (b : Bool) → element_settled notes tops path e ≡ b → repair_element e ns ≡ cond b ns (declare e n.maker n.prefix n.uri ns)
  repaired b is = element-by-meaning ns e h.element.plain ∙ ap (λ (m : Bool). cond m ns (declare e n.maker n.prefix n.uri ns)) (sym means ∙ is)

  -- Buffers that hold what the step makes.
  done : {table' notes' tops' path' : List ℕ} {made : State} → made ≡ element_step e s → length tops' ≡ length tops → Good table' pool notes' tops' path' rows bytes names limit (e + 1) made → SameAttributes notes notes'
      → After notes table' pool notes' tops' path' rows bytes names limit (e + 1) (element_step e s)
  done {table'} {notes'} {tops'} {path'} same ts good attributes =
      record {
        full = λ over. absurd (omega (arith, h.good.lent.room.row_room));
        good = λ fits. subst (Good table' pool notes' tops' path' rows bytes names limit (e + 1)) same good;
        spare = λ fits. record { topped = rw ts h.spare.topped; few = h.spare.few };
        attributes = attributes;
      }

  pub element-kept : {b : Bool} → b ≡ element_settled notes tops path e → b ≡ true → After notes table pool notes tops path rows bytes names limit (e + 1) (element_step e s)
  element-kept told is = done (ap (λ (l : List Node). record { rows = l; pool = s.pool }) (sym (repaired true (sym told ∙ is)))) refl h.good (λ r k late inside. refl)

  module _ {b : Bool} (told : b ≡ element_settled notes tops path e) (other : b ≡ false) {own : ℕ} (read : own ≡ own_top (part h.good) notes tops e) where
    by-declaring : repair_element e ns ≡ declare e n.maker n.prefix n.uri ns
    by-declaring = repaired false (sym told ∙ other)

    -- The declaration on top of the element's prefix.
    found : first_that (declares n.prefix.bytes) (scope_at ns e) ≡ row_at (row h.good h.element) (top_of notes tops e)
    found = nearest-declared scope prefix ∙ ap (row_at (row h.good h.element)) (sym top)

    module _ (some? : 0 < own) where
      own-test : (own ≡ top_of notes tops e) × (word (part h.good) (top_of notes tops e - 1) PARENT ≡ e)
      unfolding own_top
      own-test =
          by_cases (not (eqb (top_of notes tops e) 0) && eqb (word (part h.good) (top_of notes tops e - 1) PARENT) e)
          (λ q.
          let both = both_true (not (eqb (top_of notes tops e) 0)) (eqb (word (part h.good) (top_of notes tops e - 1) PARENT) e) q in
          (rw q at read, eqb-true (word (part h.good) (top_of notes tops e - 1) PARENT) e both.1))
          (λ q. let none? : own ≡ 0 = rw q at read in absurd (omega arith))

      module _ {d : ℕ} (at : d ≡ own - 1) where
        same_row : d ≡ top_of notes tops e - 1
        same_row = at ∙ ap (λ (x : ℕ). x - 1) own-test.0

        pub own-within : d < rows
        own-within = omega (arith, at, own-test.0, top_below h.good (note_at notes e noting.PREFIX))

        hit : first_that (declares n.prefix.bytes) (scope_at ns e) ≡ some (node ns d)
        hit = found ∙ rw (ne_eqb (top_of notes tops e) 0 (λ z. omega (arith, own-test.0)), sym same_row) refl

        near : Declares h.good.numbers.spelling names (prefix_at notes) (value_at notes) (row h.good h.element) (top_of notes tops e)
        near =
            subst (Declares h.good.numbers.spelling names (prefix_at notes) (value_at notes) (row h.good h.element)) (sym (top ∙ scope.alike.nearest (note_at notes e noting.PREFIX)))
            (nearest-some scope.spells (prefix_at notes) (value_at notes) (row h.good h.element) scope.scope scope.each (note_at notes e noting.PREFIX)
            (λ z. omega (arith, own-test.0, top ∙ scope.alike.nearest (note_at notes e noting.PREFIX)))).1

        pub own-kind : (node ns d).type ≡ DECLARATION
        own-kind = ap (λ (x : ℕ). (node ns x).type) same_row ∙ near.kind

        pub own-parent : (node ns d).parent ≡ e
        own-parent = sym (parent-word h.good d own-within) ∙ ap (λ (x : ℕ). word (part h.good) x PARENT) same_row ∙ own-test.1

        is-own : is_own_declaration e n.prefix.bytes (node ns d) ≡ true
        is-own =
            true-both (true-both (eq-eqb (node ns d).type DECLARATION own-kind) (eq-eqb (node ns d).parent e own-parent))
            (first_that-passes (declares n.prefix.bytes) (scope_at ns e) hit)

        as-set : repair_element e ns ≡ set ns d (with_value n.uri (node ns d))
        unfolding declare node
        as-set =
            by-declaring
            ∙ rw (any_at (is_own_declaration e n.prefix.bytes) ns no_node d (rw (count h.good) own-within) is-own)
            (revalued-is-set e n.prefix.bytes n.uri ns d h.element.lawful.unique (rw (count h.good) own-within) is-own)

        abbrev pub own-here : AtOwn table notes tops path rows e d
        own-here = record { pool = pool; bytes = bytes; names = names; limit = limit; at = h; within = own-within; kind = own-kind; owner = own-parent }

        pub own-set : {table' notes' tops' path' : List ℕ} → length tops' ≡ length tops → Good table' pool notes' tops' path' rows bytes names limit (e + 1) (valued d n.uri s) → SameAttributes notes notes' → After notes table' pool notes' tops' path' rows bytes names limit (e + 1) (element_step e s)
        own-set ts good attributes = done (ap (λ (l : List Node). record { rows = l; pool = s.pool }) (sym as-set)) ts good attributes

    module _ (none? : own ≤ 0) where
      -- one of its own would be on top
      missed : (m : Node) → first_that (declares n.prefix.bytes) (own_declarations ns e) ≡ some m → ⊥
      unfolding own_top own_declarations
      missed m is =
          let t = top_of notes tops e in
          let first : first_that (declares n.prefix.bytes) (scope_at ns e) ≡ some m =
          ap (first_that (declares n.prefix.bytes)) (scope-split ns e (is-element n h.element.kind))
          ∙ first_that-append-some (declares n.prefix.bytes) (own_declarations ns e) (above ns e) is in
          let owned = (both_true (eqb m.type DECLARATION) (eqb m.parent e) (all_of-first_that (is_declaration_of e) (declares n.prefix.bytes) (own_declarations ns e) (filtered-passes (is_declaration_of e) ns) is)).1 in
          by_cases (eqb t 0)
          (λ q. let z : none ≡ some m = rw q at (sym found ∙ first) in none-ne-some m z)
          (λ q.
          let z : some (node ns (t - 1)) ≡ some m = rw q at (sym found ∙ first) in
          let same : node ns (t - 1) ≡ m = cc in
          let low = top_below h.good (note_at notes e noting.PREFIX) in
          let some? = eqb-false t 0 q in
          let parent : word (part h.good) (t - 1) PARENT ≡ e = parent-word h.good (t - 1) (omega arith) ∙ ap (λ (x : Node). x.parent) same ∙ eqb-true m.parent e owned in
          let own_is : own ≡ t = read ∙ rw (q, eq-eqb (word (part h.good) (t - 1) PARENT) e parent) refl in
          omega arith)

      own-missing : first_that (declares n.prefix.bytes) (own_declarations ns e) ≡ none
      own-missing = go (first_that (declares n.prefix.bytes) (own_declarations ns e)) refl
        where
          go : (o : Option Node) → first_that (declares n.prefix.bytes) (own_declarations ns e) ≡ o → first_that (declares n.prefix.bytes) (own_declarations ns e) ≡ none
          go none is = is
          go (some m) is = absurd (missed m is)

      as-appended : repair_element e ns ≡ ns ++ new_declaration e n.maker n.prefix n.uri ∷ []
      unfolding declare own_declarations
      as-appended =
          by-declaring
          ∙ rw (any_of-filtered (declares n.prefix.bytes) (is_declaration_of e) ns ∙ none-first_that (declares n.prefix.bytes) (own_declarations ns e) own-missing) refl

      abbrev pub none_here : Undeclared table notes tops path rows names limit e
      none_here = record { pool = pool; bytes = bytes; at = h }

      pub own-appended : {table' notes' tops' path' : List ℕ} {count : ℕ} → After notes table' pool notes' tops' path' count bytes names limit (e + 1) (declared_for e e s) → After notes table' pool notes' tops' path' count bytes names limit (e + 1) (element_step e s)
      own-appended {table'} {notes'} {tops'} {path'} {count} after = subst (After notes table' pool notes' tops' path' count bytes names limit (e + 1)) (ap (λ (l : List Node). record { rows = l; pool = s.pool }) (sym as-appended)) after
