-- What the numbers of names say where the arrays stand is what the definitions say.
-- Assumes nothing.
use Prim.Native.Nat.{ℕ, ◌+◌, ◌-◌, ◌*◌, ◌≤◌, ◌<◌}
use mathlib.Core.Path.{◌≡◌, refl, sym, ◌∙◌, ap, subst}
use mathlib.Core.Bool.{Bool, true, false, not}
use mathlib.Core.List.{List, [], ◌∷◌}
use native.Mathlib.Omega.{arith}
use lib.ListN.{length, get_or}
use lib.Dec.{eqb}
use borrow.Author.Tests.{eqb-true, eqb-false, eq-eqb, ne_eqb, lt-ltb}
use Rattle.rules.specs.Lists.{is_one_of}
use Rattle.rules.specs.Table.{MOST_ROWS, NONE, TYPE, PARENT, ELEMENT, ATTRIBUTE, Node, nodes, node, word, row_count, is_element}
use Rattle.rules.specs.Lookups.{scope_at}
use Rattle.rules.specs.Demands.{element_means, attribute_means, means, element_means_in, attribute_means_in, is_bound}
use Rattle.rules.proofs.Lists.{by_cases}
use Rattle.rules.proofs.Table.{length-nodes}
use Rattle.rules.proofs.Accepted.{Accepted, unrefused, few-rows, namespace-accepted, owner-element}
use Rattle.rules.proofs.Again.{rows-passable}
use Rattle.rows.proofs.Words.{type-word, parent-word}
use Rattle.notes.specs.Notes.{PREFIX, LOCAL_NAME, note_at}
use Rattle.numbers.specs.Noted.{NodeNumbered}
use Rattle.stacks.specs.Scopes.{nearest}
use Rattle.scopes.specs.Rows.{up}
use Rattle.stacks.specs.Stacks.{TOPS, PREFIXES, NUMBERED, top_at, under_at, prefix_at, value_at, Untouched}
use Rattle.scopes.specs.Standing.{Standing, Ready}
use Rattle.scopes.proofs.Definitions.{tree-accepted}
use Rattle.bindings.specs.Spelled.{Here, Scoped}
use Rattle.bindings.specs.Asking.{element_settled, attribute_settled, Asked}
use Rattle.bindings.proofs.Held.{top_within, scope-here}
use Rattle.bindings.proofs.Settled.{element-settled, attribute-settled}
use Rattle.flags.specs.Named.{is_named}
use Rattle.row_meanings.specs.Tests.{place_of, is_unsettled}
use Rattle.unsettled.specs.Walkable.{Walkable}
use Rattle.unsettled.specs.Lowest.{NoneBefore, unmeant}

module _ {table pool notes tops path : List ℕ} (w : Walkable table pool notes tops path) where
  abbrev pub ns : List Node
  ns = nodes table pool

  pub is-accepted : Accepted table pool
  is-accepted = unrefused table pool w.accepted

  pub few : row_count table ≤ MOST_ROWS
  few = few-rows table pool is-accepted.size

  pub row_within : {r : ℕ} → r < row_count table → r < length ns
  row_within h = rw (length-nodes table pool) h

  pub noted-row : (r : ℕ) → r < row_count table → NodeNumbered notes w.spelling w.names r (node ns r)
  noted-row r h = w.numbered r (row_within h)

  pub ready : Ready table notes tops path
  ready =
      record {
        room =
            record {
              small = few;
              noted = w.noted;
              placed = w.placed;
              prefixes = λ d some? low. omega (arith, (noted-row (d - 1) (omega arith)).local.known, w.topped);
              values = λ d some? low. omega (arith, (noted-row (d - 1) (omega arith)).value.known, w.topped);
            };
        linked = w.linked;
      }

  pub open-room : (r : ℕ) → r < row_count table → TOPS * note_at notes r LOCAL_NAME + TOPS ≤ length tops
  open-room r h = omega (arith, (noted-row r h).local.known, w.topped)

  -- The arrays moved, and the number of xml is where it was.
  pub walkable-kept : (tops' path' : List ℕ) → length tops' ≡ length tops → length path' ≡ length path → under_at path' NUMBERED 0 ≡ under_at path NUMBERED 0 → Walkable table pool notes tops' path'
  walkable-kept tops' path' ts ps kept =
      record {
        accepted = w.accepted;
        spelling = w.spelling;
        names = w.names;
        spelled = w.spelled;
        numbered = w.numbered;
        xml = λ n bytes is. ap (eqb n) kept ∙ w.xml n bytes is;
        topped = rw ts w.topped;
        noted = w.noted;
        placed = rw ps w.placed;
        linked = w.linked;
      }

  pub walkable-moved : (tops' path' : List ℕ) → length tops' ≡ length tops → length path' ≡ length path → Untouched path path' → Walkable table pool notes tops' path'
  walkable-moved tops' path' ts ps kept = walkable-kept tops' path' ts ps (kept 0)

  pub asked : (q : ℕ) → Standing table notes tops path q → (r : ℕ) → r < row_count table → Asked notes tops path r
  asked q standing r h =
      record {
        row = omega (arith, w.noted);
        prefix = omega (arith, (noted-row r h).prefix.known, w.topped);
        xml = omega (arith, w.placed);
        top = omega (arith, top_within table notes tops path q standing (note_at notes r PREFIX), w.noted);
      }

  -- At an element.
  module _ (e : ℕ) (standing : Standing table notes tops path (e + 1)) (within : e < row_count table) (kind : is_element (node ns e).type ≡ true) where
    abbrev scoped : Scoped table notes tops path ns w.spelling w.names e
    scoped =
        record {
          pool = pool;
          rows = refl;
          small = few;
          tree = tree-accepted table pool is-accepted;
          passable = rows-passable table pool is-accepted;
          within = within;
          kind = kind;
          spelled = w.spelled;
          numbered = w.numbered;
          standing = standing;
        }

    pub here : Here w.spelling w.names (prefix_at notes) (value_at notes) (λ k. node ns (k - 1)) standing.scope (scope_at ns e)
    here = scope-here scoped

    pub top-is : (n : ℕ) → top_at tops PREFIXES n ≡ nearest (prefix_at notes) standing.scope n
    top-is n = standing.on.prefixes.tops n

    module _ (r : ℕ) (below : r < row_count table) where
      named-as : is_one_of (ELEMENT ∷ ATTRIBUTE ∷ []) (node ns r).type ≡ true → (element_settled notes tops path r ≡ element_means_in (scope_at ns e) (node ns r)) × (attribute_settled notes tops path r ≡ attribute_means_in (scope_at ns e) (node ns r))
      named-as kind? =
          let named = namespace-accepted ns (length pool) r (is-accepted.row r (row_within below)) kind? in
          let n = noted-row r below in
          let top = top-is (note_at notes r PREFIX) in
          (element-settled notes tops path here r (node ns r) named n.prefix n.uri w.xml top, attribute-settled notes tops path here r (node ns r) named n.prefix n.uri w.xml top)

  -- Where the arrays stand at the place of row r's name.
  module _ (q : ℕ) (standing : Standing table notes tops path q) (r : ℕ) (below : r < row_count table) (at : q ≡ place_of table r) where
    pub element-is : eqb (word table r TYPE) ELEMENT ≡ true → element_settled notes tops path r ≡ means ns r
    unfolding means element_means
    element-is t =
        let kind : (node ns r).type ≡ ELEMENT = type-word table pool r below ∙ eqb-true (word table r TYPE) ELEMENT t in
        let place : q ≡ r + 1 = at ∙ rw t refl in
        rw (eq-eqb (node ns r).type ELEMENT kind)
        (named-as r (subst (Standing table notes tops path) place standing) below (rw kind refl) r below (rw kind refl)).0

    pub attribute-is : eqb (word table r TYPE) ELEMENT ≡ false → eqb (word table r TYPE) ATTRIBUTE ≡ true → ((node ns r).parent ≡ NONE → ⊥) → attribute_settled notes tops path r ≡ means ns r
    unfolding means attribute_means up
    attribute-is t u owned =
        let kind : (node ns r).type ≡ ATTRIBUTE = type-word table pool r below ∙ eqb-true (word table r TYPE) ATTRIBUTE u in
        let o = owner-element ns (length pool) r (is-accepted.row r (row_within below)) (rw kind refl) owned in
        let parent = parent-word table pool r below in
        let row : r + 1 - 1 ≡ r = omega arith in
        let less : word table r PARENT < r = subst (λ (k : ℕ). k < r) parent o.0 in
        let place : q ≡ (node ns r).parent + 1 = at ∙ rw (t, row, lt-ltb (word table r PARENT) r less, parent) refl in
        rw (ne_eqb (node ns r).type ELEMENT (λ z. omega (arith, kind)))
        (named-as (node ns r).parent (subst (Standing table notes tops path) place standing) (omega (arith, o.0)) o.1 r below (rw kind refl)).1

  module _ (flags : List ℕ) (q : ℕ) (standing : Standing table notes tops path q) (r : ℕ) (below : r < row_count table) (at : is_named table flags r ≡ true → q ≡ place_of table r) where
    unsettled-is : is_unsettled table notes tops path flags r ≡ unmeant ns flags r
    unfolding is_bound
    unsettled-is =
        let type = type-word table pool r below in
        let parent = parent-word table pool r below in
        by_cases (eqb (get_or flags r 0) 1)
        (λ f.
        by_cases (eqb (word table r TYPE) ELEMENT)
        (λ t. rw (f, type, t) (ap not (element-is q standing r below (at (rw (f, t) refl)) t)))
        (λ t.
        by_cases (eqb (word table r TYPE) ATTRIBUTE)
        (λ u.
        by_cases (eqb (word table r PARENT) NONE)
        (λ o. rw (f, type, parent, t, u, o) refl)
        (λ o. rw (f, type, parent, t, u, o) (ap not (attribute-is q standing r below (at (rw (f, t, u, o) refl)) t u (λ z. eqb-false (word table r PARENT) NONE o (sym parent ∙ z))))))
        (λ u. rw (f, type, t, u) refl)))
        (λ f. rw f refl)

    pub unsettled-told : {is : Bool} → is ≡ is_unsettled table notes tops path flags r → is ≡ unmeant ns flags r
    unsettled-told told = told ∙ unsettled-is

-- The loop that begins at row `first` has come to row r.
pub record Passing (table notes tops₀ path₀ flags : List ℕ) (first : ℕ) (tops path : List ℕ) (position r : ℕ) : Type 0 where
  pub untouched : Untouched path₀ path
  pub standing : Standing table notes tops path position
  pub low : position ≤ row_count table
  pub before : (pool : List ℕ) → Walkable table pool notes tops₀ path₀ → NoneBefore (unmeant (nodes table pool) flags) (row_count table) first → NoneBefore (unmeant (nodes table pool) flags) (row_count table) r
