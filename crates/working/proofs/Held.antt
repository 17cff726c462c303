-- What good buffers hold, read off them.
-- Assumes nothing.
use Prim.Native.Nat.{ℕ, ◌+◌, ◌-◌, ◌*◌, ◌≤◌, ◌<◌}
use mathlib.Core.Path.{◌≡◌, refl, sym, ◌∙◌, ap, subst}
use mathlib.Core.List.{List}
use native.Mathlib.Omega.{arith}
use lib.ListN.{length, take}
use Rattle.rules.specs.Table.{WIDTH, TYPE, PARENT, MAKER, Node, nodes, node, word, row_count}
use Rattle.rules.specs.Lookups.{scope_at}
use Rattle.rules.specs.Normalization.{State}
use Rattle.rules.proofs.Table.{word-words}
use Rattle.rules.proofs.Passable.{passable}
use Rattle.notes.specs.Notes.{PREFIX, note_at}
use Rattle.numbers.specs.Noted.{NodeNumbered}
use Rattle.stacks.specs.Scopes.{nearest}
use Rattle.stacks.specs.Stacks.{PREFIXES, top_at, prefix_at, value_at}
use Rattle.scopes.specs.Standing as standing
use Rattle.scopes.specs.Standing.{Ready}
use Rattle.bindings.specs.Spelled.{Here, Scoped}
use Rattle.bindings.proofs.Held.{top_within, scope-here}
use Rattle.bindings.specs.Asking.{Asked}
use Rattle.buffers.proofs.Meaning.{count-rows, rows-meant}
use Rattle.working.specs.Working.{Good, Lawful, Element}
use Rattle.changes.proofs.Writes.{counted}

module _ {table pool notes tops path : List ℕ} {rows bytes names limit q : ℕ} {s : State} (g : Good table pool notes tops path rows bytes names limit q s) where
  abbrev pub part : List ℕ
  part = take (WIDTH * rows) table

  pub rows_fit : WIDTH * rows ≤ length table
  rows_fit = omega (arith, g.lent.room.row_room, g.lent.room.table_room)

  pub count : length s.rows ≡ rows
  count = count-rows table rows s.rows g.words rows_fit

  pub part_count : row_count part ≡ rows
  part_count = counted table rows rows_fit

  pub type-word : (r : ℕ) → r < rows → word part r TYPE ≡ (node s.rows r).type
  type-word r below = ap (λ (l : List ℕ). word l r TYPE) g.words ∙ word-words s.rows r TYPE (rw count below) (omega arith)

  pub parent-word : (r : ℕ) → r < rows → word part r PARENT ≡ (node s.rows r).parent
  parent-word r below = ap (λ (l : List ℕ). word l r PARENT) g.words ∙ word-words s.rows r PARENT (rw count below) (omega arith)

  pub maker-word : (r : ℕ) → r < rows → word part r MAKER ≡ (node s.rows r).maker
  maker-word r below = ap (λ (l : List ℕ). word l r MAKER) g.words ∙ word-words s.rows r MAKER (rw count below) (omega arith)

  pub rows-held : Lawful s → nodes part (take bytes pool) ≡ s.rows
  rows-held l = rows-meant table rows s.rows g.words (take bytes pool) (rw g.held l.fit)

  abbrev pub spelling : ℕ → List ℕ
  spelling = g.numbers.spelling

  pub noted-row : (r : ℕ) → r < rows → NodeNumbered notes spelling names r (node s.rows r)
  noted-row r below = g.numbers.rows r (rw count below)

  pub path_room : standing.Room part notes tops path
  path_room =
      record {
        small = rw part_count (omega (arith, g.lent.room.row_room, g.lent.room.limit_small));
        noted = rw part_count (omega (arith, g.lent.noted, g.lent.room.row_room));
        placed = rw part_count (omega (arith, g.lent.placed, g.lent.room.row_room));
        prefixes = λ d some? low. omega (arith, (noted-row (d - 1) (let most : d ≤ rows = rw part_count at low in omega arith)).local.known, g.lent.topped);
        values = λ d some? low. omega (arith, (noted-row (d - 1) (let most : d ≤ rows = rw part_count at low in omega arith)).value.known, g.lent.topped);
      }

  pub ready : Ready part notes tops path
  ready = record { room = path_room; linked = subst (standing.Linked part notes) (sym part_count) g.linked }

  -- A position on top is one of the rows, or none.
  pub top_below : (n : ℕ) → top_at tops PREFIXES n ≤ rows
  top_below n = subst (λ (k : ℕ). top_at tops PREFIXES n ≤ k) part_count (top_within part notes tops path q g.standing n)

  pub asked : (r : ℕ) → r < rows → Asked notes tops path r
  asked r below =
      record {
        row = omega (arith, g.lent.noted, g.lent.room.row_room);
        prefix = omega (arith, (noted-row r below).prefix.known, g.lent.topped);
        xml = omega (arith, g.lent.placed);
        top = omega (arith, top_below (note_at notes r PREFIX), g.lent.noted, g.lent.room.row_room);
      }

-- What is in scope at an element, by numbers.
module _ {table pool notes tops path : List ℕ} {rows bytes names limit e : ℕ} {s : State} (g : Good table pool notes tops path rows bytes names limit (e + 1) s) (el : Element s e) where
  abbrev pub row : ℕ → Node
  row d = node s.rows (d - 1)

  pub element-below : e < rows
  element-below = subst (λ (n : ℕ). e < n) (count g) el.within

  abbrev pub scoped : Scoped (part g) notes tops path s.rows (spelling g) names e
  scoped =
      record {
        pool = take bytes pool;
        rows = rows-held g el.lawful;
        small = (path_room g).small;
        tree = el.lawful.tree;
        passable = el.lawful.passable;
        within = rw (part_count g) element-below;
        kind = rw el.kind refl;
        spelled = g.numbers.spelled;
        numbered = g.numbers.rows;
        standing = g.standing;
      }

  pub here : Here (spelling g) names (prefix_at notes) (value_at notes) row g.standing.scope (scope_at s.rows e)
  here = scope-here scoped

  -- A top, as what is nearest on the stack.
  pub top-is : (n : ℕ) → top_at tops PREFIXES n ≡ nearest (prefix_at notes) g.standing.scope n
  top-is n = g.standing.on.prefixes.tops n
