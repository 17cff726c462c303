-- An element's own declaration: the path leaves the element, the declaration is set or appended, and the path enters again.
-- Assumes nothing.
use Prim.Native.Nat.{ℕ, ◌+◌, ◌-◌, ◌*◌, ◌≤◌, ◌<◌}
use mathlib.Core.Path.{◌≡◌, refl, sym, ◌∙◌, ap, subst}
use mathlib.Core.List.{List}
use native.Mathlib.Omega.{arith}
use lib.ListN.{length, take, length-append}
use Rattle.rules.specs.Table.{WIDTH, MOST_ROWS, PREFIX, URI, VALUE, MAKER, Node, node, word, row_count}
use Rattle.rules.specs.Lookups.{place}
use Rattle.rules.specs.Normalization.{State, with_value}
use Rattle.rows.specs.Reading.{place_at}
use Rattle.buffers.specs.Writes.{written, placed, declaration_words}
use Rattle.notes.specs.Notes as noting
use Rattle.notes.specs.Notes.{NOTES, note_at, noted}
use Rattle.notes.proofs.Laws.{noted_other}
use Rattle.scopes.specs.Rows.{up}
use Rattle.stacks.specs.Stacks.{Untouched}
use Rattle.scopes.specs.Standing.{Standing, Linked, Relinked, Ready}
use Rattle.scopes.proofs.Reading.{up-falls}
use Rattle.rules.proofs.Scope.{node-set-other, node-append}
use Rattle.changes.specs.Changes.{noted_for}
use Rattle.working.specs.Working.{Good, AtElement, After, SameAttributes, valued, declared_for}
use Rattle.working.proofs.Held.{part, rows_fit, count, part_count, parent-word, noted-row, ready, element-below}
use Rattle.working.proofs.Steps.{good-moved, good-valued, place-of-words, Appended, appended, appended-attributes}
use Rattle.working.proofs.Declaring.{good-linked, relinked-attributes}

-- The row that element e lies in, by the words of two tables.
up-held :
    {table pool notes tops path table' pool' notes' tops' path' : List ℕ} {rows bytes names limit q rows' bytes' names' limit' q' : ℕ} {s s' : State}
    (g : Good table pool notes tops path rows bytes names limit q s) (g' : Good table' pool' notes' tops' path' rows' bytes' names' limit' q' s') (e : ℕ)
    → e < rows → e < rows' → (node s'.rows e).parent ≡ (node s.rows e).parent → up (part g') (e + 1) ≡ up (part g) (e + 1)
unfolding up
up-held g g' e below below' same =
    let back : e + 1 - 1 ≡ e = omega arith in
    rw (back, parent-word g' e below' ∙ same ∙ sym (parent-word g e below)) refl

-- What leaving and entering ask for.
abbrev pub Moves : List ℕ → List ℕ → List ℕ → List ℕ → ℕ → ℕ → Type 0
Moves words notes tops path position at = Ready words notes tops path × (((0 < position) × (position ≤ row_count words)) × Standing words notes tops path at)

module _ {table pool notes tops path : List ℕ} {rows bytes names limit e : ℕ} (h : AtElement table pool notes tops path rows bytes names limit e) where
  abbrev s : State
  s = h.state

  pub element-small : e < MOST_ROWS
  element-small = omega (arith, element-below h.good h.element, h.good.lent.room.row_room, h.good.lent.room.limit_small)

  pub element-rows : (e < rows) × (rows ≤ MOST_ROWS) × (WIDTH * rows ≤ length table) × (NOTES * rows ≤ length notes)
  element-rows = (
    element-below h.good h.element,
    omega (arith, h.good.lent.room.row_room, h.good.lent.room.limit_small),
    rows_fit h.good,
    omega (arith, h.good.lent.noted, h.good.lent.room.row_room),
  )

  pub append-room : rows < limit → ((e < rows) × (rows < MOST_ROWS)) × ((WIDTH * rows + WIDTH ≤ length table) × (NOTES * rows + NOTES ≤ length notes))
  append-room more = (
    (element-below h.good h.element, omega (arith, h.good.lent.room.limit_small)),
    (omega (arith, h.good.lent.room.table_room), omega (arith, h.good.lent.noted)),
  )

  pub append-table : rows < limit → WIDTH * (rows + 1) ≤ length table
  append-table more = omega (arith, h.good.lent.room.table_room)

  pub leaves : {here : ℕ} → here ≡ e + 1 → Moves (part h.good) notes tops path here here
  leaves is =
      subst (λ (q : ℕ). Moves (part h.good) notes tops path q q) (sym is)
      (ready h.good, ((omega arith, omega (arith, part_count h.good, element-below h.good h.element)), h.good.standing))

  -- The element's URI, as it was read.
  uri-place : place_at (part h.good) e URI ≡ place (node s.rows e).uri
  uri-place = ap (λ (l : List ℕ). place_at l e URI) h.good.words ∙ place-of-words s.rows e h.element.within URI (omega arith)

  module _ {here : ℕ} (is : here ≡ e + 1) {tops₁ path₁ : List ℕ} (ts : length tops₁ ≡ length tops) (ps : length path₁ ≡ length path) (same : Untouched path path₁)
      (left : Standing (part h.good) notes tops₁ path₁ (up (part h.good) here)) where
    outside : Good table pool notes tops₁ path₁ rows bytes names limit (up (part h.good) (e + 1)) s
    outside = good-moved h.good ts ps same (subst (λ (q : ℕ). Standing (part h.good) notes tops₁ path₁ (up (part h.good) q)) is left)

    falls : up (part h.good) (e + 1) ≤ e
    falls = omega (arith, up-falls (part h.good) (e + 1) (omega arith))

    -- set
    module _ (d : ℕ) (below : d < rows) (kind : (node s.rows d).type ≡ 13) (owner : (node s.rows d).parent ≡ e) {table₁ notes₁ : List ℕ}
        (made : table₁ ≡ placed table d VALUE (place_at (part h.good) e URI)) (number : notes₁ ≡ noted notes d noting.VALUE (note_at notes e noting.URI)) where
      earlier : e < d
      earlier = let t = (h.element.lawful.tree.owners d (rw (count h.good) below) kind).0 in omega (arith, t, owner)

      set-good : Good table₁ pool notes₁ tops₁ path₁ rows bytes names limit (up (part h.good) (e + 1)) (valued d (node s.rows e).uri s)
      set-good =
          good-valued outside d e below kind owner earlier (node s.rows e).uri (note_at notes e noting.URI) (noted-row outside e (element-below h.good h.element)).uri
          (made ∙ ap (placed table d VALUE) uri-place) number falls

      same_up : up (part set-good) (e + 1) ≡ up (part h.good) (e + 1)
      same_up =
          up-held h.good set-good e (element-below h.good h.element) (element-below h.good h.element)
          (ap (λ (n : Node). n.parent) (node-set-other s.rows d e (with_value (node s.rows e).uri (node s.rows d)) (λ z. omega (arith, earlier))))

      pub set-enters : Moves (take (WIDTH * rows) table₁) notes₁ tops₁ path₁ here (up (take (WIDTH * rows) table₁) here)
      set-enters =
          subst (λ (q : ℕ). Moves (take (WIDTH * rows) table₁) notes₁ tops₁ path₁ q (up (take (WIDTH * rows) table₁) q)) (sym is) (
            ready set-good,
            (
              (omega arith, omega (arith, part_count set-good, element-below h.good h.element)),
              subst (λ (q : ℕ). Standing (take (WIDTH * rows) table₁) notes₁ tops₁ path₁ q) (sym same_up) set-good.standing,
            ),
          )

      pub set-done :
          {tops₂ path₂ : List ℕ} → length tops₂ ≡ length tops₁ → length path₂ ≡ length path₁ → Untouched path₁ path₂ → Standing (take (WIDTH * rows) table₁) notes₁ tops₂ path₂ here
          → Good table₁ pool notes₁ tops₂ path₂ rows bytes names limit (e + 1) (valued d (node s.rows e).uri s)
      set-done {tops₂} {path₂} t p u entered = good-moved set-good t p u (subst (λ (q : ℕ). Standing (take (WIDTH * rows) table₁) notes₁ tops₂ path₂ q) is entered)

    -- appended
    module _ (more : rows < limit) {table₁ notes₁ : List ℕ}
        (made : table₁ ≡ written table (WIDTH * rows) (declaration_words e (word (part h.good) e MAKER) (place_at (part h.good) e PREFIX) (place_at (part h.good) e URI)))
        (number : notes₁ ≡ noted_for notes rows e) where
      abbrev below : e < rows
      below = element-below h.good h.element

      written_row : Appended table₁ pool notes₁ tops₁ path₁ (part h.good) rows bytes names limit (up (part h.good) (e + 1)) e (declared_for e e s)
      written_row = appended outside e e below below more made number (omega (arith, falls, below))

      abbrev now : List ℕ
      now = take (WIDTH * (rows + 1)) table₁

      pub links : ((row_count now ≤ MOST_ROWS) × (NOTES * row_count now ≤ length notes₁) × (rows < row_count now)) × Linked now notes₁ rows
      links = (
        (
          omega (arith, written_row.total, h.good.lent.room.limit_small),
          omega (arith, written_row.total, written_row.lent.noted),
          omega (arith, written_row.total),
        ),
        written_row.linked,
      )

      module _ (notes₂ : List ℕ) (ns : length notes₂ ≡ length notes₁) (linked : Linked now notes₂ (rows + 1)) (kept : Relinked notes₁ notes₂) where
        appended-good : Good table₁ pool notes₂ tops₁ path₁ (rows + 1) bytes names limit (up (part h.good) (e + 1)) (declared_for e e s)
        appended-good = good-linked written_row falls below ns linked kept

        appended-up : up now (e + 1) ≡ up (part h.good) (e + 1)
        appended-up =
            up-held h.good appended-good e below (omega (arith, below))
            (ap (λ (n : Node). n.parent) (node-append s.rows _ e h.element.within))

        pub append-enters : Moves now notes₂ tops₁ path₁ here (up now here)
        append-enters =
            subst (λ (q : ℕ). Moves now notes₂ tops₁ path₁ q (up now q)) (sym is) (
              ready appended-good,
              (
                (omega arith, omega (arith, written_row.total, below)),
                subst (λ (q : ℕ). Standing now notes₂ tops₁ path₁ q) (sym appended-up) appended-good.standing,
              ),
            )

        pub append-done :
            {tops₂ path₂ : List ℕ} → length tops₂ ≡ length tops₁ → length path₂ ≡ length path₁ → Untouched path₁ path₂ → Standing now notes₂ tops₂ path₂ here
            → After notes table₁ pool notes₂ tops₂ path₂ (rows + 1) bytes names limit (e + 1) (declared_for e e s)
        append-done {tops₂} {path₂} t p u entered =
            record {
              full = λ over. absurd (omega arith);
              good = λ fits. good-moved appended-good t p u (subst (λ (q : ℕ). Standing now notes₂ tops₂ path₂ q) is entered);
              spare = λ fits.
                  record {
                    topped = omega (arith, h.spare.topped, t, ts);
                    few = omega (arith, h.spare.few);
                  };
              attributes = λ r k late inside. relinked-attributes notes₁ notes₂ kept r k late inside ∙ appended-attributes outside e e below below more made number (omega (arith, falls, below)) r k late inside;
            }

pub valued-attributes : (notes notes' : List ℕ) (d x : ℕ) → notes' ≡ noted notes d noting.VALUE x → SameAttributes notes notes'
valued-attributes notes notes' d x made r k late inside =
    ap (λ (l : List ℕ). note_at l r k) made ∙ noted_other notes d noting.VALUE x r k (omega arith) inside (λ z w. omega arith)

-- Too many rows.
pub append-full : {table pool notes tops path : List ℕ} {rows bytes names limit e : ℕ} (h : AtElement table pool notes tops path rows bytes names limit e) → limit ≤ rows
    → After notes table pool notes tops path (limit + 1) bytes names limit (e + 1) (declared_for e e h.state)
append-full h full =
    record {
      full = λ over. rw (length-append, count h.good) (omega arith);
      good = λ fits. absurd (omega arith);
      spare = λ fits. absurd (omega arith);
      attributes = λ r k late inside. refl;
    }
