-- What the working buffers hold when the first element is taken up, and at the end.
-- Assumes nothing.
use Prim.Native.Nat.{ℕ, ◌+◌, ◌-◌, ◌*◌, ◌≤◌, ◌<◌, min, zero-le}
use mathlib.Core.Path.{◌≡◌, refl, sym, ◌∙◌, ap, subst}
use mathlib.Core.List.{List, ◌++◌}
use native.Mathlib.Nat.{le_refl}
use native.Mathlib.Omega.{arith}
use lib.ListN.{length, take, drop, replicate, length-append, length-drop, length-replicate}
use lib.Seq.{length-take-le}
use lib.Dec.{ltb}
use borrow.Author.Tests.{ltb-true, ltb-false}
use Rattle.rules.specs.Table.{WIDTH, MOST_ROWS, nodes, row_count}
use Rattle.rules.specs.Normalization.{State, normalize_rows, normal_form}
use Rattle.rules.proofs.Lists.{by_cases}
use Rattle.rules.proofs.Table.{length-nodes}
use Rattle.rules.proofs.Accepted.{Accepted}
use Rattle.rules.proofs.Bounds.{rows_grow}
use Rattle.notes.specs.Notes.{LATEST, PREVIOUS, FIRST, note_at, HasNotes}
use Rattle.attributes.specs.Following.{LinkedFrom, SameBefore}
use Rattle.stacks.specs.Stacks.{TOPS}
use Rattle.scopes.specs.Standing.{Linked}
use Rattle.scopes.proofs.Changes.{standing-start, linked-changed}
use Rattle.buffers.proofs.Meaning.{copied}
use Rattle.table_size.specs.Small.{FEW_ROWS}
use Rattle.working.specs.Working.{Room, Spare, meant}
use Rattle.working.proofs.Changed.{numbers-relinked}
use Rattle.element_steps.specs.Buffers.{Working, Finished}
use Rattle.elements.proofs.Start.{working-start}
use Rattle.elements.proofs.Count.{rows-most}
use Rattle.normal_form.specs.Result.{form_of}
use Rattle.input.specs.Lent.{Enough, Blank}
use Rattle.normal_form.specs.Lent.{Topped, Ready, Lent}
use Rattle.input.proofs.Input.{input-accepted}
use Rattle.input.proofs.Numbered.{zeros}

-- Linking the attributes keeps the links of the declarations.
pub declarations-kept : (table notes notes' : List ℕ) → Linked table notes (row_count table) → SameBefore FIRST notes notes' → Linked table notes' (row_count table)
declarations-kept table notes notes' linked same =
    linked-changed table table notes notes' (row_count table) linked (le_refl (row_count table)) (record { count = le_refl (row_count table); types = λ r below. refl; parents = λ r below. refl })
    (λ e. same e LATEST (omega arith)) (λ r below. same r PREVIOUS (omega arith))

-- Room that is kept, and room for the rows that were counted.
pub enough-kept : {rows : ℕ} {notes notes' path path' : List ℕ} → Enough rows notes path → length notes' ≡ length notes → length path' ≡ length path → Enough rows notes' path'
enough-kept enough same same' = record { each = λ n small twice. let e = enough.each n small twice in (rw same e.0, rw same' e.1) }

pub enough-read : {rows count : ℕ} {notes path : List ℕ} → count ≡ rows → Enough rows notes path → Enough count notes path
enough-read {notes = notes} {path = path} is enough = subst (λ (n : ℕ). Enough n notes path) (sym is) enough

pub topped-read : {rows count : ℕ} {tops : List ℕ} → count ≡ rows → Topped rows tops → Topped count tops
topped-read {tops = tops} is topped = subst (λ (n : ℕ). Topped n tops) (sym is) topped

-- Zeros are cleared tops.
zeros-topped : (rows size : ℕ) → (rows ≤ MOST_ROWS → (n : ℕ) → n ≤ MOST_ROWS → n ≤ 2 * rows → TOPS * (2 * rows + 1 + n) + TOPS ≤ size) → Topped rows (replicate size 0)
zeros-topped rows size enough = record { each = λ few n small twice. rw (length-replicate {A = ℕ} size 0) (enough few n small twice); clear = zeros size }

pub topped-small : (rows : ℕ) → rows ≤ FEW_ROWS → Topped rows (replicate (TOPS * (4 * FEW_ROWS + 2)) 0)
topped-small rows less = zeros-topped rows (TOPS * (4 * FEW_ROWS + 2)) (λ few n small twice. omega arith)

pub topped-any : (rows : ℕ) → Topped rows (replicate (TOPS * (3 * MOST_ROWS + 2)) 0)
topped-any rows = zeros-topped rows (TOPS * (3 * MOST_ROWS + 2)) (λ few n small twice. omega arith)

-- The first rows of a table are so many.
pub blank_part : (words : List ℕ) (rows : ℕ) {notes path : List ℕ} → WIDTH * rows ≤ length words → Blank rows notes path → Blank (row_count (take (WIDTH * rows) words)) notes path
blank_part words rows {notes} {path} fits blank =
    let part = length-take-le (WIDTH * rows) words fits in
    let same : rows ≡ row_count (take (WIDTH * rows) words) = omega arith in
    subst (λ (n : ℕ). Blank n notes path) same blank

module _ {table work notes path tops : List ℕ} {rows bytes names limit : ℕ} (ready : Ready table work notes path tops rows bytes names limit) where
  abbrev part : List ℕ
  part = take (WIDTH * rows) table

  abbrev front : List ℕ
  front = take bytes work

  pub part-fits : WIDTH * rows ≤ length table
  part-fits = omega (arith, ready.row_room, ready.table_room)

  front_fits : bytes ≤ length work
  front_fits = omega (arith, ready.pool_room)

  part_count : row_count part ≡ rows
  part_count = let l = length-take-le (WIDTH * rows) table part-fits in omega arith

  pub few : rows ≤ MOST_ROWS
  few = omega (arith, ready.row_room, ready.limit_small)

  pub part-few : row_count part ≤ MOST_ROWS
  part-few = omega (arith, part_count, few)

  pub part-noted : HasNotes notes (row_count part)
  part-noted = (ready.enough.each (row_count part) part-few (omega (arith, part_count))).0

  node-count : length (nodes part front) ≡ rows
  node-count = length-nodes part front ∙ part_count

  -- No more rows than this can come: the limit, or twice the rows.
  module _ {most : ℕ} (is : most ≡ min limit (2 * rows)) where
    room_most : Room table rows most
    room_most =
        record {
          row_room = omega (arith, ready.row_room);
          limit_small = omega (arith, ready.limit_small);
          table_room = rw is ready.table_room;
        }

    names-few : names + (most - rows) ≤ 2 * rows + 1 + most
    names-few = omega (arith, ready.prepared.few, part_count, room_most.row_room)

    spare : Spare tops rows names most
    spare =
        record {
          topped = omega (arith, names-few, ready.topped.each few most room_most.limit_small (omega arith));
          few = omega (arith, names-few, few, room_most.limit_small);
        }

    pub start-working :
        {linked : List ℕ} → length linked ≡ length notes → Linked part linked (row_count part) → LinkedFrom part linked (row_count part) 0
        → ((r k : ℕ) → k < LATEST → note_at linked r k ≡ note_at notes r k)
        → Working rows table work linked tops path rows bytes names most 0 0 (meant table work rows bytes)
    start-working {linked} same declarations attributes kept =
        let arrays = ready.enough.each most room_most.limit_small (omega arith) in
        working-start table work rows bytes most room_most front_fits (input-accepted part front ready.prepared.input)
        (ready.pool_room, ready.pool_small)
        (rw same arrays.0, arrays.1)
        spare
        (numbers-relinked (ready.prepared.numbers most room_most.limit_small arrays.1) linked kept)
        (subst (Linked part linked) part_count declarations)
        (subst (λ (n : ℕ). LinkedFrom part linked n 0) part_count attributes)
        (standing-start part linked tops path ready.topped.clear ready.prepared.unpushed)

    -- So the lower limit is exceeded where the limit is.
    module _ {t p : List ℕ} {n k : ℕ} {made : State} (twice : length made.rows ≤ 2 * rows) (finished : Finished t p most n k made) where
      within : n ≤ limit → n ≤ most
      within fits =
          by_cases (ltb most n)
          (λ more. absurd (omega (arith, finished.full (ltb-true most n more), ltb-true most n more, twice, is, fits)))
          (λ enough. ltb-false most n enough)

      lower-limit : Finished t p limit n k made
      lower-limit =
          record {
            full = λ more. omega (arith, more, is, twice, finished.full (omega (arith, more, is)));
            words = λ fits. finished.words (within fits);
            held = λ fits. finished.held (within fits);
            table_room = λ fits. finished.table_room (within fits);
            pool_room = λ fits. finished.pool_room (within fits);
          }

    pub start-finished : {t p : List ℕ} {n k : ℕ} → Finished t p most n k (normalize_rows rows rows (meant table work rows bytes)) → Finished t p limit n k (form_of table work rows bytes)
    unfolding normal_form
    start-finished {t} {p} {n} {k} made =
        let count = node-count in
        lower-limit (subst (λ (m : ℕ). length (form_of table work rows bytes).rows ≤ 2 * m) count (rows-most (nodes part front) front))
        (subst (λ (m : ℕ). Finished t p most n k (normalize_rows m m (meant table work rows bytes))) (sym count) made)

module _ {table pool out work notes path tops : List ℕ} {rows bytes names limit : ℕ} (lent : Lent table pool out work notes path tops rows bytes names limit) where
  tables : Accepted table pool
  tables = input-accepted table pool lent.prepared.input

  whole : length table ≡ WIDTH * row_count table
  whole = omega (arith, tables.size.whole)

  abbrev start : State
  start = record { rows = nodes table pool; pool = pool }

  -- More rows than are allowed at once.
  pub start-full : limit < rows → Finished out work limit (limit + 1) 0 (normal_form (nodes table pool) pool)
  unfolding normal_form normalize_rows
  start-full more =
      let n = length (nodes table pool) in
      record {
        full = λ _. omega (arith, lent.count, more, length-nodes table pool, rows_grow n start 0 n zero-le);
        words = λ fits. absurd (omega (arith, fits));
        held = λ fits. absurd (omega (arith, fits));
        table_room = λ fits. absurd (omega (arith, fits));
        pool_room = λ fits. absurd (omega (arith, fits));
      }

  pub copy-pool-fits : length pool ≤ length work
  copy-pool-fits = omega (arith, lent.size, tables.size.pool_bound)

  module _ (enough : rows ≤ limit) where
    pub copy-table-fits : length table ≤ length out
    copy-table-fits = omega (arith, whole, lent.count, enough, lent.limited.1)

    module _ {out' work' : List ℕ} (copied-out : out' ≡ table ++ drop (length table) out) (copied-work : work' ≡ pool ++ drop (length pool) work) where
      pub out-length : length out' ≡ length out
      out-length = ap length copied-out ∙ simp (length-append, length-drop) (omega (arith, copy-table-fits))

      pub work-length : length work' ≡ length work
      work-length = ap length copied-work ∙ simp (length-append, length-drop) (omega (arith, copy-pool-fits))

      table-part : take (WIDTH * rows) out' ≡ table
      table-part = ap (λ (n : ℕ). take n out') (ap (λ (n : ℕ). WIDTH * n) lent.count ∙ sym whole) ∙ ap (take (length table)) copied-out ∙ copied table out

      pool-part : take bytes work' ≡ pool
      pool-part = ap (λ (n : ℕ). take n work') lent.held ∙ ap (take (length pool)) copied-work ∙ copied pool work

      -- The copies are what `make_result` starts from, and its result is that of the table and the pool.
      pub copies-ready : Ready out' work' notes path tops rows bytes names limit
      copies-ready =
          record {
            row_room = enough;
            limit_small = lent.limited.0;
            table_room = rw out-length (omega (arith, lent.limited.1));
            pool_room = rw (work-length ∙ lent.size) (omega (arith, lent.held, tables.size.pool_bound, enough, lent.limited.0));
            pool_small = rw (work-length ∙ lent.size) (omega arith);
            enough = lent.enough;
            topped = lent.topped;
            prepared = rw (table-part, pool-part) lent.prepared;
          }

      pub copies-finished : {t p : List ℕ} {n k : ℕ} → Finished t p limit n k (form_of out' work' rows bytes) → Finished t p limit n k (normal_form (nodes table pool) pool)
      copies-finished {t} {p} {n} {k} made =
          subst (Finished t p limit n k)
          (ap (λ (l : List ℕ). normal_form (nodes l (take bytes work')) (take bytes work')) table-part ∙ ap (λ (l : List ℕ). normal_form (nodes table l) l) pool-part)
          made
