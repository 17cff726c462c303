-- Good buffers after a move along the path, and after a write.
-- Assumes nothing.
use Prim.Native.Nat.{ℕ, ◌+◌, ◌-◌, ◌*◌, ◌≤◌, ◌<◌}
use mathlib.Core.Path.{◌≡◌, refl, sym, ◌∙◌, ap, ap₂, subst}
use mathlib.Core.List.{List, [], ◌∷◌, ◌++◌}
use native.Mathlib.Omega.{arith}
use lib.ListN.{length, get_or, take, set, length-set, length-append}
use lib.Seq.{length-take-le}
use lib.Dec.{eqb}
use borrow.Author.Tests.{eqb-true, eqb-false, lt-ltb}
use Rattle.rules.specs.Table.{WIDTH, TYPE, PARENT, PREFIX, URI, VALUE, MAKER, DECLARATION, Field, Node, node, words, words_of, word, row_count}
use Rattle.rules.specs.Lookups.{place}
use Rattle.rules.specs.Normalization.{State, new_declaration, with_value, with_prefix}
use Rattle.rules.proofs.Lists.{by_cases}
use Rattle.rules.proofs.Table.{word-words}
use Rattle.rules.proofs.Unique.{node-last}
use Rattle.rules.proofs.Scope.{SameCore, core-equal, node-append, node-set-same, node-set-other}
use Rattle.rows.specs.Reading.{place_at}
use Rattle.buffers.specs.Writes.{written, placed, declaration_words}
use Rattle.buffers.proofs.Meaning.{set-prefix-words, set-value-words, appended-words, appended as pool-appended}
use Rattle.buffers.proofs.Writes.{length-written}
use Rattle.notes.specs.Notes as noting
use Rattle.notes.specs.Notes.{NOTES, LATEST, PREVIOUS, note_at, noted}
use Rattle.notes.proofs.Laws.{length-noted, noted_other}
use Rattle.numbers.specs.Numbers.{Names}
use Rattle.scopes.specs.Rows.{owner_of, SameTree}
use Rattle.stacks.specs.Stacks.{Untouched}
use Rattle.scopes.specs.Standing.{Standing, Linked}
use Rattle.changes.specs.Changes.{noted_for, Named}
use Rattle.working.specs.Working.{Lent, Numbers, Good, SameAttributes, valued, prefixed, declared_for, end_field}
use Rattle.scopes.proofs.Changes.{standing-changed, linked-changed}
use Rattle.changes.proofs.Writes.{counted, written_as}
use Rattle.working.proofs.Held.{part, rows_fit, count, part_count, type-word, parent-word, maker-word}
use Rattle.working.proofs.Changed.{same-tree, numbers-prefixed, numbers-valued, numbers-appended, length-for, for-links, for-other}

-- One row changes, and keeps its type and parent.
pub core-set : (ns : List Node) (a : ℕ) (m : Node) → a < length ns → SameCore (node ns a) m → (r : ℕ) → r < length ns → SameCore (node ns r) (node (set ns a m) r)
core-set ns a m below same r less =
    by_cases (eqb r a)
    (λ q. rw (eqb-true r a q, node-set-same ns a m below) same)
    (λ q. core-equal (node-set-other ns a r m (eqb-false r a q)))

pub prefix-core : (n : Node) (f : Field) → SameCore n (with_prefix f n)
prefix-core n f = record { type = refl; parent = refl; local = refl; uri = refl; maker = refl }

value-core : (n : Node) (f : Field) → SameCore n (with_value f n)
value-core n f = record { type = refl; parent = refl; local = refl; uri = refl; maker = refl }

-- Numbers over a path whose other words moved.
numbers-moved : {ns : List Node} {notes path path' : List ℕ} {names limit : ℕ} → Numbers ns notes path names limit → Untouched path path' → Numbers ns notes path' names limit
numbers-moved {names = names} n same =
    record {
      spelling = n.spelling;
      spelled = n.spelled;
      rows = n.rows;
      xml = rw (same 0) n.xml;
      numbered = λ k low high. same k ∙ n.numbered k low high;
    }

-- The path stands elsewhere.
module _ {table pool notes tops path : List ℕ} {rows bytes names limit q : ℕ} {s : State} (g : Good table pool notes tops path rows bytes names limit q s) where
  pub good-moved :
      {tops' path' : List ℕ} {q' : ℕ} → length tops' ≡ length tops → length path' ≡ length path → Untouched path path' → Standing (part g) notes tops' path' q'
      → Good table pool notes tops' path' rows bytes names limit q' s
  good-moved {tops'} {path'} ts ps same standing =
      record {
        lent =
            record {
              room = g.lent.room;
              bytes_room = g.lent.bytes_room;
              noted = g.lent.noted;
              placed = rw ps g.lent.placed;
              topped = rw ts g.lent.topped;
            };
        words = g.words;
        held = g.held;
        numbers = numbers-moved g.numbers same;
        linked = g.linked;
        standing = standing;
      }

  -- The room after writes that keep the lengths.
  lent-kept : {table' pool' notes' : List ℕ} {bytes' : ℕ} → length table' ≡ length table → length notes' ≡ length notes → bytes' ≤ length pool' → Lent table' pool' notes' tops path rows bytes' names limit
  lent-kept ts ns fits =
      record {
        room = record { row_room = g.lent.room.row_room; limit_small = g.lent.room.limit_small; table_room = rw ts g.lent.room.table_room };
        bytes_room = fits;
        noted = rw ns g.lent.noted;
        placed = g.lent.placed;
        topped = g.lent.topped;
      }

  -- Row a has another prefix, which has a number, over a pool that may have grown.
  module _ (a : ℕ) (below : a < rows) (f : Field) (x : ℕ) (is : Names g.numbers.spelling names x f.bytes) (new : List ℕ)
      {table' notes' pool' : List ℕ} {bytes' : ℕ} (made : table' ≡ placed table a PREFIX (place f)) (number : notes' ≡ noted notes a noting.PREFIX x)
      (held : take bytes' pool' ≡ s.pool ++ new) (fits : bytes' ≤ length pool') (low : q ≤ rows) where
    pub good-prefixed : Good table' pool' notes' tops path rows bytes' names limit q (prefixed a f new s)
    good-prefixed =
        let inside : a < length s.rows = rw (count g) below in
        let ms = set s.rows a (with_prefix f (node s.rows a)) in
        let is-words : take (WIDTH * rows) table' ≡ words ms = ap (take (WIDTH * rows)) made ∙ set-prefix-words table rows s.rows g.words (rows_fit g) a below f in
        let size : length notes' ≡ length notes = ap length number ∙ length-noted notes a noting.PREFIX x in
        let tree : SameTree (part g) (take (WIDTH * rows) table') =
        same-tree s.rows ms g.words is-words (rw length-set (omega arith)) (core-set s.rows a (with_prefix f (node s.rows a)) inside (prefix-core (node s.rows a) f)) in
        let tables : length table' ≡ length table = ap length made ∙ simp length-set in
        let back : row_count (take (WIDTH * rows) table') ≡ rows = counted table' rows (omega (arith, rows_fit g)) in
        let kept : (r k : ℕ) → k < NOTES → (k ≡ noting.PREFIX → ⊥) → note_at notes' r k ≡ note_at notes r k =
        λ r k i other. ap (λ (l : List ℕ). note_at l r k) number ∙ noted_other notes a noting.PREFIX x r k (omega arith) i (λ z w. other w) in
        record {
          lent = lent-kept tables size fits;
          words = is-words;
          held = held;
          numbers = subst (λ (l : List ℕ). Numbers ms l path names limit) (sym number) (numbers-prefixed g.numbers a inside (rw (count g) (omega (arith, g.lent.noted, g.lent.room.row_room))) f x is);
          linked =
              linked-changed (part g) (take (WIDTH * rows) table') notes notes' rows g.linked (omega (arith, part_count g)) tree
              (λ e. kept e LATEST (omega arith) (λ z. omega arith)) (λ r less. kept r PREVIOUS (omega arith) (λ z. omega arith));
          standing =
              standing-changed (part g) (take (WIDTH * rows) table') notes notes' tops path q g.standing tree (omega (arith, part_count g)) (λ d more less. absurd (omega (arith, part_count g, back))) (omega arith)
              (λ d some? less own. (kept (d - 1) noting.LOCAL_NAME (omega arith) (λ z. omega arith), kept (d - 1) noting.VALUE (omega arith) (λ z. omega arith)));
        }

  -- The owner of declaration d, by its words.
  pub owner-is : (d e : ℕ) → d < rows → (node s.rows d).type ≡ DECLARATION → (node s.rows d).parent ≡ e → e < d → owner_of (part g) (d + 1) ≡ e
  unfolding owner_of
  owner-is d e below kind owner earlier =
      let back : d + 1 - 1 ≡ d = omega arith in
      rw (back, type-word g d below ∙ kind, parent-word g d below ∙ owner, lt-ltb e d earlier) refl

  -- Declaration d of row e has another value, which has a number, while the path stands outside e.
  module _ (d e : ℕ) (below : d < rows) (kind : (node s.rows d).type ≡ DECLARATION) (owner : (node s.rows d).parent ≡ e) (earlier : e < d)
      (f : Field) (x : ℕ) (is : Names g.numbers.spelling names x f.bytes) {table' notes' : List ℕ} (made : table' ≡ placed table d VALUE (place f))
      (number : notes' ≡ noted notes d noting.VALUE x) (low : q ≤ e) where
    pub good-valued : Good table' pool notes' tops path rows bytes names limit q (valued d f s)
    good-valued =
        let inside : d < length s.rows = rw (count g) below in
        let ms = set s.rows d (with_value f (node s.rows d)) in
        let is-words : take (WIDTH * rows) table' ≡ words ms = ap (take (WIDTH * rows)) made ∙ set-value-words table rows s.rows g.words (rows_fit g) d below f in
        let size : length notes' ≡ length notes = ap length number ∙ length-noted notes d noting.VALUE x in
        let tree : SameTree (part g) (take (WIDTH * rows) table') =
        same-tree s.rows ms g.words is-words (rw length-set (omega arith)) (core-set s.rows d (with_value f (node s.rows d)) inside (value-core (node s.rows d) f)) in
        let tables : length table' ≡ length table = ap length made ∙ simp length-set in
        let back : row_count (take (WIDTH * rows) table') ≡ rows = counted table' rows (omega (arith, rows_fit g)) in
        let own = owner-is d e below kind owner earlier in
        let kept : (r k : ℕ) → k < NOTES → (r ≡ d → k ≡ noting.VALUE → ⊥) → note_at notes' r k ≡ note_at notes r k =
        λ r k i other. ap (λ (l : List ℕ). note_at l r k) number ∙ noted_other notes d noting.VALUE x r k (omega arith) i other in
        record {
          lent = lent-kept tables size g.lent.bytes_room;
          words = is-words;
          held = g.held;
          numbers = subst (λ (l : List ℕ). Numbers ms l path names limit) (sym number) (numbers-valued g.numbers d inside (rw (count g) (omega (arith, g.lent.noted, g.lent.room.row_room))) kind f x is);
          linked =
              linked-changed (part g) (take (WIDTH * rows) table') notes notes' rows g.linked (omega (arith, part_count g)) tree
              (λ r. kept r LATEST (omega arith) (λ z w. omega arith)) (λ r less. kept r PREVIOUS (omega arith) (λ z w. omega arith));
          standing =
              standing-changed (part g) (take (WIDTH * rows) table') notes notes' tops path q g.standing tree (omega (arith, part_count g)) (λ p more less. absurd (omega (arith, part_count g, back))) (omega arith)
              (λ p some? less outer. (
                kept (p - 1) noting.LOCAL_NAME (omega arith) (λ z w. omega arith),
                kept (p - 1) noting.VALUE (omega arith) (λ z w. let same : p ≡ d + 1 = omega arith in let there : owner_of (part g) p ≡ e = ap (owner_of (part g)) same ∙ own in omega arith),
              ));
        }

-- The places of a row's prefix and URI, read from its words.
module _ (ns : List Node) (r : ℕ) (within : r < length ns) where
  pub place-of-words : (k : ℕ) → k + 1 < WIDTH → place_at (words ns) r k ≡ record { offset = record { 0 = get_or (words_of (node ns r)) k 0 }; length = get_or (words_of (node ns r)) (k + 1) 0 }
  place-of-words k inside =
      ap₂ (λ (o l : ℕ). record { offset = record { 0 = o }; length = l }) (word-words ns r k within (omega arith)) (word-words ns r (k + 1) within inside)

same_self : (table : List ℕ) → SameTree table table
same_self table = record { count = omega arith; types = λ r below. refl; parents = λ r below. refl }

-- A declaration for row r is written behind the rows, and not linked yet; the path stands as it did, at q.
pub record Appended (table pool notes tops path before : List ℕ) (rows bytes names limit q e : ℕ) (made : State) : Type 0 where
  pub lent : Lent table pool notes tops path (rows + 1) bytes names limit
  pub words : take (WIDTH * (rows + 1)) table ≡ words made.rows
  pub held : take bytes pool ≡ made.pool
  pub numbers : Numbers made.rows notes path names limit
  pub linked : Linked (take (WIDTH * (rows + 1)) table) notes rows
  pub old : Linked before notes rows
  pub there : Standing before notes tops path q
  pub tree : SameTree before (take (WIDTH * (rows + 1)) table)
  pub total : row_count (take (WIDTH * (rows + 1)) table) ≡ rows + 1
  pub few : row_count before ≡ rows
  pub owner : owner_of (take (WIDTH * (rows + 1)) table) (rows + 1) ≡ e
  pub type : word (take (WIDTH * (rows + 1)) table) rows TYPE ≡ DECLARATION
  pub parent : word (take (WIDTH * (rows + 1)) table) rows PARENT ≡ e

module _ {table pool notes tops path : List ℕ} {rows bytes names limit q : ℕ} {s : State} (g : Good table pool notes tops path rows bytes names limit q s)
    (e r : ℕ) (below : r < rows) (earlier : e < rows) (more : rows < limit) {table' notes' : List ℕ}
    (made : table' ≡ written table (WIDTH * rows) (declaration_words e (word (part g) r MAKER) (place_at (part g) r PREFIX) (place_at (part g) r URI))) (number : notes' ≡ noted_for notes rows r)
    (low : q ≤ rows) where
  abbrev declaration : Node
  declaration = new_declaration e (node s.rows r).maker (node s.rows r).prefix (node s.rows r).uri

  pub appended : Appended table' pool notes' tops path (part g) rows bytes names limit q e (declared_for e r s)
  unfolding owner_of
  appended =
      let ns = s.rows in
      let ms = ns ++ declaration ∷ [] in
      let part' = take (WIDTH * (rows + 1)) table' in
      let inside : r < length ns = rw (count g) below in
      let read : (k : ℕ) → place_at (part g) r k ≡ place_at (words ns) r k = λ k. ap (λ (l : List ℕ). place_at l r k) g.words in
      let prefix : place_at (part g) r PREFIX ≡ place (node ns r).prefix = read PREFIX ∙ place-of-words ns r inside PREFIX (omega arith) in
      let uri : place_at (part g) r URI ≡ place (node ns r).uri = read URI ∙ place-of-words ns r inside URI (omega arith) in
      let room : WIDTH * rows + WIDTH ≤ length table = omega (arith, g.lent.room.table_room) in
      let made-words : table' ≡ written table (WIDTH * rows) (words_of declaration) = written_as table (WIDTH * rows) e made (maker-word g r below) prefix uri in
      let is-words : part' ≡ words ms = ap (take (WIDTH * (rows + 1))) made-words ∙ appended-words table rows ns g.words room declaration in
      let tables : length table' ≡ length table = ap length made-words ∙ length-written table (WIDTH * rows) (words_of declaration) room in
      let total : row_count part' ≡ rows + 1 = counted table' (rows + 1) (omega (arith, g.lent.room.table_room)) in
      let tree : SameTree (part g) part' = same-tree ns ms g.words is-words (rw length-append (omega arith)) (λ q less. core-equal (node-append ns (declaration ∷ []) q less)) in
      let note-room : NOTES * rows + NOTES ≤ length notes = omega (arith, g.lent.noted) in
      let size : length notes' ≡ length notes = ap length number ∙ length-for g.numbers rows r note-room in
      let link : (q j : ℕ) → LATEST ≤ j → j < NOTES → note_at notes' q j ≡ note_at notes q j = λ q j i l. ap (λ (x : List ℕ). note_at x q j) number ∙ for-links g.numbers rows r note-room q j i l in
      let other : (q j : ℕ) → j < NOTES → (q ≡ rows → ⊥) → note_at notes' q j ≡ note_at notes q j = λ q j i apart. ap (λ (x : List ℕ). note_at x q j) number ∙ for-other g.numbers rows r note-room q j i apart in
      let last : rows < length ms = rw length-append (omega (arith, count g)) in
      let node-new : node ms rows ≡ declaration = ap (node ms) (sym (count g)) ∙ node-last ns declaration in
      let type : word part' rows TYPE ≡ DECLARATION = ap (λ (l : List ℕ). word l rows TYPE) is-words ∙ word-words ms rows TYPE last (omega arith) ∙ ap (λ (n : Node). n.type) node-new in
      let parent : word part' rows PARENT ≡ e = ap (λ (l : List ℕ). word l rows PARENT) is-words ∙ word-words ms rows PARENT last (omega arith) ∙ ap (λ (n : Node). n.parent) node-new in
      let back : rows + 1 - 1 ≡ rows = omega arith in
      record {
        lent =
            record {
              room = record { row_room = omega arith; limit_small = g.lent.room.limit_small; table_room = rw tables g.lent.room.table_room };
              bytes_room = g.lent.bytes_room;
              noted = rw size g.lent.noted;
              placed = g.lent.placed;
              topped = g.lent.topped;
            };
        words = is-words;
        held = g.held;
        numbers =
            subst (λ (l : List ℕ). Numbers ms l path names limit) (sym (number ∙ ap (λ (n : ℕ). noted_for notes n r) (sym (count g))))
            (numbers-appended g.numbers e r inside (rw (count g) note-room));
        linked =
            linked-changed (part g) part' notes notes' rows g.linked (omega (arith, part_count g)) tree (λ q. link q LATEST (omega arith) (omega arith))
            (λ q less. link q PREVIOUS (omega arith) (omega arith));
        old =
            linked-changed (part g) (part g) notes notes' rows g.linked (omega (arith, part_count g)) (same_self (part g)) (λ q. link q LATEST (omega arith) (omega arith))
            (λ q less. link q PREVIOUS (omega arith) (omega arith));
        there =
            standing-changed (part g) (part g) notes notes' tops path q g.standing (same_self (part g)) (omega (arith, part_count g)) (λ d over under. absurd (omega arith)) (omega arith)
            (λ d some? less own. (
              other (d - 1) noting.LOCAL_NAME (omega arith) (λ z. omega (arith, part_count g)),
              other (d - 1) noting.VALUE (omega arith) (λ z. omega (arith, part_count g)),
            ));
        tree = tree;
        total = total;
        few = part_count g;
        owner = rw (back, type, parent, lt-ltb e rows earlier) refl;
        type = type;
        parent = parent;
      }

  -- What links of attributes are there, too.
  pub appended-attributes : SameAttributes notes notes'
  appended-attributes q j late inside = ap (λ (x : List ℕ). note_at x q j) number ∙ for-links g.numbers rows r (omega (arith, g.lent.noted)) q j (omega arith) inside

-- A name of a number stands at the end of the pool, and is row a's prefix.
module _ {table pool notes tops path : List ℕ} {rows bytes names limit q : ℕ} {s : State} (g : Good table pool notes tops path rows bytes names limit q s)
    (a : ℕ) (below : a < rows) (x : ℕ) (name : List ℕ) (is : Names g.numbers.spelling names x name) {table' pool' notes' : List ℕ} {grown : ℕ}
    (made : Named table table' pool pool' notes notes' a bytes grown x name) where
  pub good-named : bytes + length name ≤ length pool → q ≤ rows → Good table' pool' notes' tops path rows grown names limit q (prefixed a (end_field s name) name s)
  good-named room low =
      let size : bytes ≡ length s.pool = sym (ap length (sym g.held) ∙ length-take-le bytes pool (omega arith)) in
      good-prefixed g a below (end_field s name) x is name
      (made.prefix ∙ ap (λ (o : ℕ). placed table a PREFIX (record { offset = record { 0 = o }; length = length name })) size)
      made.numbered
      (ap₂ take made.size made.appended ∙ pool-appended pool bytes name room ∙ ap (λ (l : List ℕ). l ++ name) g.held)
      (rw (made.size, made.appended, length-written pool bytes name room) room)
      low

  pub named-attributes : SameAttributes notes notes'
  named-attributes r k late inside = ap (λ (l : List ℕ). note_at l r k) made.numbered ∙ noted_other notes a noting.PREFIX x r k (omega arith) inside (λ z w. omega arith)
