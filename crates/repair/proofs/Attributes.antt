-- Step 3 of an attribute, by what the path says.
-- Assumes nothing.
use Prim.Native.Nat.{ℕ, ◌+◌, ◌-◌, ◌*◌, ◌≤◌, ◌<◌}
use mathlib.Core.Path.{◌≡◌, refl, sym, ◌∙◌, ap, ap₂, subst}
use mathlib.Core.Bool.{Bool, true, false, ◌||◌}
use mathlib.Core.List.{List, [], ◌∷◌, ◌++◌, append-nil}
use native.Mathlib.Omega.{arith}
use lib.ListN.{length, take, set}
use lib.Seq.{set-get_or}
use lib.Dec.{eqb}
use borrow.Author.Tests.{eqb-true, eqb-false}
use Rattle.rules.specs.Lists.{any_of, is_empty, same_bytes, filtered}
use Rattle.rules.specs.Table.{WIDTH, MOST_ROWS, URI, LOCAL_NAME, ATTRIBUTE, xml_prefix, xml_uri, Field, Node, no_node, node, field_at, row_count}
use Rattle.rules.specs.Table as Table
use Rattle.rules.specs.Lookups.{place, is_declaration_of, own_declarations, declares, scope_at}
use Rattle.rules.specs.Normalization.{numbered_prefix, State, new_declaration, with_prefix, Repair, keep, take_declared, take_built_in, declare_own, make_numbered, new_bytes, new_prefix, new_rows, perform, repair_of, repair_attribute}
use Rattle.rules.proofs.Lists.{by_cases, true-not-false, both_true, both_false, either_left, either-right, any_of-append, filtered-append}
use Rattle.rules.proofs.Table.{node-nodes}
use Rattle.rules.proofs.Accepted.{NamespaceAccepted}
use Rattle.rules.proofs.Scope.{scope-split, above, own-prefix, node-set-same}
use Rattle.rules.proofs.Repairs.{is-element, empty-not-xml, above_kept, kept-attribute}
use Rattle.rules.proofs.Meaning.{perform-keep}
use Rattle.rules.proofs.Passable.{passable-node, spaced}
use Rattle.rows.specs.Reading.{place_at}
use Rattle.buffers.specs.Writes.{placed}
use Rattle.notes.specs.Notes as noting
use Rattle.notes.specs.Notes.{NOTES, note_at, noted}
use Rattle.notes.proofs.Laws.{noted_other}
use Rattle.numbers.specs.Numbers.{Names}
use Rattle.stacks.specs.Scopes.{nearest, serving, first, Each}
use Rattle.stacks.proofs.Each.{each_map}
use Rattle.scopes.proofs.Same.{serving-each}
use Rattle.scopes.specs.Rows.{scope_rows}
use Rattle.stacks.specs.Stacks.{TOPS, NUMBERED, under_at, prefix_at, value_at, On, Held}
use Rattle.scopes.proofs.Answers.{standing-alike, standing-held}
use Rattle.bindings.specs.Spelled.{Here, number_at}
use Rattle.bindings.specs.Asking.{top_of, agrees, element_settled, attribute_settled, Asked}
use Rattle.bindings.proofs.Scopes.{same_names}
use Rattle.bindings.proofs.Deciding as deciding
use Rattle.bindings.proofs.Free.{in_use, UsedBefore}
use Rattle.bindings.proofs.Held.{scope-positions}
use Rattle.changes.specs.Changes.{Named}
use Rattle.working.specs.Working.{Good, AtAttribute, AtUnserved, AfterAttribute, SameAttributes, end_field, prefixed, declared_for}
use Rattle.working.proofs.Held.{part, rows_fit, count, part_count, rows-held, noted-row, path_room, asked, element-below, row, here, top-is}
use Rattle.working.proofs.Steps.{good-prefixed, good-named, named-attributes, place-of-words}

first-each : (P : ℕ → Type 0) (l : List ℕ) → Each P l → 0 < first l → P (first l)
first-each P [] each some? = absurd (omega arith)
first-each P (d ∷ l) each some? = each.0

xml-room : (bytes size : ℕ) → bytes + 6 ≤ size → bytes + length xml_prefix ≤ size
unfolding xml_prefix
xml-room bytes size room = omega arith

module _ {table pool notes tops path : List ℕ} {rows bytes names limit free a : ℕ} (h : AtAttribute table pool notes tops path rows bytes names limit free a) where
  abbrev s : State
  s = h.state

  abbrev e : ℕ
  e = h.owner

  abbrev ns : List Node
  ns = s.rows

  abbrev n : Node
  n = node ns a

  pub attribute-below : a < rows
  attribute-below = subst (λ (k : ℕ). a < k) (count h.good) h.attribute.inside

  pub attribute-asked : Asked notes tops path a
  attribute-asked = asked h.good a attribute-below

  pub owned : (n.type ≡ ATTRIBUTE) × (n.parent ≡ e)
  owned =
      let both = both_true (eqb n.type ATTRIBUTE) (eqb n.parent e) h.attribute.owned in
      (eqb-true n.type ATTRIBUTE both.0, eqb-true n.parent e both.1)

  abbrev pub S : List Node
  S = scope_at ns e

  pub scope : Here h.good.numbers.spelling names (prefix_at notes) (value_at notes) (row h.good h.attribute.element) h.good.standing.scope S
  scope = here h.good h.attribute.element

  pub prefix : Names h.good.numbers.spelling names (note_at notes a noting.PREFIX) n.prefix.bytes
  prefix = (noted-row h.good a attribute-below).prefix

  pub uri : Names h.good.numbers.spelling names (note_at notes a noting.URI) n.uri.bytes
  uri = (noted-row h.good a attribute-below).uri

  pub named : NamespaceAccepted n
  named =
      let p = passable-node ns a h.attribute.element.lawful.passable h.attribute.inside in
      let t = spaced n (rw owned.0 refl) p.namespace in
      record {
        prefix_has_uri = λ bare. by_cases (is_empty n.prefix.bytes) (λ q. q) (λ q. let z : is_empty n.uri.bytes ≡ false = rw q at t.prefix_has_uri in absurd (true-not-false bare z));
        not_xmlns_uri = t.not_xmlns_uri;
        not_xmlns = t.not_xmlns;
        xml_means_xml = λ x. by_cases (same_bytes n.uri.bytes xml_uri) (λ q. q) (λ q. let z : true ≡ false = rw (x, q) at t.xml_means_xml in absurd (true-not-false (sym z) refl));
        element_xml = λ element. absurd (omega (arith, owned.0, element));
      }

  pub top : top_of notes tops a ≡ nearest (prefix_at notes) h.good.standing.scope (note_at notes a noting.PREFIX)
  top = top-is h.good h.attribute.element (note_at notes a noting.PREFIX)

  same-xml : same_bytes n.prefix.bytes xml_prefix ≡ eqb (note_at notes a noting.PREFIX) (under_at path NUMBERED 0)
  same-xml = same_names h.good.numbers.spelled prefix h.good.numbers.xml

  -- The attribute is as it should be.
  is-kept : attribute_settled notes tops path a ≡ true → repair_of S n ≡ keep
  unfolding attribute_settled element_settled
  is-kept is =
      let p = note_at notes a noting.PREFIX in
      let u = note_at notes a noting.URI in
      by_cases (eqb u 0)
      (λ q. deciding.attribute-bare scope n named prefix uri (eqb-true u 0 q))
      (λ q.
      let full = eqb-false u 0 q in
      by_cases (eqb p 0)
      (λ t. let z : false ≡ true = rw (q, t) at is in absurd (true-not-false z refl))
      (λ t.
      let both : (agrees notes tops a || eqb p (under_at path NUMBERED 0)) ≡ true = rw (q, t) at is in
      by_cases (agrees notes tops a)
      (λ m.
      deciding.attribute-equal scope n named prefix uri full (eqb-false p 0 t)
      (ap (number_at (value_at notes)) (sym top) ∙ eqb-true (number_at (value_at notes) (top_of notes tops a)) u m))
      (λ m. deciding.attribute-xml-kept scope n named prefix uri full (same-xml ∙ rw m at both))))

  -- It is not.
  pub record Unsettled : Type 0 where
    pub full : note_at notes a noting.URI ≡ 0 → ⊥
    pub differs : (note_at notes a noting.PREFIX ≡ 0 → ⊥) → number_at (value_at notes) (nearest (prefix_at notes) h.good.standing.scope (note_at notes a noting.PREFIX)) ≡ note_at notes a noting.URI → ⊥
    pub other : same_bytes n.prefix.bytes xml_prefix ≡ false

  pub unsettled : attribute_settled notes tops path a ≡ false → Unsettled
  unfolding attribute_settled element_settled
  unsettled is =
      let p = note_at notes a noting.PREFIX in
      let u = note_at notes a noting.URI in
      by_cases (eqb u 0)
      (λ q. let z : true ≡ false = rw q at is in absurd (true-not-false (sym z) refl))
      (λ q.
      by_cases (eqb p 0)
      (λ t.
      record {
        full = eqb-false u 0 q;
        differs = λ some?. absurd (some? (eqb-true p 0 t));
        other =
            ap (λ (b : List ℕ). same_bytes b xml_prefix) (sym prefix.spelled ∙ ap h.good.numbers.spelling (eqb-true p 0 t) ∙ h.good.numbers.spelled.empty) ∙ empty-not-xml;
      })
      (λ t.
      let both = both_false (agrees notes tops a) (eqb p (under_at path NUMBERED 0)) (rw (q, t) at is) in
      record {
        full = eqb-false u 0 q;
        differs = λ some? z. eqb-false (number_at (value_at notes) (top_of notes tops a)) u both.0 (ap (number_at (value_at notes)) top ∙ z);
        other = same-xml ∙ both.1;
      }))

  -- What performing a repair makes.
  performed : {r : Repair} → repair_of S n ≡ r → repair_attribute e a s ≡ perform e a r s
  unfolding repair_attribute
  performed q = rw (h.attribute.owned, q) refl

  made_kept : repair_of S n ≡ keep → repair_attribute e a s ≡ s
  made_kept q = performed q ∙ perform-keep e a s

  made-taken : (f : Field) → repair_of S n ≡ take_declared f → repair_attribute e a s ≡ prefixed a f [] s
  unfolding perform new_prefix new_rows new_bytes
  made-taken f q = performed q ∙ ap (λ (l : List Node). record { rows = l; pool = s.pool ++ [] }) (append-nil (set ns a (with_prefix f n)))

  made-built-in : (b : List ℕ) → repair_of S n ≡ take_built_in b → repair_attribute e a s ≡ prefixed a (end_field s b) b s
  unfolding perform new_prefix new_rows new_bytes
  made-built-in b q = performed q ∙ ap (λ (l : List Node). record { rows = l; pool = s.pool ++ b }) (append-nil (set ns a (with_prefix (end_field s b) n)))

  pub made-declared : repair_of S n ≡ declare_own → repair_attribute e a s ≡ declared_for e a s
  unfolding perform new_prefix new_rows new_bytes node
  made-declared q =
      performed q
      ∙ ap₂ (λ (l : List Node) (p : List ℕ). record { rows = l; pool = p })
      (ap (λ (l : List Node). l ++ new_declaration e n.maker n.prefix n.uri ∷ []) (set-get_or ns a no_node)) (append-nil s.pool)

  pub made-numbered : (b : List ℕ) → repair_of S n ≡ make_numbered b → repair_attribute e a s ≡ declared_for e a (prefixed a (end_field s b) b s)
  unfolding perform new_prefix new_rows new_bytes
  made-numbered b q =
      let m = with_prefix (end_field s b) n in
      performed q
      ∙ ap (λ (x : Node). record { rows = set ns a m ++ new_declaration e x.maker x.prefix x.uri ∷ []; pool = s.pool ++ b }) (sym (node-set-same ns a m h.attribute.inside))

  -- NS prefixes in use stay so.
  own-more : (rest : List Node) × (own_declarations (repair_attribute e a s).rows e ≡ own_declarations ns e ++ rest)
  unfolding perform own_declarations
  own-more =
      let repair = repair_of S n in
      let f = new_prefix s.pool n repair in
      let new = new_rows e n.maker f n.uri repair in (
        filtered (is_declaration_of e) new,
        ap (λ (x : State). own_declarations x.rows e) (performed refl)
            ∙ filtered-append (is_declaration_of e) (set ns a (with_prefix f n)) new
            ∙ ap (λ (l : List Node). l ++ filtered (is_declaration_of e) new) (own-prefix ns a e f owned.0),
      )

  use_kept : (j : ℕ) → in_use S j ≡ true → in_use (scope_at (repair_attribute e a s).rows e) j ≡ true
  use_kept j is =
      let test = declares (numbered_prefix j) in
      let el = h.attribute.element in
      let kept = kept-attribute (length ns) e a s h.attribute.inside (omega arith) in
      let was : (any_of test (own_declarations ns e) || any_of test (above ns e)) ≡ true =
      sym (any_of-append test (own_declarations ns e) (above ns e)) ∙ sym (ap (any_of test) (scope-split ns e (is-element (node ns e) el.kind))) ∙ is in
      let now : any_of test (scope_at (repair_attribute e a s).rows e) ≡ (any_of test (own_declarations ns e ++ own-more.0) || any_of test (above ns e)) =
      ap (any_of test) (scope-split (repair_attribute e a s).rows e (rw ((kept.core e el.within).type ∙ el.kind) refl))
      ∙ any_of-append test (own_declarations (repair_attribute e a s).rows e) (above (repair_attribute e a s).rows e)
      ∙ ap₂ (λ (x y : List Node). any_of test x || any_of test y) own-more.1 (above_kept (length ns) e ns (repair_attribute e a s).rows kept el.within) in
      now
      ∙ by_cases (any_of test (own_declarations ns e))
      (λ q. either_left (any_of test (above ns e)) (any_of-append test (own_declarations ns e) own-more.0 ∙ either_left (any_of test own-more.0) q))
      (λ q. either-right (any_of test (own_declarations ns e ++ own-more.0)) (rw q at was))

  pub used-after : {k : ℕ} → UsedBefore S k → UsedBefore (scope_at (repair_attribute e a s).rows e) k
  used-after used j low high = use_kept j (used j low high)

  -- What a repair leaves that appends nothing.
  settled :
      {table' pool' notes' : List ℕ} {bytes' : ℕ} {made : State} → repair_attribute e a s ≡ made → Good table' pool' notes' tops path rows bytes' names limit (e + 1) made
      → SameAttributes notes notes' → AfterAttribute notes table' pool' notes' tops path rows bytes' names limit free e (repair_attribute e a s)
  settled {table'} {pool'} {notes'} {bytes'} same good attributes =
      record {
        after =
            record {
              full = λ over. absurd (omega (arith, h.good.lent.room.row_room));
              good = λ fits. subst (Good table' pool' notes' tops path rows bytes' names limit (e + 1)) (sym same) good;
              spare = λ fits. h.spare;
              attributes = attributes;
            };
        one = h.attribute.one;
        used = used-after h.attribute.used;
      }

  pub attribute-kept : {b : Bool} → b ≡ attribute_settled notes tops path a → b ≡ true → AfterAttribute notes table pool notes tops path rows bytes names limit free e (repair_attribute e a s)
  attribute-kept told is = settled (made_kept (is-kept (sym told ∙ is))) h.good (λ r k late inside. refl)

  -- The URI, as it was read.
  uri-read : {bytes' : List ℕ} → bytes' ≡ (field_at (part h.good) (take bytes pool) a URI).bytes → bytes' ≡ n.uri.bytes
  uri-read read =
      read
      ∙ sym (ap (λ (m : Node). m.uri.bytes) (ap (λ (l : List Node). node l a) (sym (rows-held h.good h.attribute.element.lawful)) ∙ node-nodes (part h.good) (take bytes pool) a (rw (part_count h.good) attribute-below)))

  pub attribute-field : (a < row_count (part h.good)) × (URI + 1 < WIDTH)
  attribute-field = (rw (part_count h.good) attribute-below, omega arith)

  pub attribute-fits : (WIDTH * rows ≤ length table) × (bytes ≤ length pool)
  attribute-fits = (rows_fit h.good, h.good.lent.bytes_room)

  pub attribute-writes : (WIDTH * a + Table.PREFIX + 1 < length table) × (NOTES * a + noting.PREFIX < length notes) × (4 ≤ length path)
  attribute-writes = (
    omega (arith, rows_fit h.good, attribute-below),
    omega (arith, h.good.lent.noted, h.good.lent.room.row_room, attribute-below),
    omega (arith, h.good.lent.placed),
  )

  pub standing-low : e + 1 ≤ rows
  standing-low = omega (arith, element-below h.good h.attribute.element)

  module _ {b : Bool} (told : b ≡ attribute_settled notes tops path a) (not-settled : b ≡ false) {read : List ℕ} (is_read : read ≡ (field_at (part h.good) (take bytes pool) a URI).bytes)
      {x : Bool} (xml-told : x ≡ same_bytes read xml_uri) where
    left : Unsettled
    left = unsettled (sym told ∙ not-settled)

    pub xml-is : same_bytes n.uri.bytes xml_uri ≡ x
    xml-is = ap (λ (l : List ℕ). same_bytes l xml_uri) (sym (uri-read is_read)) ∙ sym xml-told

    -- The built-in prefix.
    pub attribute-xml :
        x ≡ true → (bytes + 6 ≤ length pool) → {table' pool' notes' : List ℕ} {grown : ℕ} → Named table table' pool pool' notes notes' a bytes grown (under_at path NUMBERED 0) xml_prefix
        → AfterAttribute notes table' pool' notes' tops path rows grown names limit free e (repair_attribute e a s)
    attribute-xml is room made =
        settled
        (made-built-in xml_prefix (deciding.attribute-xml scope n named prefix uri left.full left.differs left.other (xml-is ∙ is)))
        (good-named h.good a attribute-below (under_at path NUMBERED 0) xml_prefix h.good.numbers.xml made (xml-room bytes (length pool) room) standing-low)
        (named-attributes h.good a attribute-below (under_at path NUMBERED 0) xml_prefix h.good.numbers.xml made)

    module _ (not-xml : x ≡ false) {u found : ℕ} (uri-number : u ≡ note_at notes a noting.URI)
        (served : (scope : List ℕ) → On notes tops path scope → found ≡ first (serving (prefix_at notes) (value_at notes) scope u)) where
      pub found-is : first (serving (prefix_at notes) (value_at notes) h.good.standing.scope (note_at notes a noting.URI)) ≡ found
      found-is = sym (served h.good.standing.scope h.good.standing.on ∙ ap (λ (k : ℕ). first (serving (prefix_at notes) (value_at notes) h.good.standing.scope k)) uri-number)

      -- The prefix of a declaration in scope.
      module _ (some? : 0 < found) {d : ℕ} (at : d ≡ found - 1) where
        is-taken : repair_of S n ≡ take_declared (node ns d).local
        is-taken =
            deciding.attribute-taken scope n named prefix uri left.full left.differs left.other (xml-is ∙ not-xml) (λ z. omega (arith, found-is))
            ∙ ap (λ (k : ℕ). take_declared (node ns k).local) (ap (λ (k : ℕ). k - 1) found-is ∙ sym at)

        found_below : d < rows
        found_below =
            let positions = scope_rows (part h.good) (e + 1) in
            let in_scope : first (serving (prefix_at notes) (value_at notes) positions (note_at notes a noting.URI)) ≡ found =
            ap first (sym ((standing-alike (part h.good) notes tops path (e + 1) h.good.standing).serving (note_at notes a noting.URI))) ∙ found-is in
            let most : found ≤ row_count (part h.good) =
            subst (λ (k : ℕ). k ≤ row_count (part h.good)) in_scope
            (first-each (λ (k : ℕ). k ≤ row_count (part h.good)) (serving (prefix_at notes) (value_at notes) positions (note_at notes a noting.URI))
            (serving-each (λ (k : ℕ). k ≤ row_count (part h.good)) (prefix_at notes) (value_at notes) positions (note_at notes a noting.URI) (each_map (λ k p. p.1) positions (scope-positions (part h.good) (e + 1))))
            (omega (arith, in_scope))) in
            omega (arith, part_count h.good)

        pub taken-rows : ((a < rows) × (d < rows) × (rows ≤ MOST_ROWS)) × ((WIDTH * rows ≤ length table) × (NOTES * rows ≤ length notes))
        taken-rows = (
          (attribute-below, found_below, omega (arith, h.good.lent.room.row_room, h.good.lent.room.limit_small)),
          (rows_fit h.good, omega (arith, h.good.lent.noted, h.good.lent.room.row_room)),
        )

        pub attribute-taken :
            {table' notes' : List ℕ} → table' ≡ placed table a Table.PREFIX (place_at (part h.good) d LOCAL_NAME) → notes' ≡ noted notes a noting.PREFIX (note_at notes d noting.LOCAL_NAME)
            → AfterAttribute notes table' pool notes' tops path rows bytes names limit free e (repair_attribute e a s)
        attribute-taken made number =
            let f = (node ns d).local in
            let inside : d < length ns = rw (count h.good) found_below in
            let local : place_at (part h.good) d LOCAL_NAME ≡ place f = ap (λ (l : List ℕ). place_at l d LOCAL_NAME) h.good.words ∙ place-of-words ns d inside LOCAL_NAME (omega arith) in
            settled (made-taken f is-taken)
            (good-prefixed h.good a attribute-below f (note_at notes d noting.LOCAL_NAME) (noted-row h.good d found_below).local [] (made ∙ ap (placed table a Table.PREFIX) local) number
            (h.good.held ∙ sym (append-nil s.pool)) h.good.lent.bytes_room standing-low)
            (λ r k late inside'. ap (λ (l : List ℕ). note_at l r k) number ∙ noted_other notes a noting.PREFIX (note_at notes d noting.LOCAL_NAME) r k (omega arith) inside' (λ z w. omega arith))

      -- No prefix is in scope.
      abbrev pub attribute-unserved : found ≤ 0 → (bytes + 6 ≤ length pool) × (length pool < 65536) → AtUnserved table pool notes tops path rows bytes names limit free a
      attribute-unserved none? room =
          record {
            at = h;
            pool_room = room;
            unsettled = sym told ∙ not-settled;
            not_xml = xml-is ∙ not-xml;
            unserved =
                ap first (sym ((standing-alike (part h.good) notes tops path (e + 1) h.good.standing).serving (note_at notes a noting.URI))) ∙ found-is ∙ (omega arith);
          }

  pub serving-asks : Held notes tops path × (TOPS * note_at notes a noting.URI + TOPS ≤ length tops)
  serving-asks = (
    standing-held (part h.good) notes tops path (e + 1) (path_room h.good) (rw (part_count h.good) standing-low) h.good.standing,
    omega (arith, (noted-row h.good a attribute-below).uri.known, h.good.lent.topped),
  )
