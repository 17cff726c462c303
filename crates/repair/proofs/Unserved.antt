-- Step 3 of an attribute whose URI has no prefix in scope.
-- Assumes nothing.
use Prim.Native.Nat.{ℕ, ◌+◌, ◌-◌, ◌*◌, ◌≤◌, ◌<◌, max}
use mathlib.Core.Path.{◌≡◌, refl, sym, ◌∙◌, ap, subst}
use mathlib.Core.Logic.{inl, inr}
use mathlib.Core.Bool.{Bool, true, false, not}
use mathlib.Core.List.{List, []}
use native.Mathlib.Omega.{arith}
use lib.ListN.{length, take, set, length-set, length-append}
use lib.Dec.{eqb, ltb}
use borrow.Author.Tests.{eqb-true, eqb-false, eq-eqb, ne_eqb, ltb-true, ltb-false}
use Rattle.rules.specs.Table.{WIDTH, Node, node, words}
use Rattle.rules.specs.Table as Table
use Rattle.rules.specs.Normalization.{numbered_prefix, least_free, State, with_prefix, declare_own, make_numbered, repair_of, repair_attribute}
use Rattle.rules.proofs.Lists.{by_cases, true-not-false, both_true}
use Rattle.rules.proofs.Scope.{node-set-same}
use Rattle.rules.proofs.Bounds.{scope-count, least_free-bound, numbered-length}
use Rattle.rules.proofs.Prefixes.{least-free}
use Rattle.notes.specs.Notes as noting
use Rattle.notes.specs.Notes.{NOTES, note_at, noted}
use Rattle.notes.proofs.Laws.{noted-same, noted_other}
use Rattle.chains.proofs.Laws.{latest-within}
use Rattle.numbers.specs.Numbers.{Names}
use Rattle.numbers.proofs.Laws.{found-names}
use Rattle.stacks.specs.Scopes.{serving, first}
use Rattle.scopes.specs.Rows.{scope_rows, SameTree}
use Rattle.stacks.specs.Stacks.{NUMBERED, PREFIXES, top_at, under_at, prefix_at, value_at}
use Rattle.stacks.proofs.Each.{each_map}
use Rattle.scopes.proofs.Same.{serving-each}
use Rattle.scopes.proofs.Answers.{standing-alike, standing-nearest}
use Rattle.scopes.proofs.Changes.{standing-numbered}
use Rattle.bindings.specs.Spelled.{number_at}
use Rattle.bindings.specs.Asking.{top_of, Asked, is_used, Searched, LeastUnused}
use Rattle.bindings.proofs.Deciding as deciding
use Rattle.bindings.proofs.Free.{in_use, UsedBefore, not-below, not-before, least-is, noted-use}
use Rattle.bindings.proofs.Held.{scope-positions}
use Rattle.free_prefixes.specs.Free.{is_free, number_for, path_for}
use Rattle.changes.specs.Changes.{Named}
use Rattle.working.specs.Working.{Good, AtAttribute, AtUnserved, AtTop, AfterAttribute, SameAttributes, end_field, prefixed, declared_for}
use Rattle.working.proofs.Held.{part, count, part_count, noted-row, element-below, top-is}
use Rattle.working.proofs.Changed.{same-tree, numbers-named, named_new}
use Rattle.working.proofs.Steps.{good-named, core-set, prefix-core}
use Rattle.working.proofs.Declaring.{scope-same, serving-kept, none_first, nearest-none}
use Rattle.repair.proofs.Attributes.{attribute-below, attribute-asked, attribute-writes, owned, S, scope, prefix, uri, named, top, Unsettled, unsettled, made-declared, made-numbered, used-after, standing-low}

module _ {table pool notes tops path : List ℕ} {rows bytes names limit free a : ℕ} (h : AtUnserved table pool notes tops path rows bytes names limit free a) where
  abbrev at : AtAttribute table pool notes tops path rows bytes names limit free a
  at = h.at

  abbrev s : State
  s = at.state

  abbrev e : ℕ
  e = at.owner

  abbrev n : Node
  n = node s.rows a

  left : Unsettled at
  left = unsettled at h.unsettled

  none-served : first (serving (prefix_at notes) (value_at notes) at.good.standing.scope (note_at notes a noting.URI)) ≡ 0
  none-served = ap first ((standing-alike (part at.good) notes tops path (e + 1) at.good.standing).serving (note_at notes a noting.URI)) ∙ h.unserved

  abbrev positions : List ℕ
  positions = scope_rows (part at.good) (e + 1)

  pub needed : serving (prefix_at notes) (value_at notes) positions (note_at notes a noting.URI) ≡ []
  needed =
      none_first (serving (prefix_at notes) (value_at notes) positions (note_at notes a noting.URI))
      (serving-each (λ (d : ℕ). 0 < d) (prefix_at notes) (value_at notes) positions (note_at notes a noting.URI) (each_map (λ d p. p.0) positions (scope-positions (part at.good) (e + 1))))
      h.unserved

  declares-own : is_free notes tops a ≡ true → repair_of (S at) n ≡ declare_own
  declares-own is =
      let both = both_true (not (eqb (note_at notes a noting.PREFIX) 0)) (eqb (top_of notes tops a) 0) is in
      deciding.attribute-declared (scope at) n (named at) (prefix at) (uri at) left.full left.differs left.other h.not_xml none-served
      (λ z. true-not-false both.0 (rw (eq-eqb (note_at notes a noting.PREFIX) 0 z) refl)) (sym (top at) ∙ eqb-true (top_of notes tops a) 0 both.1)

  takes-number : is_free notes tops a ≡ false → repair_of (S at) n ≡ make_numbered (numbered_prefix (least_free (length (S at)) (S at) 1))
  takes-number is =
      deciding.attribute-numbered (scope at) n (named at) (prefix at) (uri at) left.full left.differs left.other h.not_xml none-served
      (by_cases (eqb (note_at notes a noting.PREFIX) 0)
      (λ q. inl (eqb-true (note_at notes a noting.PREFIX) 0 q))
      (λ q. inr (λ z. let w : true ≡ false = rw (q, eq-eqb (top_of notes tops a) 0 (top at ∙ z)) at is in true-not-false (sym w) refl)))

  -- One row more in either case.
  one_more : length (repair_attribute e a s).rows ≡ rows + 1
  one_more =
      by_cases (is_free notes tops a)
      (λ q. ap (λ (x : State). length x.rows) (made-declared at (declares-own q)) ∙ rw (length-append, count at.good) refl)
      (λ q. ap (λ (x : State). length x.rows) (made-numbered at _ (takes-number q)) ∙ rw (length-append, length-set, count at.good) refl)

  pub unserved-full : limit ≤ rows → AfterAttribute notes table pool notes tops path (limit + 1) bytes names limit free e (repair_attribute e a s)
  unserved-full full =
      record {
        after =
            record {
              full = λ over. omega (arith, one_more, at.good.lent.room.row_room);
              good = λ fits. absurd (omega arith);
              spare = λ fits. absurd (omega arith);
              attributes = λ r k late inside. refl;
            };
        one = at.attribute.one;
        used = used-after at at.attribute.used;
      }

  pub free-asked : (p : List ℕ) × Asked notes tops p a
  free-asked = (path, attribute-asked at)

  pub earlier : e < rows
  earlier = element-below at.good at.attribute.element

  -- Its own prefix is declared.
  module _ (more : rows < limit) {b : Bool} (told : b ≡ is_free notes tops a) (is : b ≡ true) where
    abbrev pub own-top : AtTop table notes tops path rows a
    own-top =
        record {
          pool = pool;
          bytes = bytes;
          names = names;
          limit = limit;
          state = s;
          owner = e;
          good = at.good;
          more = more;
          below = attribute-below at;
          parent = (owned at).1;
          earlier = earlier;
          new = eqb-true (top_of notes tops a) 0 (both_true (not (eqb (note_at notes a noting.PREFIX) 0)) (eqb (top_of notes tops a) 0) (sym told ∙ is)).1;
          needed = needed;
        }

    pub own-declared :
        {table' notes' tops' path' : List ℕ} → length tops' ≡ length tops → Good table' pool notes' tops' path' (rows + 1) bytes names limit (e + 1) (declared_for e a s) → SameAttributes notes notes'
        → AfterAttribute notes table' pool notes' tops' path' (rows + 1) bytes names limit free e (repair_attribute e a s)
    own-declared {table'} {notes'} {tops'} {path'} ts good attributes =
        record {
          after =
              record {
                full = λ over. absurd (omega arith);
                good = λ fits. subst (Good table' pool notes' tops' path' (rows + 1) bytes names limit (e + 1)) (sym (made-declared at (declares-own (sym told ∙ is)))) good;
                spare = λ fits. record { topped = omega (arith, at.spare.topped, ts); few = omega (arith, at.spare.few) };
                attributes = attributes;
              };
          one = at.attribute.one;
          used = used-after at at.attribute.used;
        }

  -- An NS prefix is taken.
  module _ (more : rows < limit) (not-Free : is_free notes tops a ≡ false) where
    abbrev K : ℕ
    K = least_free (length (S at)) (S at) 1

    K-most : K ≤ limit
    K-most = omega (arith, least_free-bound (length (S at)) (S at) 1, scope-count s.rows e, count at.good)

    number-known : (k : ℕ) → k ≤ limit → under_at path NUMBERED k ≤ names
    number-known k high =
        by_cases (eqb k 0)
        (λ q. rw (eqb-true k 0 q) at.good.numbers.xml.known)
        (λ q.
        let some? = eqb-false k 0 q in
        rw (at.good.numbers.numbered k (omega arith) high) (latest-within _ names))

    -- What the arrays say of NSk.
    used-is : (k : ℕ) → 1 ≤ k → k ≤ limit → is_used tops path k ≡ in_use (S at) k
    unfolding is_used
    used-is k low high =
        let m = under_at path NUMBERED k in
        sym (noted-use (scope at) k m (at.good.numbers.numbered k low high)
        ∙ by_cases (eqb m 0)
        (λ q. rw q refl)
        (λ q. rw (q, top-is at.good at.attribute.element m) refl))

    search-ends : Searched tops path free K
    search-ends =
        record {
          low =
              by_cases (ltb K free)
              (λ q. absurd (not-before (S at) free at.attribute.one at.attribute.used (ltb-true K free q)))
              (λ q. ltb-false K free q);
          free = used-is K (not-below (length (S at)) (S at) 1) K-most ∙ least-free (S at) 1;
          placed = omega (arith, K-most, at.good.lent.placed);
          topped = λ k low. omega (arith, number-known k (omega (arith, K-most)), at.good.lent.topped);
          small = omega (arith, K-most, at.good.lent.room.limit_small);
        }

    pub number-search : (last : ℕ) × Searched tops path free last
    number-search = (K, search-ends)

    module _ {k : ℕ} (searched : LeastUnused tops path free k) where
      k-high : k ≤ K
      k-high =
          by_cases (ltb K k)
          (λ q. absurd (true-not-false (searched.used K search-ends.low (ltb-true K k q)) search-ends.free))
          (λ q. ltb-false K k q)

      used : UsedBefore (S at) k
      used j low high =
          by_cases (ltb j free)
          (λ q. at.attribute.used j low (ltb-true j free q))
          (λ q. sym (used-is j low (omega (arith, k-high, K-most))) ∙ searched.used j (ltb-false j free q) high)

      k-one : 1 ≤ k
      k-one = omega (arith, at.attribute.one, searched.low)

      k-is : k ≡ K
      k-is = least-is (S at) k k-one used (sym (used-is k k-one (omega (arith, k-high, K-most))) ∙ searched.free)

      k-most : k ≤ limit
      k-most = omega (arith, k-high, K-most)

      pub number-room : (4 * k + 4 ≤ length path) × (names < 65535)
      number-room = (omega (arith, k-most, at.good.lent.placed), omega (arith, at.spare.few))

      -- The prefix has a number, and nothing declares it.
      pub record NumberKnown (number last : ℕ) (path' : List ℕ) : Type 0 where
        pub good : Good table pool notes tops path' rows bytes last limit (e + 1) s
        pub is : Names good.numbers.spelling last number (numbered_prefix k)
        pub new : top_at tops PREFIXES number ≡ 0
        pub most : last ≡ max names number
        pub grows : last ≤ names + 1

      unused : number_at (top_at tops PREFIXES) (under_at path NUMBERED k) ≡ 0
      unfolding is_used
      unused =
          by_cases (eqb (number_at (top_at tops PREFIXES) (under_at path NUMBERED k)) 0)
          (λ q. eqb-true (number_at (top_at tops PREFIXES) (under_at path NUMBERED k)) 0 q)
          (λ q. let z : true ≡ false = rw q at searched.free in absurd (true-not-false (sym z) refl))

      number-there : (under_at path NUMBERED k ≡ 0 → ⊥) → NumberKnown (under_at path NUMBERED k) names path
      number-there some? =
          let m = under_at path NUMBERED k in
          let known = number-known k k-most in
          record {
            good = at.good;
            is = found-names at.good.numbers.spelling names (numbered_prefix k) (at.good.numbers.numbered k k-one k-most) (omega arith);
            new = let z = unused in rw (ne_eqb m 0 some?) at z;
            most = omega arith;
            grows = omega arith;
          }

      number-new : under_at path NUMBERED k ≡ 0 → NumberKnown (names + 1) (names + 1) (set path (4 * k + NUMBERED) (names + 1))
      number-new none? =
          let g = at.good in
          let room = at.spare.topped in
          let path' = set path (4 * k + NUMBERED) (names + 1) in
          record {
            good =
                record {
                  lent =
                      record {
                        room = g.lent.room;
                        bytes_room = g.lent.bytes_room;
                        noted = g.lent.noted;
                        placed = rw length-set g.lent.placed;
                        topped = omega arith;
                      };
                  words = g.words;
                  held = g.held;
                  numbers = numbers-named g.numbers k k-one k-most none? g.lent.placed;
                  linked = g.linked;
                  standing = standing-numbered (part g) notes tops path (e + 1) k (names + 1) g.standing;
                };
            is = named_new g.numbers k k-one k-most none? g.lent.placed;
            new =
                standing-nearest (part g) notes tops path (e + 1) g.standing (names + 1)
                ∙ nearest-none (prefix_at notes) positions (names + 1)
                (each_map (λ d p z. omega (arith, (noted-row g (d - 1) (omega (arith, p.0, p.1, part_count g))).local.known)) positions (scope-positions (part g) (e + 1)));
            most = omega arith;
            grows = omega arith;
          }

      number-held : (number : ℕ) (path' : List ℕ) → number ≡ number_for path k names → path' ≡ path_for path k names → (last : ℕ) × NumberKnown number last path'
      number-held number path' number_is path-is =
          by_cases (eqb (under_at path NUMBERED k) 0)
          (λ q.
          let x : number_for path k names ≡ names + 1 = rw q refl in
          let y : path_for path k names ≡ set path (4 * k + NUMBERED) (names + 1) = rw q refl in
          rw (number_is ∙ x, path-is ∙ y) (names + 1, number-new (eqb-true (under_at path NUMBERED k) 0 q)))
          (λ q.
          let x : number_for path k names ≡ under_at path NUMBERED k = rw q refl in
          let y : path_for path k names ≡ path = rw q refl in
          rw (number_is ∙ x, path-is ∙ y) (names, number-there (eqb-false (under_at path NUMBERED k) 0 q)))

      pub number-writes : ((WIDTH * a + Table.PREFIX + 1 < length table) × (NOTES * a + noting.PREFIX < length notes) × (k < 10000)) × ((bytes + 6 ≤ length pool) × (length pool < 65536))
      number-writes = (((attribute-writes at).0, (attribute-writes at).1, omega (arith, k-most, at.good.lent.room.limit_small)), h.pool_room)

      -- The attribute has it.
      module _ {number : ℕ} {path₁ : List ℕ} (number_is : number ≡ number_for path k names) (path-is : path₁ ≡ path_for path k names)
          {table₁ pool₁ notes₁ : List ℕ} {grown : ℕ} (made : Named table table₁ pool pool₁ notes notes₁ a bytes grown number (numbered_prefix k)) where
        abbrev last : ℕ
        last = (number-held number path₁ number_is path-is).0

        known : NumberKnown number last path₁
        known = (number-held number path₁ number_is path-is).1

        abbrev s₁ : State
        s₁ = prefixed a (end_field s (numbered_prefix k)) (numbered_prefix k) s

        taken : Good table₁ pool₁ notes₁ tops path₁ rows grown last limit (e + 1) s₁
        taken =
            good-named known.good a (attribute-below at) number (numbered_prefix k) known.is made
            (omega (arith, numbered-length k (omega (arith, k-most, at.good.lent.room.limit_small)), h.pool_room.0)) (standing-low at)

        kept : (r j : ℕ) → j < NOTES → (j ≡ noting.PREFIX → ⊥) → note_at notes₁ r j ≡ note_at notes r j
        kept r j inside other = ap (λ (l : List ℕ). note_at l r j) made.numbered ∙ noted_other notes a noting.PREFIX number r j (omega arith) inside (λ z w. other w)

        tree : SameTree (part at.good) (take (WIDTH * rows) table₁)
        tree =
            same-tree s.rows s₁.rows at.good.words taken.words (rw length-set (omega arith))
            (core-set s.rows a (with_prefix (end_field s (numbered_prefix k)) n) at.attribute.inside (prefix-core n (end_field s (numbered_prefix k))))

        same-scope : scope_rows (take (WIDTH * rows) table₁) (e + 1) ≡ positions
        same-scope = scope-same (part at.good) (take (WIDTH * rows) table₁) (e + 1) tree (part_count taken ∙ sym (part_count at.good)) (rw (part_count at.good) (standing-low at))

        pub number-top : AtTop table₁ notes₁ tops path₁ rows a
        number-top =
            record {
              pool = pool₁;
              bytes = grown;
              names = last;
              limit = limit;
              state = s₁;
              owner = e;
              good = taken;
              more = more;
              below = attribute-below at;
              parent = ap (λ (x : Node). x.parent) (node-set-same s.rows a (with_prefix (end_field s (numbered_prefix k)) n) at.attribute.inside) ∙ (owned at).1;
              earlier = earlier;
              new =
                  ap (top_at tops PREFIXES) (ap (λ (l : List ℕ). note_at l a noting.PREFIX) made.numbered ∙ noted-same notes a noting.PREFIX number (attribute-writes at).1) ∙ known.new;
              needed =
                  rw (same-scope, kept a noting.URI (omega arith) (λ z. omega arith))
                  (serving-kept (prefix_at notes) (value_at notes) (prefix_at notes₁) (value_at notes₁) positions (note_at notes a noting.URI)
                  (each_map (λ d p. (kept (d - 1) noting.LOCAL_NAME (omega arith) (λ z. omega arith), kept (d - 1) noting.VALUE (omega arith) (λ z. omega arith))) positions (scope-positions (part at.good) (e + 1)))
                  ∙ needed);
            }

        pub number-done :
            {table₂ notes₂ tops₂ path₂ : List ℕ} {names₂ : ℕ} → length tops₂ ≡ length tops → names₂ ≡ max names number
            → ((t : AtTop table₁ notes₁ tops path₁ rows a) → Good table₂ t.pool notes₂ tops₂ path₂ (rows + 1) t.bytes t.names t.limit (t.owner + 1) (declared_for t.owner a t.state))
            → SameAttributes notes₁ notes₂ → AfterAttribute notes table₂ pool₁ notes₂ tops₂ path₂ (rows + 1) grown names₂ limit k e (repair_attribute e a s)
        unfolding number-top
        number-done {table₂} {notes₂} {tops₂} {path₂} {names₂} ts names-is told attributes =
            let result : repair_attribute e a s ≡ declared_for e a s₁ = made-numbered at (numbered_prefix k) (takes-number not-Free ∙ ap (λ (x : ℕ). make_numbered (numbered_prefix x)) (sym k-is)) in
            let count-is : last ≡ names₂ = known.most ∙ sym names-is in
            record {
              after =
                  record {
                    full = λ over. absurd (omega arith);
                    good = λ fits.
                        subst (λ (x : ℕ). Good table₂ pool₁ notes₂ tops₂ path₂ (rows + 1) grown x limit (e + 1) (repair_attribute e a s)) count-is
                        (subst (Good table₂ pool₁ notes₂ tops₂ path₂ (rows + 1) grown last limit (e + 1)) (sym result) (told number-top));
                    spare = λ fits. record { topped = omega (arith, at.spare.topped, ts, count-is, known.grows); few = omega (arith, at.spare.few, count-is, known.grows) };
                    attributes = λ r j late inside. attributes r j late inside ∙ kept r j inside (λ z. omega arith);
                  };
              one = k-one;
              used = used-after at used;
            }
