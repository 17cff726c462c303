-- What is remembered of prefixes that stand for URIs, and what it tells of a row.
-- Assumes nothing.
use Prim.Native.Nat.{ℕ, zero, suc, ◌+◌, ◌*◌, ◌≤◌, ◌<◌}
use mathlib.Core.Path.{◌≡◌, refl, sym, ap, ◌∙◌, subst}
use mathlib.Core.Bool.{Bool, true, false, cond, ◌&&◌, ◌||◌, not}
use mathlib.Core.List.{List}
use native.Mathlib.Omega.{arith}
use borrow.Author.Tests.{eqb-true, eqb-false, ne_eqb}
use lib.Dec.{eqb}
use lib.ListN.{length, get_or, set, replicate, length-set, length-replicate}
use lib.Seq.{get_or-set_same, get_or-set_other}
use Rattle.rules.specs.Lists.{is_empty}
use Rattle.rules.specs.Table.{NONE, TYPE, PARENT, ELEMENT, ATTRIBUTE, TEXT, DECLARATION, Node, nodes, node, word, row_count}
use Rattle.rules.specs.Demands.{attribute_means_in, attribute_means, means, is_bound}
use Rattle.rules.proofs.Lists.{by_cases, both_true, not-true, not-false, true-not-false}
use Rattle.rules.proofs.Accepted.{namespace-accepted}
use Rattle.rows.proofs.Words.{type-word, parent-word}
use Rattle.notes.specs.Notes.{PREFIX, URI, note_at}
use Rattle.stacks.specs.Scopes.{nearest}
use Rattle.stacks.specs.Stacks.{PREFIXES, NUMBERED, top_at, under_at, prefix_at, value_at}
use Rattle.scopes.specs.Rows.{climb, outward, scope_rows}
use Rattle.scopes.specs.Standing.{Standing}
use Rattle.scopes.proofs.Answers.{standing-nearest}
use Rattle.bindings.specs.Spelled.{number_at}
use Rattle.bindings.specs.Asking.{element_settled, attribute_settled}
use Rattle.bindings.proofs.Scopes.{blank-test}
use Rattle.near_rows.specs.Outward.{is_leaf, Near}
use Rattle.unsettled.specs.Walkable.{Walkable}
use Rattle.unsettled.proofs.Walking.{is-accepted, row_within, noted-row, ready, walkable-kept}
use Rattle.proposals.specs.Proposals.{is_unresolved}
use Rattle.proposal_names.specs.Tests.{is_unsettled, asks_scope}
use Rattle.name_slots.specs.Slots.{SLOTS, WORDS, NEAR, DECLARED, STANDS, known_at, Held, remembered}
use Rattle.resolution.specs.Known.{Settled, Known}
use Rattle.resolution.proofs.Names.{unsettled-is}

zeros : (size i : ℕ) → ◌≡◌ {A = ℕ} (get_or (replicate size 0) i 0) 0
zeros zero i = refl
zeros (suc size) zero = refl
zeros (suc size) (suc i) = zeros size i

-- Zeros remember that no prefix stands for no URI where the arrays stand at no row.
nothing-nearest : (table notes : List ℕ) → nearest (prefix_at notes) (scope_rows table 0) 0 ≡ 0
unfolding nearest scope_rows outward climb
nothing-nearest table notes = refl

nothing-settled : (table notes tops path : List ℕ) → Standing table notes tops path 0 → Settled table notes (length tops) (length path) (under_at path NUMBERED 0) 0 0 0
nothing-settled table notes tops path standing =
    let none : top_at tops PREFIXES 0 ≡ 0 = standing-nearest table notes tops path 0 standing 0 ∙ nothing-nearest table notes in
    record {
      tops = tops;
      path = path;
      tops_size = refl;
      path_size = refl;
      number = refl;
      standing = standing;
      agrees = rw none refl;
    }

pub zeros-known : (table notes tops path : List ℕ) → Standing table notes tops path 0 → (size : ℕ) → WORDS ≤ size → Known table notes (replicate size 0) (length tops) (length path) (under_at path NUMBERED 0)
zeros-known table notes tops path standing size long =
    record {
      words = rw length-replicate long;
      settled = λ s. rw (zeros size (3 * s + NEAR), zeros size (3 * s + DECLARED), zeros size (3 * s + STANDS)) (nothing-settled table notes tops path standing);
    }

-- A slot is filled.
module _ (known : List ℕ) (s n p u : ℕ) (long : WORDS ≤ length known) (slot : s < SLOTS) where
  length-remembered : length (remembered known s n p u) ≡ length known
  unfolding remembered
  length-remembered = simp length-set

  here-near : known_at (remembered known s n p u) s NEAR ≡ n
  unfolding remembered
  here-near =
      get_or-set_other (set (set known (3 * s + NEAR) n) (3 * s + DECLARED) p) (3 * s + STANDS) (3 * s + NEAR) u 0 (λ z. omega arith)
      ∙ get_or-set_other (set known (3 * s + NEAR) n) (3 * s + DECLARED) (3 * s + NEAR) p 0 (λ z. omega arith)
      ∙ get_or-set_same known (3 * s + NEAR) n 0 (omega arith)

  here-declared : known_at (remembered known s n p u) s DECLARED ≡ p
  unfolding remembered
  here-declared =
      get_or-set_other (set (set known (3 * s + NEAR) n) (3 * s + DECLARED) p) (3 * s + STANDS) (3 * s + DECLARED) u 0 (λ z. omega arith)
      ∙ get_or-set_same (set known (3 * s + NEAR) n) (3 * s + DECLARED) p 0 (rw length-set (omega arith))

  here-stands : known_at (remembered known s n p u) s STANDS ≡ u
  unfolding remembered
  here-stands = get_or-set_same (set (set known (3 * s + NEAR) n) (3 * s + DECLARED) p) (3 * s + STANDS) u 0 (rw (length-set, length-set) (omega arith))

  elsewhere : (t k : ℕ) → (t ≡ s → ⊥) → k < 3 → known_at (remembered known s n p u) t k ≡ known_at known t k
  unfolding remembered
  elsewhere t k other few =
      get_or-set_other (set (set known (3 * s + NEAR) n) (3 * s + DECLARED) p) (3 * s + STANDS) (3 * t + k) u 0 (λ z. other (omega arith))
      ∙ get_or-set_other (set known (3 * s + NEAR) n) (3 * s + DECLARED) (3 * t + k) p 0 (λ z. other (omega arith))
      ∙ get_or-set_other known (3 * s + NEAR) (3 * t + k) n 0 (λ z. other (omega arith))

pub remembered-known :
    {table notes known : List ℕ} {ts ps x : ℕ} → Known table notes known ts ps x → (s n p u : ℕ) → s < SLOTS → Settled table notes ts ps x n p u
    → {after : List ℕ} → after ≡ remembered known s n p u → Known table notes after ts ps x
remembered-known {table} {notes} {known} {ts} {ps} {x} all s n p u slot settled {after} is =
    let long = all.words in
    rw is
    (record {
      words = rw (length-remembered known s n p u long slot) long;
      settled = λ t.
          by_cases (eqb t s)
          (λ q.
          let z = eqb-true t s q in
          rw (z, here-near known s n p u long slot, here-declared known s n p u long slot, here-stands known s n p u long slot) settled)
          (λ q.
          let z = eqb-false t s q in
          rw (elsewhere known s n p u long slot t NEAR z (omega arith), elsewhere known s n p u long slot t DECLARED z (omega arith), elsewhere known s n p u long slot t STANDS z (omega arith)) (all.settled t));
    })

-- What is settled where the arrays stand, by numbers.
module _ (table notes tops path : List ℕ) (r : ℕ) (asks : asks_scope table notes r ≡ true) where
  full : eqb (word table r TYPE) ELEMENT ≡ false → (eqb (word table r TYPE) ATTRIBUTE && not (eqb (word table r PARENT) NONE)) ≡ true → eqb (note_at notes r URI) 0 ≡ false
  full t u = not-true (eqb (note_at notes r URI) 0) (rw (t, u) at asks)

  pub agreed-settled : element_settled notes tops path r ≡ true → (eqb (word table r TYPE) ELEMENT ≡ false → (note_at notes r PREFIX ≡ 0 → ⊥)) → is_unsettled table notes tops path r ≡ false
  unfolding attribute_settled
  agreed-settled agreed named =
      by_cases (eqb (word table r TYPE) ELEMENT)
      (λ t. rw t (ap not agreed))
      (λ t.
      by_cases (eqb (word table r TYPE) ATTRIBUTE && not (eqb (word table r PARENT) NONE))
      (λ u. rw (t, u, full t u, ne_eqb (note_at notes r PREFIX) 0 (named t)) (ap not agreed))
      (λ u. rw (t, u) refl))

  pub settled-agreed : is_unsettled table notes tops path r ≡ false → element_settled notes tops path r ≡ true
  unfolding attribute_settled
  settled-agreed settled =
      by_cases (eqb (word table r TYPE) ELEMENT)
      (λ t. not-false (element_settled notes tops path r) (rw t at settled))
      (λ t.
      by_cases (eqb (word table r TYPE) ATTRIBUTE && not (eqb (word table r PARENT) NONE))
      (λ u. go (eqb (note_at notes r PREFIX) 0) (not-false (cond (eqb (note_at notes r PREFIX) 0) false (element_settled notes tops path r)) (rw (t, u, full t u) at settled)))
      (λ u. absurd (true-not-false asks (rw (t, u) refl))))
    where
      go : (b : Bool) → cond b false (element_settled notes tops path r) ≡ true → element_settled notes tops path r ≡ true
      go true e = absurd (true-not-false e refl)
      go false e = e

module _ {table pool notes tops path : List ℕ} (w : Walkable table pool notes tops path) (r : ℕ) (below : r < row_count table) where
  abbrev ns : List Node
  ns = nodes table pool

  -- A text and a declaration have no name that is asked for.
  pub leaf-resolved : is_leaf (word table r TYPE) ≡ true → false ≡ is_unresolved ns r
  unfolding is_unresolved is_bound
  leaf-resolved leaf =
      by_cases (eqb (word table r TYPE) TEXT)
      (λ t. rw (type-word table pool r below ∙ eqb-true (word table r TYPE) TEXT t) refl)
      (λ t. rw (type-word table pool r below ∙ eqb-true (word table r TYPE) DECLARATION (rw t at leaf)) refl)

  -- An attribute without a URI has no prefix, and means that.
  bare-means : eqb (word table r TYPE) ELEMENT ≡ false → eqb (word table r TYPE) ATTRIBUTE ≡ true → eqb (note_at notes r URI) 0 ≡ true → means ns r ≡ true
  unfolding means attribute_means attribute_means_in
  bare-means t u none =
      let n = noted-row w r below in
      let kind : (node ns r).type ≡ ATTRIBUTE = type-word table pool r below ∙ eqb-true (word table r TYPE) ATTRIBUTE u in
      let bare : is_empty (node ns r).uri.bytes ≡ true = blank-test w.spelled n.uri ∙ none in
      let unprefixed = (namespace-accepted ns (length pool) r ((is-accepted w).row r (row_within w below)) (rw kind refl)).prefix_has_uri bare in
      rw (type-word table pool r below, t, bare, unprefixed) refl

  pub unasked-resolved : asks_scope table notes r ≡ false → false ≡ is_unresolved ns r
  unfolding is_unresolved is_bound
  unasked-resolved none =
      by_cases (eqb (word table r TYPE) ELEMENT)
      (λ t. absurd (true-not-false (rw t refl) none))
      (λ t.
      by_cases (eqb (word table r TYPE) ATTRIBUTE && not (eqb (word table r PARENT) NONE))
      (λ u.
      let both = both_true (eqb (word table r TYPE) ATTRIBUTE) (not (eqb (word table r PARENT) NONE)) u in
      let bare : eqb (note_at notes r URI) 0 ≡ true = not-false (eqb (note_at notes r URI) 0) (rw (t, u) at none) in
      rw (type-word table pool r below, parent-word table pool r below, t, u) (ap not (sym (bare-means t both.0 bare))))
      (λ u. rw (type-word table pool r below, parent-word table pool r below, t, u) refl))

  module _ (asks : asks_scope table notes r ≡ true) {n : ℕ} (near : Near table notes n (r + 1)) where
    -- What is remembered tells, by the arrays that stood there.
    pub known-resolved : {known : List ℕ} → Known table notes known (length tops) (length path) (under_at path NUMBERED 0) → Held table notes known r n → false ≡ is_unresolved ns r
    unfolding element_settled
    known-resolved {known} all h =
        let f = all.settled h.slot in
        let there = walkable-kept w f.tops f.path f.tops_size f.path_size f.number in
        let stands = near.stands f.tops f.path (ready there) (subst (Standing table notes f.tops f.path) h.near f.standing) in
        let agreed : element_settled notes f.tops f.path r ≡ true =
        subst (λ (u : ℕ). (eqb (number_at (value_at notes) (top_at f.tops PREFIXES (note_at notes r PREFIX))) u || eqb (note_at notes r PREFIX) (under_at f.path NUMBERED 0)) ≡ true) h.uri
        (subst (λ (p : ℕ). (eqb (number_at (value_at notes) (top_at f.tops PREFIXES p)) (known_at known h.slot STANDS) || eqb p (under_at f.path NUMBERED 0)) ≡ true) h.prefix f.agrees) in
        sym (agreed-settled table notes f.tops f.path r asks agreed h.named) ∙ unsettled-is there r below (λ inner. stands)

    -- Where the arrays stand at the nearest row.
    module _ {tops' path' : List ℕ} (ts : length tops' ≡ length tops) (ps : length path' ≡ length path) (xml : under_at path' NUMBERED 0 ≡ under_at path NUMBERED 0) (standing : Standing table notes tops' path' n) where
      pub stood-told : {is : Bool} → is ≡ is_unsettled table notes tops' path' r → is ≡ is_unresolved ns r
      stood-told told =
          let there = walkable-kept w tops' path' ts ps xml in
          told ∙ unsettled-is there r below (λ inner. near.stands tops' path' (ready there) standing)

      pub stood_settled : is_unsettled table notes tops' path' r ≡ false → Settled table notes (length tops) (length path) (under_at path NUMBERED 0) n (note_at notes r PREFIX) (note_at notes r URI)
      unfolding element_settled
      stood_settled settled =
          record {
            tops = tops';
            path = path';
            tops_size = ts;
            path_size = ps;
            number = xml;
            standing = standing;
            agrees = settled-agreed table notes tops' path' r asks settled;
          }
