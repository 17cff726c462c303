-- A declaration of an ancestor is inherited exactly if it is the first one of its prefix in scope.
-- Assumes nothing.
use Prim.Native.Nat.{ℕ, ◌+◌, ◌-◌, ◌≤◌, ◌<◌}
use mathlib.Core.Path.{◌≡◌, refl, sym, ◌∙◌, ap}
use mathlib.Core.Bool.{Bool, true, false, ◌&&◌, not}
use mathlib.Core.List.{List, [], ◌∷◌}
use mathlib.Core.Option.{Option, none, some, none-ne-some}
use native.Mathlib.Omega.{arith}
use lib.ListN.{length}
use lib.Dec.{eqb}
use borrow.Author.Tests.{eqb-true, eqb-false, eq-eqb, ne_eqb}
use Rattle.rules.specs.Lists.{first_that, any_of, is_one_of}
use Rattle.rules.specs.Table.{DECLARATION, Node, no_node, node}
use Rattle.rules.specs.Lookups.{is_declaration_of, own_declarations, declares, scope_of}
use Rattle.rules.proofs.Lists.{by_cases, both_true, true-both, both_false, either-right, true-not-false, not-true, first_that-none, none-first_that, first_that-some, first_that-passes, first_that-append-none, first_that-append-some, first_that-none-get_or, any_of-append, any_of-filtered, all_of-first_that, filtered-passes, same_bytes-refl}
use Rattle.rules.proofs.Unique.{Unique}
use Rattle.bindings.specs.Spelled.{row_at}
use Rattle.markup.specs.Writing.{nearer}

module _ (ns : List Node) (prefix : List ℕ) (o : ℕ) where
  -- What is found among an element's own declarations is one of them.
  own-found : (x : ℕ) {m : Node} → first_that (declares prefix) (own_declarations ns x) ≡ some m → is_declaration_of x m ≡ true
  unfolding own_declarations
  own-found x is = all_of-first_that (is_declaration_of x) (declares prefix) (own_declarations ns x) (filtered-passes (is_declaration_of x) ns) is

  -- An element o on the path, and no nearer one declares the prefix: what o declares is found.
  pub first-inherited : (elements : List ℕ) {m : Node} → is_one_of elements o ≡ true → any_of (declares prefix) (scope_of ns (nearer o elements)) ≡ false → first_that (declares prefix) (own_declarations ns o) ≡ some m → first_that (declares prefix) (scope_of ns elements) ≡ some m
  unfolding scope_of
  first-inherited [] on free own = absurd (true-not-false on refl)
  first-inherited (x ∷ elements) {m} on free own =
      by_cases (eqb x o)
      (λ q.
      let same = eqb-true x o q in
      first_that-append-some (declares prefix) (own_declarations ns x) (scope_of ns elements) (rw same own))
      (λ q.
      let split = both_false (any_of (declares prefix) (own_declarations ns x)) (any_of (declares prefix) (scope_of ns (nearer o elements))) (sym (any_of-append (declares prefix) (own_declarations ns x) (scope_of ns (nearer o elements))) ∙ rw q at free) in
      let further : is_one_of elements o ≡ true = rw (ne_eqb o x (λ z. eqb-false x o q (sym z))) at on in
      first_that-append-none (declares prefix) (own_declarations ns x) (scope_of ns elements) (first_that-none (declares prefix) (own_declarations ns x) split.0)
      ∙ first-inherited elements further split.1 own)

  -- What is found is o's: then o is on the path, and no nearer one declares the prefix.
  pub found-inherited : (elements : List ℕ) {m : Node} → first_that (declares prefix) (scope_of ns elements) ≡ some m → m.parent ≡ o → (is_one_of elements o ≡ true) × (any_of (declares prefix) (scope_of ns (nearer o elements)) ≡ false)
  unfolding scope_of
  found-inherited [] {m} found parent = absurd (none-ne-some m found)
  found-inherited (x ∷ elements) {m} found parent =
      by_cases (eqb x o)
      (λ q. rw (q, eq-eqb o x (sym (eqb-true x o q))) (refl, refl))
      (λ q. further q (first_that (declares prefix) (own_declarations ns x)) refl (λ later. found-inherited elements later parent))
    where
      further :
          eqb x o ≡ false → (own : Option Node) → first_that (declares prefix) (own_declarations ns x) ≡ own
          → (first_that (declares prefix) (scope_of ns elements) ≡ some m → (is_one_of elements o ≡ true) × (any_of (declares prefix) (scope_of ns (nearer o elements)) ≡ false))
          → (is_one_of (x ∷ elements) o ≡ true) × (any_of (declares prefix) (scope_of ns (nearer o (x ∷ elements))) ≡ false)
      further q none is beyond =
          let later = beyond (sym (first_that-append-none (declares prefix) (own_declarations ns x) (scope_of ns elements) is) ∙ found) in (
            either-right (eqb o x) later.0,
            rw (q, any_of-append (declares prefix) (own_declarations ns x) (scope_of ns (nearer o elements)), none-first_that (declares prefix) (own_declarations ns x) is) later.1,
          )
      further q (some m') is beyond =
          let one : some m' ≡ some m = sym (first_that-append-some (declares prefix) (own_declarations ns x) (scope_of ns elements) is) ∙ found in
          let same : m' ≡ m = cc in
          let owned = (both_true (eqb m'.type DECLARATION) (eqb m'.parent x) (own-found x is)).1 in
          absurd (eqb-false x o q (sym (eqb-true m'.parent x owned) ∙ ap (λ (n : Node). n.parent) same ∙ parent))

-- Row r declares a prefix for its owner, and position d is the first one of the prefix in scope.
module _ (ns : List Node) (unique : Unique ns) (elements : List ℕ) (r d : ℕ) (within : r < length ns) (kind : (node ns r).type ≡ DECLARATION)
    (found : first_that (declares (node ns r).local.bytes) (scope_of ns elements) ≡ row_at (λ k. node ns (k - 1)) d) (low : d ≤ length ns) where
  abbrev prefix : List ℕ
  prefix = (node ns r).local.bytes

  abbrev o : ℕ
  o = (node ns r).parent

  abbrev inherits : Bool
  inherits = is_one_of elements o && not (any_of (declares prefix) (scope_of ns (nearer o elements)))

  is-own : is_declaration_of o (node ns r) ≡ true
  is-own = true-both (eq-eqb (node ns r).type DECLARATION kind) (eq-eqb (node ns r).parent o refl)

  own_any : any_of (declares prefix) (own_declarations ns o) ≡ true
  unfolding own_declarations node
  own_any =
      by_cases (any_of (declares prefix) (own_declarations ns o))
      (λ q. q)
      (λ q.
      let none? : any_of (λ (n : Node). is_declaration_of o n && declares prefix n) ns ≡ false = any_of-filtered (declares prefix) (is_declaration_of o) ns ∙ q in
      let passes : (is_declaration_of o (node ns r) && declares prefix (node ns r)) ≡ true = true-both is-own (same_bytes-refl prefix) in
      absurd (true-not-false passes (first_that-none-get_or (λ (n : Node). is_declaration_of o n && declares prefix n) ns no_node r (first_that-none (λ (n : Node). is_declaration_of o n && declares prefix n) ns none?) within)))

  -- The row that is found is row r.
  nearest-row : inherits ≡ true → d ≡ r + 1
  nearest-row is =
      let both = both_true (is_one_of elements o) (not (any_of (declares prefix) (scope_of ns (nearer o elements)))) is in
      let own = first_that-some (declares prefix) (own_declarations ns o) own_any in
      let first = first-inherited ns prefix o elements both.0 (not-true (any_of (declares prefix) (scope_of ns (nearer o elements))) both.1) own.1 in
      by_cases (eqb d 0)
      (λ q. let z : none ≡ some own.0 = rw q at (sym found ∙ first) in absurd (none-ne-some own.0 z))
      (λ q.
      let other = eqb-false d 0 q in
      let z : some (node ns (d - 1)) ≡ some own.0 = rw q at (sym found ∙ first) in
      let same : node ns (d - 1) ≡ own.0 = cc in
      let mine : is_declaration_of o (node ns (d - 1)) ≡ true = ap (is_declaration_of o) same ∙ own-found ns prefix o o own.1 in
      let declared : declares prefix (node ns (d - 1)) ≡ true = ap (declares prefix) same ∙ first_that-passes (declares prefix) (own_declarations ns o) own.1 in
      let row : d - 1 ≡ r = unique.same (d - 1) r o prefix (omega arith) within (true-both mine declared) (true-both is-own (same_bytes-refl prefix)) in
      omega arith)

  nearest-inherits : d ≡ r + 1 → inherits ≡ true
  nearest-inherits is =
      let row : d - 1 ≡ r = omega arith in
      let here : first_that (declares prefix) (scope_of ns elements) ≡ some (node ns r) = found ∙ rw (ne_eqb d 0 (λ z. omega arith), row) refl in
      let both = found-inherited ns prefix o elements here refl in
      true-both both.0 (ap not both.1)

  pub nearest-is-inherited : eqb d (r + 1) ≡ inherits
  nearest-is-inherited =
      by_cases inherits
      (λ q. eq-eqb d (r + 1) (nearest-row q) ∙ sym q)
      (λ q. ne_eqb d (r + 1) (λ z. true-not-false (nearest-inherits z) q) ∙ sym q)
