-- The conflicts of a row, one after the other; and what a row without one leaves.
-- Assumes nothing.
use Rattle.std.specs.Prelude.{Result, Ok, Err, ⊤}
use Prim.Native.Nat.{ℕ, ◌+◌, ◌<◌}
use mathlib.Core.Path.{◌≡◌, sym, ap, ◌∙◌}
use mathlib.Core.Bool.{Bool, true, false}
use mathlib.Core.List.{List, [], ◌∷◌}
use mathlib.Core.Option.{Option}
use native.Mathlib.Omega.{arith}
use borrow.Author.Tests.{ne_eqb, eq-eqb}
use Rattle.rules.specs.Table.{DECLARATION, Node, node_at, nodes, node, row_count}
use Rattle.rules.specs.Refusals.{refused_if, first_refusal, bad_declaration, conflicts, verdict}
use Rattle.rules.specs.declared.Refusal.{Refusal}
use Rattle.rules.proofs.Table.{node-nodes, length-nodes}
use Rattle.numbers.specs.Numbers.{Names}
use Rattle.numbers.specs.Noted.{declared_uri, NodeNumbered}
use Rattle.dictionary.specs.Dictionary.{last_of, spelling, Dictionary}
use Rattle.dictionary.proofs.Laws.{has_words}
use Rattle.doubles.specs.Doubles.{bucket_at, Behind, Entered, has_double}
use Rattle.doubles.proofs.Keys.{double-any}
use Rattle.doubles.proofs.Adding.{added, passed}
use Rattle.conflicts.specs.Conflicts.{conflict_refusal, Known, settled}

-- 6, of a row that is no declaration
pub declaration-other : (n : Node) {kind : ℕ} → kind ≡ n.type → (kind ≡ DECLARATION → ⊥) → false ≡ bad_declaration n
unfolding bad_declaration
declaration-other n t d = rw (ne_eqb n.type DECLARATION (λ e. d (t ∙ e)))

-- The value of a declaration is what has a number.
pub declared-value : {spelling : ℕ → List ℕ} {last number : ℕ} (n : Node) → n.type ≡ DECLARATION → Names spelling last number (declared_uri n) → Names spelling last number n.value.bytes
declared-value n d v = rw (eq-eqb n.type DECLARATION d) at v

-- The numbers of a row whose names have theirs are of the dictionary.
pub known : {dictionary pool notes : List ℕ} {r : ℕ} {n : Node} → Dictionary dictionary pool → NodeNumbered notes (spelling dictionary pool) (last_of dictionary) r n → Known dictionary notes r
known g n = record { local = has_words g _ n.local; value = has_words g _ n.value }

module _ (enters : ℕ → Bool) (table pool : List ℕ) (r : ℕ) (h : r < row_count table) {six : Bool} (s : six ≡ bad_declaration (node_at table pool r)) where
  here : bad_declaration (node (nodes table pool) r) ≡ six
  here = rw (node-nodes table pool r h) (sym s)

  pub conflict-declaration : six ≡ true → Err (Refusal.Declaration (record { 0 = r })) ≡ verdict (conflict_refusal enters (nodes table pool) r)
  conflict-declaration e = rw (here, e)

  module _ (e : six ≡ false) {seven : Bool} (d : seven ≡ has_double enters (nodes table pool) r) where
    pub conflict-double : seven ≡ true → Err (Refusal.Double (record { 0 = r })) ≡ verdict (conflict_refusal enters (nodes table pool) r)
    conflict-double f = rw (here, e, ← d, f)

    pub conflict-none : seven ≡ false → (Ok tt) ≡ verdict (conflict_refusal enters (nodes table pool) r)
    conflict-none f = rw (here, e, ← d, f)

-- Where all rows are entered, these are the conflicts of the rules.
pub conflicts-all : (table pool : List ℕ) (r : ℕ) → r < row_count table → conflict_refusal (λ _. true) (nodes table pool) r ≡ first_refusal (conflicts (nodes table pool) r)
unfolding conflicts
conflicts-all table pool r h =
    let six : Option Refusal = refused_if (bad_declaration (node (nodes table pool) r)) (Refusal.Declaration (record { 0 = r })) in
    ap (λ (seven : Bool). first_refusal (six ∷ refused_if seven (Refusal.Double (record { 0 = r })) ∷ [])) (double-any (nodes table pool) r (rw length-nodes (omega arith)))

-- What the chains are after the row: whether it is entered must be what was drawn.
module _ {enters : ℕ → Bool} {table notes chains : List ℕ} {r : ℕ} (h : r < row_count table) (g : Entered enters table notes chains r) {b : ℕ} (q : b ≡ bucket_at table notes (r + 1)) where
  pub settled-entered : enters r ≡ true → Behind table r → {drawn : Result ⊤ Refusal} → drawn ≡ Ok tt → Entered enters table notes (settled drawn chains b r) (r + 1)
  unfolding settled
  settled-entered e own a = rw a (added h g e own q)

  pub settled-passed : enters r ≡ false → {drawn : Result ⊤ Refusal} (x : Refusal) → drawn ≡ Err x → Entered enters table notes (settled drawn chains b r) (r + 1)
  unfolding settled
  settled-passed e x a = rw a (passed h g e)
