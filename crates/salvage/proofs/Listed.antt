-- Every row is kept or listed, and never both; and what is dropped is an attribute or a declaration, which holds no row.
-- Assumes nothing.
use Prim.Native.Nat.{ℕ, zero, suc, ◌≤◌, ◌<◌}
use mathlib.Core.Path.{◌≡◌, refl, sym, ◌∙◌, ap, subst}
use mathlib.Core.Logic.{inl, inr}
use mathlib.Core.Bool.{Bool, true, false, ◌||◌, not}
use mathlib.Core.List.{List, [], ◌∷◌}
use mathlib.Core.Option.{Option, none, some, none-ne-some, some-injective}
use native.Mathlib.Nat.{le_refl, not-suc-le-zero}
use native.Mathlib.Omega.{arith}
use lib.ListN.{length}
use lib.Dec.{eqb}
use borrow.Author.Tests.{eqb-true, eqb-false, eq-eqb, ne_eqb}
use Rattle.rules.specs.Lists.{any_of, is_one_of}
use Rattle.rules.specs.Table.{ATTRIBUTE, DECLARATION, LEVEL1_ATTRIBUTE, Node, nodes, node}
use Rattle.rules.specs.Answers.{number_of}
use Rattle.rules.specs.Refusals.{bad_declaration, is_double}
use Rattle.rules.specs.declared.Refusal.{Refusal}
use Rattle.rules.proofs.Lists.{by_cases, any_of-append, true-not-false}
use Rattle.dropped_rows.specs.Dropped.{drop_refusal, kept, drops_below}
use Rattle.salvage.specs.Salvage.{drops, fault_refusal}
use Rattle.salvage.specs.Demands.{KeptOrListed, DropsOwned}
use Rattle.dropped_rows.proofs.Kept.{IsKept, kept_next, kept-not, either, drops-next, drops-not}
use Rattle.salvage.proofs.Passes.{is_owned, not-dropped, Parent, parent_of}
use Rattle.salvage.proofs.Result.{small, good}

is_none : Option Refusal → Bool
is_none none = true
is_none (some x) = false

or-false : (b : Bool) → (b || false) ≡ b
or-false true = refl
or-false false = refl

module _ (ns : List Node) where
  fate : ℕ → Bool
  fate r = is_none (drop_refusal ns (kept ns r) r)

  -- A row is listed among the kept ones if it is kept, and no row beyond.
  one_more : (n r : ℕ) → IsKept ns n → is_one_of (kept ns (suc n)) r ≡ (is_one_of (kept ns n) r || (eqb r n || false))
  one_more n r k = ap (λ (l : List ℕ). is_one_of l r) (kept_next ns n k) ∙ any_of-append (eqb r) (kept ns n) (n ∷ [])

  not_more : (n r : ℕ) (x : Refusal) → drop_refusal ns (kept ns n) n ≡ some x → is_one_of (kept ns (suc n)) r ≡ is_one_of (kept ns n) r
  not_more n r x k = ap (λ (l : List ℕ). is_one_of l r) (kept-not ns n x k)

  beyond : (n r : ℕ) → n ≤ r → is_one_of (kept ns n) r ≡ false
  unfolding kept
  beyond zero r h = refl
  beyond (suc n) r h =
      either ns n
      (λ k. one_more n r k ∙ rw (beyond n r (omega arith), ne_eqb r n (λ z. omega (arith, h, z))) refl)
      (λ x k. not_more n r x k ∙ beyond n r (omega arith))

  is-kept : (n r : ℕ) → r < n → is_one_of (kept ns n) r ≡ fate r
  unfolding fate is_none
  is-kept zero r h = absurd (not-suc-le-zero h)
  is-kept (suc n) r h =
      by_cases (eqb r n)
      (λ q.
      let z = eqb-true r n q in
      let last : is_one_of (kept ns (suc n)) n ≡ fate n =
      either ns n
      (λ k. one_more n n k ∙ rw (k, beyond n n (le_refl n), eq-eqb n n refl) refl)
      (λ x k. not_more n n x k ∙ rw (k, beyond n n (le_refl n)) refl)
      in
      subst (λ (i : ℕ). is_one_of (kept ns (suc n)) i ≡ fate i) (sym z) last)
      (λ q.
      let l : r < n = omega (arith, eqb-false r n q, h) in
      either ns n
      (λ k. one_more n r k ∙ rw (is-kept n r l, q) (or-false (fate r)))
      (λ x k. not_more n r x k ∙ is-kept n r l))

  pub told-kept : (r : ℕ) → r < length ns → is_one_of (kept ns (length ns)) r ≡ true → IsKept ns r
  unfolding fate is_none
  told-kept r i e =
      either ns r
      (λ k. k)
      (λ x k. absurd (true-not-false e (is-kept (length ns) r i ∙ rw k refl)))

  pub kept-told : (r : ℕ) → r < length ns → IsKept ns r → is_one_of (kept ns (length ns)) r ≡ true
  unfolding fate is_none
  kept-told r i k = is-kept (length ns) r i ∙ rw k refl

  -- What a row puts on the list names it.
  pub drop-row : (before : List ℕ) (r : ℕ) (x : Refusal) → drop_refusal ns before r ≡ some x → (number_of x).row ≡ r
  unfolding drop_refusal number_of
  drop-row before r x e =
      by_cases (bad_declaration (node ns r))
      (λ q. ap (λ (y : Refusal). (number_of y).row) (sym (some-injective (Refusal.Declaration (record { 0 = r })) x (rw q at e))))
      (λ q.
      by_cases (any_of (λ (s : ℕ). is_double (node ns r) (node ns s)) before)
      (λ t. ap (λ (y : Refusal). (number_of y).row) (sym (some-injective (Refusal.Double (record { 0 = r })) x (rw (q, t) at e))))
      (λ t. absurd (none-ne-some x (rw (q, t) at e))))

  names : ℕ → Refusal → Bool
  names r x = eqb (number_of x).row r

  list-more : (n r : ℕ) (x : Refusal) → drop_refusal ns (kept ns n) n ≡ some x → any_of (names r) (drops_below ns (suc n)) ≡ (any_of (names r) (drops_below ns n) || (eqb n r || false))
  unfolding names
  list-more n r x k =
      ap (any_of (names r)) (drops-next ns n x k) ∙ any_of-append (names r) (drops_below ns n) (x ∷ [])
      ∙ ap (λ (i : ℕ). any_of (names r) (drops_below ns n) || (eqb i r || false)) (drop-row (kept ns n) n x k)

  list-not : (n r : ℕ) → IsKept ns n → any_of (names r) (drops_below ns (suc n)) ≡ any_of (names r) (drops_below ns n)
  list-not n r k = ap (any_of (names r)) (drops-not ns n k)

  not_listed : (n r : ℕ) → n ≤ r → any_of (names r) (drops_below ns n) ≡ false
  unfolding drops_below
  not_listed zero r h = refl
  not_listed (suc n) r h =
      either ns n
      (λ k. list-not n r k ∙ not_listed n r (omega arith))
      (λ x k. list-more n r x k ∙ rw (not_listed n r (omega arith), ne_eqb n r (λ z. omega (arith, h, z))) refl)

  in_list : (n r : ℕ) → r < n → any_of (names r) (drops_below ns n) ≡ not (fate r)
  unfolding fate is_none
  in_list zero r h = absurd (not-suc-le-zero h)
  in_list (suc n) r h =
      by_cases (eqb n r)
      (λ q.
      let z = eqb-true n r q in
      let last : any_of (names n) (drops_below ns (suc n)) ≡ not (fate n) =
      either ns n
      (λ k. list-not n n k ∙ rw (k, not_listed n n (le_refl n)) refl)
      (λ x k. list-more n n x k ∙ rw (k, not_listed n n (le_refl n), eq-eqb n n refl) refl)
      in
      subst (λ (i : ℕ). any_of (names i) (drops_below ns (suc n)) ≡ not (fate i)) z last)
      (λ q.
      let l : r < n = omega (arith, eqb-false n r q, h) in
      either ns n
      (λ k. list-not n r k ∙ in_list n r l)
      (λ x k. list-more n r x k ∙ rw (in_list n r l, q) (or-false (not (fate r)))))

  not-not : (b : Bool) → b ≡ not (not b)
  not-not true = refl
  not-not false = refl

  kept-or-listed-row : (r : ℕ) → r < length ns → is_one_of (kept ns (length ns)) r ≡ not (any_of (names r) (drops ns))
  unfolding drops
  kept-or-listed-row r i = is-kept (length ns) r i ∙ not-not (fate r) ∙ ap not (sym (in_list (length ns) r i))

pub kept-or-listed : KeptOrListed
unfolding names
kept-or-listed table pool r i = kept-or-listed-row (nodes table pool) r i

-- What is dropped is an attribute or a declaration, and no row's parent.
module _ (table pool : List ℕ) (e : fault_refusal table pool ≡ none) (r : ℕ) (i : r < length (nodes table pool)) (dropped : is_one_of (kept (nodes table pool) (length (nodes table pool))) r ≡ false) where
  abbrev rows : List Node
  rows = nodes table pool

  not-kept : IsKept rows r → ⊥
  unfolding fate is_none
  not-kept k = true-not-false (is-kept rows (length rows) r i ∙ rw k refl) dropped

  owned : is_one_of (ATTRIBUTE ∷ DECLARATION ∷ LEVEL1_ATTRIBUTE ∷ []) (node rows r).type ≡ true
  unfolding is_owned
  owned = by_cases (is_one_of (ATTRIBUTE ∷ DECLARATION ∷ LEVEL1_ATTRIBUTE ∷ []) (node rows r).type) (λ q. q) (λ q. absurd (not-kept (not-dropped rows r q)))

  no-parent : (s : ℕ) → s < length rows → (node rows s).parent ≡ r → ⊥
  unfolding Parent
  no-parent s l z = go (parent_of rows (length pool) (small table pool e) (good table pool e) s l)
    where
      go : Parent rows (length pool) (small table pool e) (good table pool e) s (node rows s).parent → ⊥
      go (inl none?) = omega (arith, small table pool e, i, sym z ∙ none?)
      go (inr k) = not-kept (subst (IsKept rows) z k.1)

pub drops-owned : DropsOwned
drops-owned table pool e r i dropped = (owned table pool e r i dropped, no-parent table pool e r i dropped)
