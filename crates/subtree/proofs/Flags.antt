-- A row is in the subtree exactly if it is the element or its parent is.
-- Assumes nothing.
use Prim.Native.Nat.{ℕ, suc, ◌+◌, ◌<◌, ◌≤◌}
use mathlib.Core.Path.{◌≡◌, refl, sym, ap, ◌∙◌}
use mathlib.Core.Bool.{Bool, true, false}
use mathlib.Core.List.{List}
use native.Mathlib.Omega.{arith}
use borrow.Author.Tests.{eqb-true, eqb-false, eq-eqb, ne_eqb, lt-ltb, le-ltb}
use lib.Dec.{eqb}
use lib.ListN.{length, get_or, set}
use lib.Seq.{get_or-set_same, get_or-set_other}
use Rattle.rules.specs.Lists.{is_one_of}
use Rattle.rules.specs.Table.{PARENT, nodes, node, Node, row_count, word}
use Rattle.rules.specs.Demands.{up_from, self_and_ancestors}
use Rattle.rules.proofs.Lists.{by_cases}
use Rattle.rows.proofs.Words.{parent-word}
use Rattle.markup.specs.Writing.{in_subtree}
use Rattle.markup.proofs.ReadingBack.{up-enough}
use Rattle.subtree.specs.Flags.{flag_of, Flagged}

pub flag-read : (b : Bool) → eqb (flag_of b) 1 ≡ b
flag-read true = refl
flag-read false = refl

module _ (ns : List Node) (e r : ℕ) where
  in-self : r ≡ e → in_subtree ns e r ≡ true
  unfolding in_subtree self_and_ancestors up_from
  in-self is = rw (is, eq-eqb e e refl) refl

  in-parent : (r ≡ e → ⊥) → (node ns r).parent < r → in_subtree ns e r ≡ in_subtree ns e (node ns r).parent
  unfolding in_subtree self_and_ancestors up_from
  in-parent other less = rw (ne_eqb e r (λ x. other (sym x)), lt-ltb (node ns r).parent r less) (ap (λ l. is_one_of l e) (up-enough ns r (suc (node ns r).parent) (node ns r).parent less (omega arith)))

  pub in-none : (r ≡ e → ⊥) → r ≤ (node ns r).parent → in_subtree ns e r ≡ false
  unfolding in_subtree self_and_ancestors up_from
  in-none other past = rw (ne_eqb e r (λ x. other (sym x)), le-ltb (node ns r).parent r past) refl

module _ (table flags : List ℕ) (e r : ℕ) (within : r < row_count table) (flagged : Flagged table flags e r) where
  pub inside-self : r ≡ e → (pool : List ℕ) → true ≡ in_subtree (nodes table pool) e r
  inside-self is pool = sym (in-self (nodes table pool) e r is)

  module _ (other : r ≡ e → ⊥) (parent : ℕ) (read : parent ≡ word table r PARENT) where
    pub inside-parent : parent < r → {is : Bool} → is ≡ eqb (get_or flags parent 0) 1 → (pool : List ℕ) → is ≡ in_subtree (nodes table pool) e r
    inside-parent less told pool =
        let same : (node (nodes table pool) r).parent ≡ parent = parent-word table pool r within ∙ sym read in
        told ∙ ap (λ k. eqb k 1) (flagged pool parent less) ∙ flag-read (in_subtree (nodes table pool) e parent)
        ∙ sym (in-parent (nodes table pool) e r other (rw same less) ∙ ap (in_subtree (nodes table pool) e) same)

    pub inside-none : r ≤ parent → (pool : List ℕ) → false ≡ in_subtree (nodes table pool) e r
    inside-none past pool =
        let same : (node (nodes table pool) r).parent ≡ parent = parent-word table pool r within ∙ sym read in
        sym (in-none (nodes table pool) e r other (rw same past))

  -- The row's flag is stored.
  pub flag-stored : r < length flags → (b : Bool) → ((pool : List ℕ) → b ≡ in_subtree (nodes table pool) e r) → Flagged table (set flags r (flag_of b)) e (r + 1)
  flag-stored long b is pool q h =
      by_cases (eqb r q)
      (λ t. let same = eqb-true r q t in rw (← same) (get_or-set_same flags r (flag_of b) 0 long ∙ ap flag_of (is pool)))
      (λ t. let other = eqb-false r q t in get_or-set_other flags r q (flag_of b) 0 (λ x. other (sym x)) ∙ flagged pool q (omega arith))
