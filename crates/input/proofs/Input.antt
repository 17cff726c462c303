-- The refusals that the input draws.
-- Assumes nothing.
use Rattle.std.specs.Prelude.{Result, Ok, Err, ⊤}
use Prim.Native.Nat.{ℕ, ◌≤◌}
use mathlib.Core.Path.{◌≡◌, refl, sym, ◌∙◌}
use mathlib.Core.List.{List, [], ◌∷◌}
use mathlib.Core.Option.{Option, none, some}
use Rattle.rules.specs.Table.{MOST_ROWS, nodes, row_count}
use Rattle.rules.specs.Refusals.{first_refusal, verdict, check_refusal, checked}
use Rattle.rules.specs.Normalization.{level1_refusal}
use Rattle.rules.specs.declared.Refusal.{Refusal}
use Rattle.rules.proofs.Refusals.{all_none, verdict-accepted, verdict-refused}
use Rattle.rules.proofs.Accepted.{Accepted, accepted, unrefused, few-rows}
use Rattle.input.specs.Input.{input_refusal}

first_one : (o : Option Refusal) → first_refusal (o ∷ []) ≡ o
first_one none = refl
first_one (some x) = refl

module _ (table pool : List ℕ) where
  -- What the check answers.
  module _ {drawn : Result ⊤ Refusal} (is : drawn ≡ checked table pool) where
    pub check-refused : (x : Refusal) → drawn ≡ Err x → input_refusal table pool ≡ some x
    unfolding input_refusal checked
    check-refused x told = rw (verdict-refused (check_refusal table pool) x (sym is ∙ told)) refl

    module _ (told : drawn ≡ Ok tt) where
      pub judge-few : row_count table ≤ MOST_ROWS
      judge-few = few-rows table pool (accepted table pool (sym is ∙ told)).size

      then-level1 : input_refusal table pool ≡ level1_refusal (nodes table pool)
      unfolding input_refusal checked
      then-level1 = rw (verdict-accepted (check_refusal table pool) (sym is ∙ told)) (first_one (level1_refusal (nodes table pool)))

      -- And then the rows of DOM Level 1.
      module _ {r : Result ⊤ Refusal} (scanned : r ≡ verdict (level1_refusal (nodes table pool))) where
        pub level1-refused : (x : Refusal) → r ≡ Err x → input_refusal table pool ≡ some x
        level1-refused x e = then-level1 ∙ verdict-refused (level1_refusal (nodes table pool)) x (sym scanned ∙ e)

        pub none-refused : r ≡ Ok tt → input_refusal table pool ≡ none
        none-refused e = then-level1 ∙ verdict-accepted (level1_refusal (nodes table pool)) (sym scanned ∙ e)

  -- The input draws none.
  module _ (e : input_refusal table pool ≡ none) where
    both-none : (check_refusal table pool ≡ none) × (level1_refusal (nodes table pool) ≡ none)
    unfolding input_refusal
    both-none = let a = all_none (check_refusal table pool ∷ level1_refusal (nodes table pool) ∷ []) e in (a.0, a.1.0)

    pub unchecked : check_refusal table pool ≡ none
    unchecked = both-none.0

    pub unleveled : level1_refusal (nodes table pool) ≡ none
    unleveled = both-none.1

    pub input-accepted : Accepted table pool
    input-accepted = unrefused table pool unchecked
