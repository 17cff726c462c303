-- What holds of every answer of a lookup.
-- Assumes nothing.
use Prim.Native.Nat.{ℕ, ◌<◌}
use mathlib.Core.Bool.{Bool, true}
use mathlib.Core.List.{List, [], ◌∷◌}
use mathlib.Core.Option.{Option, none, some}
use mathlib.Core.Path.{◌≡◌, refl, ap, ◌∙◌}
use lib.ListN.{length}
use Rattle.rules.specs.Lists.{first_that}
use Rattle.rules.specs.Table.{Node, no_node, node}
use Rattle.rules.specs.Lookups.{is_declaration_of, own_declarations}
use Rattle.rules.proofs.Lists.{by_cases, all_of-every, all_of-filtered, all_of-first_that}
use Rattle.outward.proofs.Left.{declared_or, Lookup}

-- What holds of nothing, of what an own name answers and of what a declaration answers holds of every answer.
module _ {A : Type 0} (ns : List Node) (lookup : Lookup ns A) (good : A → Bool) (nothing : good lookup.nothing ≡ true) (own : (e : ℕ) → good (lookup.own (node ns e)) ≡ true) (declared : (r : ℕ) → r < length ns → good (lookup.declared (node ns r)) ≡ true) where
  own-declared : (e : ℕ) (d : Node) → first_that lookup.test (own_declarations ns e) ≡ some d → good (lookup.declared d) ≡ true
  unfolding own_declarations node
  own-declared e d is =
      all_of-first_that (λ m. good (lookup.declared m)) lookup.test (own_declarations ns e)
      (all_of-filtered (λ m. good (lookup.declared m)) (is_declaration_of e) ns
      (all_of-every (λ m. good (lookup.declared m)) ns no_node declared))
      is

  declared-or :
      (o : Option Node) (further : A) → ((d : Node) → o ≡ some d → good (lookup.declared d) ≡ true) → good further ≡ true
      → good (declared_or lookup.declared further o) ≡ true
  declared-or none further each later = later
  declared-or (some d) further each later = each d refl

  pub answers-good : (path : List ℕ) → good (lookup.answer path) ≡ true
  answers-good [] = ap good lookup.end ∙ nothing
  answers-good (e ∷ outward) =
      ap good (lookup.step e outward)
      ∙ by_cases (lookup.named (node ns e)) (λ is. rw is (own e))
      (λ is.
      rw is (declared-or (first_that lookup.test (own_declarations ns e)) (lookup.answer outward) (own-declared e) (answers-good outward)))
