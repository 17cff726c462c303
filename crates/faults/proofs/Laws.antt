-- The faults of a row: by its place, then for its names; and what a row without faults is.
-- Assumes nothing.
use Rattle.std.specs.Prelude.{Result, Ok, Err, ⊤}
use Prim.Native.Nat.{ℕ, ◌≤◌, ◌<◌}
use mathlib.Core.Path.{◌≡◌, refl, sym, ap, ◌∙◌}
use mathlib.Core.Bool.{true, false}
use mathlib.Core.List.{List, [], ◌∷◌}
use mathlib.Core.Option.{Option, none, some}
use native.Mathlib.Omega.{arith}
use lib.ListN.{length}
use Rattle.rules.specs.Table.{Node, node_at, nodes, node, row_count}
use Rattle.rules.specs.Refusals.{refused_if, first_refusal, bad_structure, fields_refusal, encodings_refusal, bad_names, bad_namespace, faults, verdict}
use Rattle.rules.specs.declared.Refusal.{Refusal}
use Rattle.rules.proofs.Lists.{true-not-false}
use Rattle.rules.proofs.Table.{node-nodes}
use Rattle.rules.proofs.Refusals.{not-refused, all_none, verdict-accepted, verdict-refused, first_alone, first-append}
use Rattle.rules.proofs.Accepted.{structure-falls}
use Rattle.notes.specs.Notes.{NOTES, LATEST, note_at}
use Rattle.name_refusals.specs.NameRefusals.{names_refusal}
use Rattle.numbering.specs.Numbering.{RowNumbered}
use Rattle.tree.specs.Earlier.{ParentBefore}
use Rattle.faults.specs.Faults.{place_refusal, fault_refusal}

-- What is refused is not accepted.
pub not-accepted : {A : Type 0} {drawn : Result ⊤ Refusal} (x : Refusal) → drawn ≡ Err x → drawn ≡ Ok tt → A
not-accepted x e a = let both : true ≡ false = cc in absurd (true-not-false refl both)

module _ (table pool : List ℕ) (r : ℕ) (h : r < row_count table) where
  pub place-structure : bad_structure (nodes table pool) r ≡ true → Err (Refusal.Structure (record { 0 = r })) ≡ verdict (place_refusal table pool r)
  place-structure s = rw s

  pub place-fields : bad_structure (nodes table pool) r ≡ false → {drawn : Result ⊤ Refusal} → drawn ≡ verdict (fields_refusal (length pool) r (node_at table pool r)) → drawn ≡ verdict (place_refusal table pool r)
  place-fields s d = rw s (d ∙ ap verdict (first_alone (fields_refusal (length pool) r (node_at table pool r))))

  abbrev structure : Option Refusal
  structure = refused_if (bad_structure (nodes table pool) r) (Refusal.Structure (record { 0 = r }))

  parts : fault_refusal table pool r ≡ first_refusal (place_refusal table pool r ∷ names_refusal r (node_at table pool r) ∷ [])
  unfolding faults
  parts =
      let n = node (nodes table pool) r in
      let place : List (Option Refusal) = structure ∷ fields_refusal (length pool) r n ∷ [] in
      let names : List (Option Refusal) =
      encodings_refusal r n ∷ refused_if (bad_names n) (Refusal.Names (record { 0 = r })) ∷ refused_if (bad_namespace n) (Refusal.Namespace (record { 0 = r })) ∷ [] in
      first-append place names
      ∙ ap (λ (m : Node). first_refusal (first_refusal (structure ∷ fields_refusal (length pool) r m ∷ []) ∷ names_refusal r m ∷ [])) (node-nodes table pool r h)

  -- A row without faults stands under an earlier row or alone.
  pub parent-before : fault_refusal table pool r ≡ none → ParentBefore table r
  unfolding faults
  parent-before e =
      rw (node-nodes table pool r h) at (structure-falls (nodes table pool) r (not-refused _ _ (all_none (faults (nodes table pool) (length pool) r) e).0))

  module _ {place : Result ⊤ Refusal} (p : place ≡ verdict (place_refusal table pool r)) where
    pub refused-place : (x : Refusal) → place ≡ Err x → place ≡ verdict (fault_refusal table pool r)
    refused-place x e =
        let f = verdict-refused (place_refusal table pool r) x (sym p ∙ e) in
        let first : fault_refusal table pool r ≡ some x = parts ∙ rw f in
        e ∙ sym (ap verdict first)

    module _ (a : place ≡ Ok tt) where
      no_place : place_refusal table pool r ≡ none
      no_place = verdict-accepted (place_refusal table pool r) (sym p ∙ a)

      pub passed-fields : fields_refusal (length pool) r (node_at table pool r) ≡ none
      passed-fields = (all_none (structure ∷ fields_refusal (length pool) r (node_at table pool r) ∷ []) no_place).1.0

      pub drawn-names : {names : Result ⊤ Refusal} → names ≡ verdict (names_refusal r (node_at table pool r)) → names ≡ verdict (fault_refusal table pool r)
      drawn-names n =
          let names : fault_refusal table pool r ≡ names_refusal r (node_at table pool r) =
          parts ∙ ap (λ (o : Option Refusal). first_refusal (o ∷ names_refusal r (node_at table pool r) ∷ [])) no_place ∙ sym (first_alone (names_refusal r (node_at table pool r))) in
          n ∙ sym (ap verdict names)

-- A row's links are kept where its names get their numbers.
pub links-kept : {before notes after noted pool : List ℕ} {r : ℕ} {n : Node} → RowNumbered before notes after noted pool r n → (q k : ℕ) → LATEST ≤ k → k < NOTES → note_at noted q k ≡ note_at notes q k
links-kept n q k l h = n.others q k h (λ e m. omega arith)
