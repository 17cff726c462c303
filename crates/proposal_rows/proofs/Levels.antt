-- Rows of DOM Level 1, and what comes of refusals 42 and 43.
-- Assumes nothing.
use Rattle.std.specs.Prelude.{Result, Ok, Err, ⊤}
use Prim.Native.Nat.{ℕ, ◌≤◌, ◌<◌}
use mathlib.Core.Path.{◌≡◌, refl, sym, ap, ◌∙◌}
use mathlib.Core.Bool.{Bool}
use mathlib.Core.List.{List, [], ◌∷◌}
use mathlib.Core.Option.{Option, none, some}
use Rattle.rules.specs.Table.{MOST_ROWS, TYPE, Node, nodes, word, row_count, is_level1}
use Rattle.rules.specs.Refusals.{first_refusal, verdict, check_refusal}
use Rattle.rules.specs.declared.Refusal.{Refusal}
use Rattle.rules.proofs.Refusals.{verdict-accepted, verdict-refused, first-refused, first-passed}
use Rattle.rules.proofs.Accepted.{unrefused, few-rows}
use Rattle.rows.proofs.Words.{type-word}
use Rattle.proposals.specs.Proposals.{is_level1_row, level_refusal, changes_refusal}
use Rattle.proposals.proofs.Acceptance.{levels-kept}

-- A table that is not refused has no more rows than it may have.
pub few : (table pool : List ℕ) → check_refusal table pool ≡ none → row_count table ≤ MOST_ROWS
few table pool accepted = few-rows table pool (unrefused table pool accepted).size

-- What is read of a row.
pub level-told : (table pool : List ℕ) (r : ℕ) → r < row_count table → {kind : ℕ} → kind ≡ word table r TYPE → {is : Bool} → is ≡ is_level1 kind → is ≡ is_level1_row (nodes table pool) r
level-told table pool r inside read told = told ∙ ap is_level1 (read ∙ sym (type-word table pool r inside))

-- 42 before other refusals.
module _ (o : Option Refusal) (later : List (Option Refusal)) {level : Result ⊤ Refusal} (told : level ≡ verdict o) where
  pub level-passed : level ≡ Ok tt → {drawn : Result ⊤ Refusal} → drawn ≡ verdict (first_refusal later) → drawn ≡ verdict (first_refusal (o ∷ later))
  level-passed is e = e ∙ ap verdict (sym (first-passed o later told is))

  pub level-first : (x : Refusal) → level ≡ Err x → Err x ≡ verdict (first_refusal (o ∷ later))
  level-first x is = sym is ∙ first-refused o later told x is

-- 43 counts only where the original draws no 42.
behind : (o p drawn : Option Refusal) (x : Refusal) → (o ≡ none → drawn ≡ some x) → first_refusal (o ∷ p ∷ some x ∷ []) ≡ first_refusal (o ∷ p ∷ drawn ∷ [])
behind none p drawn x e = ap (λ q. first_refusal (p ∷ q ∷ [])) (sym (e refl))
behind (some y) p drawn x e = refl

-- 42 and 43 of the two tables.
module _ (ns ms : List Node) {kept : Result ⊤ Refusal} (told : level_refusal ns ≡ none → kept ≡ verdict (changes_refusal ns ms)) where
  pub rows-kept : level_refusal ns ≡ none → kept ≡ Ok tt → (Ok tt) ≡ verdict (first_refusal (level_refusal ns ∷ level_refusal ms ∷ changes_refusal ns ms ∷ []))
  rows-kept level2 is =
      let none? = verdict-accepted (changes_refusal ns ms) (sym (told level2) ∙ is) in
      rw (level2, levels-kept ns ms level2 none?, none?) refl

  pub rows-changed : (x : Refusal) → kept ≡ Err x → {drawn : Result ⊤ Refusal} → drawn ≡ verdict (first_refusal (level_refusal ns ∷ level_refusal ms ∷ some x ∷ [])) → drawn ≡ verdict (first_refusal (level_refusal ns ∷ level_refusal ms ∷ changes_refusal ns ms ∷ []))
  rows-changed x is e =
      e ∙ ap verdict (behind (level_refusal ns) (level_refusal ms) (changes_refusal ns ms) x (λ level2. verdict-refused (changes_refusal ns ms) x (sym (told level2) ∙ is)))
