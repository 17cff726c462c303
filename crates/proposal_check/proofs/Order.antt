-- What a proposal is refused for, from what the parts answer.
-- Assumes nothing.
use Rattle.std.specs.Prelude.{Result, Ok, Err, ⊤}
use Prim.Native.Nat.{ℕ, ◌≤◌, ◌<◌}
use mathlib.Core.Path.{◌≡◌, refl, sym, ap, ◌∙◌}
use mathlib.Core.Bool.{true, false}
use mathlib.Core.List.{List, [], ◌∷◌}
use mathlib.Core.Option.{Option, none, some}
use native.Mathlib.Omega.{arith}
use borrow.Author.Tests.{lt-leb}
use lib.Dec.{leb}
use lib.ListN.{length}
use Rattle.rules.specs.Table.{Node, nodes, row_count}
use Rattle.rules.specs.Answers.{number_of}
use Rattle.rules.specs.Refusals.{refused_if, first_refusal, verdict, bad_size, row_refusal, check_refusal, checked}
use Rattle.rules.specs.Lookups.{lookup_refusal}
use Rattle.rules.specs.declared.Refusal.{Refusal}
use Rattle.rules.proofs.Table.{length-nodes}
use Rattle.rules.proofs.Refusals.{all_none, verdict-accepted, verdict-refused, first_alone, first-append, first-refused, first-passed, none-lowest}
use Rattle.refusal_numbers.specs.declared.Number.{Number}
use Rattle.refusal_numbers.specs.Given.{refusal_given}
use Rattle.proposals.specs.Proposals.{failed, level_refusal, changes_refusal, is_unresolved, unresolved_refusal, judged, proposal_refusal, proposal_checked}

-- What the check of a table tells.
pub accepted : (table pool : List ℕ) {answer : Result ⊤ Refusal} → answer ≡ checked table pool → answer ≡ Ok tt → check_refusal table pool ≡ none
unfolding checked
accepted table pool told is = verdict-accepted (check_refusal table pool) (sym told ∙ is)

pub refused : (table pool : List ℕ) {answer : Result ⊤ Refusal} → answer ≡ checked table pool → (x : Refusal) → answer ≡ Err x → check_refusal table pool ≡ some x
unfolding checked
refused table pool told x is = verdict-refused (check_refusal table pool) x (sym told ∙ is)

-- A table without rows is refused for its size alone.
pub size-refused : (table pool : List ℕ) → bad_size table pool ≡ true → check_refusal table pool ≡ some Refusal.Size
unfolding check_refusal
size-refused table pool e = rw e refl

pub size-accepted : (table pool : List ℕ) → bad_size table pool ≡ false → row_count table ≤ 0 → check_refusal table pool ≡ none
unfolding check_refusal
size-accepted table pool e empty =
    rw (e, none-lowest (row_refusal (nodes table pool) (length pool)) (row_count table) (λ r l. absurd (omega (arith, l, empty)))) refl

-- A lookup from a row that is there is refused for what the check refuses.
pub lookup-refused : (table pool : List ℕ) (x : Refusal) → 0 < row_count table → lookup_refusal table pool 0 ≡ some x → check_refusal table pool ≡ some x
unfolding lookup_refusal
lookup-refused table pool x some-row e = go (check_refusal table pool) (rw (lt-leb (row_count table) 0 some-row) at e)
  where
    go : (o : Option Refusal) → first_refusal (o ∷ none ∷ []) ≡ some x → o ≡ some x
    go none e = e
    go (some y) e = e

pub lookup-accepted : (table pool : List ℕ) (r : ℕ) → lookup_refusal table pool r ≡ none → check_refusal table pool ≡ none
unfolding lookup_refusal
lookup-accepted table pool r e = (all_none (check_refusal table pool ∷ refused_if (leb (row_count table) r) Refusal.NoSuchRow ∷ []) e).0

module _ (original pool proposal other : List ℕ) where
  abbrev ns : List Node
  ns = nodes original pool

  abbrev ms : List Node
  ms = nodes proposal other

  -- 40.
  pub original-fails : (x : Refusal) → check_refusal original pool ≡ some x → Err (Refusal.Original (record { 0 = (number_of x).row }) (number_of x).word) ≡ proposal_checked original pool proposal other
  unfolding proposal_checked proposal_refusal judged failed
  original-fails x e = rw e refl

  module _ (a : check_refusal original pool ≡ none) where
    -- 41.
    pub proposal-fails : (x : Refusal) → check_refusal proposal other ≡ some x → Err (Refusal.Proposal (record { 0 = (number_of x).row }) (number_of x).word) ≡ proposal_checked original pool proposal other
    unfolding proposal_checked proposal_refusal judged failed
    proposal-fails x e = rw (a, e) refl

    module _ (b : check_refusal proposal other ≡ none) where
      abbrev rows : List (Option Refusal)
      rows = level_refusal ns ∷ level_refusal ms ∷ changes_refusal ns ms ∷ []

      later : proposal_checked original pool proposal other ≡ verdict (first_refusal (first_refusal rows ∷ first_refusal (unresolved_refusal ms ∷ []) ∷ []))
      unfolding proposal_checked proposal_refusal judged failed
      later = rw (a, b) (ap verdict (first-append rows (unresolved_refusal ms ∷ [])))

      module _ {answer : Result ⊤ Refusal} (told : answer ≡ verdict (first_refusal rows)) where
        -- 42 and 43.
        pub rows-refused : (x : Refusal) → answer ≡ Err x → Err x ≡ proposal_checked original pool proposal other
        rows-refused x is = sym is ∙ first-refused (first_refusal rows) (first_refusal (unresolved_refusal ms ∷ []) ∷ []) told x is ∙ sym later

        -- 44.
        pub rows-passed : answer ≡ Ok tt → {names : Result ⊤ Refusal} → names ≡ verdict (unresolved_refusal ms) → names ≡ proposal_checked original pool proposal other
        rows-passed is e =
            e
            ∙ ap verdict (first_alone (unresolved_refusal ms) ∙ first_alone (first_refusal (unresolved_refusal ms ∷ [])) ∙ sym (first-passed (first_refusal rows) (first_refusal (unresolved_refusal ms ∷ []) ∷ []) told is))
            ∙ sym later

        -- A proposal of no rows has no names.
        pub rows-alone : row_count proposal ≤ 0 → answer ≡ proposal_checked original pool proposal other
        rows-alone empty =
            let count = length-nodes proposal other in
            let nameless : unresolved_refusal ms ≡ none =
            none-lowest (λ (r : ℕ). refused_if (is_unresolved ms r) (Refusal.Unresolved (record { 0 = r }))) (length ms) (λ r i. absurd (omega (arith, i, count, empty))) in
            told ∙ ap verdict (last (first_refusal rows) (unresolved_refusal ms) nameless) ∙ sym later
          where
            last : (o later : Option Refusal) → later ≡ none → o ≡ first_refusal (o ∷ first_refusal (later ∷ []) ∷ [])
            last none later e = rw e refl
            last (some x) later e = refl

-- 40 and 41 from the numbers of the check that failed.
module _ (x : Refusal) {told : Number} (is : told ≡ refusal_given x) where
  pub original-told : ◌≡◌ {A = Result ⊤ Refusal} (Err (Refusal.Original told.row told.word)) (Err (Refusal.Original (record { 0 = (number_of x).row }) (number_of x).word))
  original-told = ap (λ (n : Number). Err (Refusal.Original n.row n.word)) is

  pub proposal-told : ◌≡◌ {A = Result ⊤ Refusal} (Err (Refusal.Proposal told.row told.word)) (Err (Refusal.Proposal (record { 0 = (number_of x).row }) (number_of x).word))
  proposal-told = ap (λ (n : Number). Err (Refusal.Proposal n.row n.word)) is
