-- RULES 15, salvage: which rows are dropped, those that draw 6 and those that draw 7 against a kept row, and which are kept.
use Rattle.std.specs.Prelude.{ℕ, zero, suc, List, [], ◌∷◌, ◌++◌}
use Rattle.std.proofs.Math.Option.{Option}
use Rattle.rules.specs.Lists.{any_of}
use Rattle.rules.specs.Table.{Node, node}
use Rattle.rules.specs.Refusals.{refused_if, first_refusal, unless_refused, bad_declaration, is_double}
use Rattle.rules.specs.declared.Refusal.{Refusal}

-- What row r is dropped for, where these rows before it are kept: 6, or else 7 against one of them.
unfoldable pub drop_refusal : List Node → List ℕ → ℕ → Option Refusal
drop_refusal ns before r =
    first_refusal
    (refused_if (bad_declaration (node ns r)) (Refusal.Declaration (record { 0 = r }))
    ∷ refused_if (any_of (λ (s : ℕ). is_double (node ns r) (node ns s)) before) (Refusal.Double (record { 0 = r }))
    ∷ [])

-- The rows below count that are kept, by their numbers.
unfoldable pub kept : List Node → ℕ → List ℕ
kept ns zero = []
kept ns (suc r) = let before = kept ns r in unless_refused (drop_refusal ns before r) (λ (x : Refusal). before) (before ++ r ∷ [])

-- What each of the rows below count that are dropped is dropped for, rows ascending.
unfoldable pub drops_below : List Node → ℕ → List Refusal
drops_below ns zero = []
drops_below ns (suc r) = drops_below ns r ++ unless_refused (drop_refusal ns (kept ns r) r) (λ (x : Refusal). x ∷ []) []
