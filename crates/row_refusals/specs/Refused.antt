-- What a row is refused for where it is to be written, behind the check and 8, and before 22.
use Rattle.std.specs.Prelude.{ℕ, List, [], ◌∷◌}
use Rattle.std.proofs.Math.Option.{Option}
use Rattle.rules.specs.Table.{Node}
use Rattle.rules.specs.Refusals.{first_refusal}
use Rattle.rules.specs.Normalization.{level1_refusal}
use Rattle.rules.specs.declared.Refusal.{Refusal}
use Rattle.markup.specs.Writing.{element_to_write, subtree_refusal}

unfoldable pub row_refusal : List Node → ℕ → Option Refusal
row_refusal ns start = first_refusal (level1_refusal ns ∷ subtree_refusal ns start (element_to_write ns start) ∷ [])
