-- Refusal 23 of one row.
use Rattle.std.specs.Prelude.{ℕ, Bool, ◌&&◌, List}
use Rattle.rules.specs.Table.{Node}
use Rattle.markup.specs.Writing.{in_subtree, is_undeclared}

-- Row r is in the subtree of element e, and its prefix does not mean its URI.
abbrev pub undeclared : List Node → ℕ → ℕ → Bool
undeclared ns e r = in_subtree ns e r && is_undeclared ns r
