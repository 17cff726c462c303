-- A line of the table, as the code has it.
use Rattle.std.specs.Prelude.{ℕ, zero, suc, List, [], ◌∷◌, replicate}
use Rattle.std.proofs.Math.Option.{Option, none, some}
use Rattle.rules.specs.Utf8.{Range, tail}

-- What must follow a first byte, from the length of the sequence and the bounds of the second byte. Length 0: no sequence.
abbrev pub ranges_of : ℕ → ℕ → ℕ → Option (List Range)
ranges_of zero low high = none
ranges_of (suc zero) low high = some []
ranges_of (suc (suc later)) low high = some ((low, high) ∷ replicate later tail)
