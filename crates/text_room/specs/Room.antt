-- A text in an output, or refusal 22: what is answered and left.
use Rattle.std.specs.Prelude.{ℕ, List, length, ltb, Ok}
use Rattle.rules.specs.Refusals.{refused_if, unless_refused}
use Rattle.rules.specs.declared.Refusal.{Refusal}
use Rattle.buffers.specs.Writes.{cleared}
use Rattle.bundles.specs.Operations.{WriteOutcome, write_refused, write_done}

-- A text in an output of so many bytes, or 22.
unfoldable pub fitted : ℕ → List ℕ → WriteOutcome
fitted size text = unless_refused (refused_if (ltb size (length text)) Refusal.TextRoom) (write_refused size) (write_done size text)

-- The same of an output in which a text was put, by where it ends.
unfoldable pub completed : List ℕ → ℕ → WriteOutcome
completed out end =
    unless_refused (refused_if (ltb (length out) end) Refusal.TextRoom) (write_refused (length out))
    (record { answer = Ok end; bytes = cleared out end })
