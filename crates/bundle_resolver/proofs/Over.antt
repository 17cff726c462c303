-- A lookup in equal tables.
-- Assumes nothing.
use Prim.Native.Nat.{ℕ}
use mathlib.Core.List.{List}
use mathlib.Core.Path.{◌≡◌, ap}
use Rattle.rules.specs.Lookups.{lookup_at}
use Rattle.rules.specs.declared.Question.{Question}

pub over-table : {table table' : List ℕ} (question : Question) (pool : List ℕ) (r : ℕ) (query : List ℕ) → table ≡ table' → lookup_at question table pool r query ≡ lookup_at question table' pool r query
over-table question pool r query e = ap (λ (t : List ℕ). lookup_at question t pool r query) e
