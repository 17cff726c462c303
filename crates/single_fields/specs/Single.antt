-- What a single field is refused for.
use Rattle.std.specs.Prelude.{ℕ, List, length}
use Rattle.std.proofs.Math.Option.{Option}
use Rattle.rules.specs.Table.{TYPE, word, field_at}
use Rattle.rules.specs.Refusals.{place_refusal, length_refusal}
use Rattle.rules.specs.declared.Refusal.{Refusal}

-- what the field of row r whose offset is word k is refused for: 3 or 12, and 13
abbrev pub place_refusal_at : List ℕ → List ℕ → ℕ → ℕ → Option Refusal
place_refusal_at table pool r k = place_refusal (length pool) r (k, field_at table pool r k)

abbrev pub length_refusal_at : List ℕ → List ℕ → ℕ → ℕ → Option Refusal
length_refusal_at table pool r k = length_refusal (word table r TYPE) r (k, field_at table pool r k)
