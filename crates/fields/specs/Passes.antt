-- The two passes over the fields of a row.
use Rattle.std.specs.Prelude.{ℕ, ◌+◌, Bool, ◌&&◌, List, map, eqb, length}
use Rattle.std.proofs.Math.Option.{Option}
use Rattle.rules.specs.Table.{TYPE, word, node_at, worded_fields}
use Rattle.rules.specs.Refusals.{first_refusal, place_refusal, length_refusal}
use Rattle.rules.specs.declared.Refusal.{Refusal}
pub use Rattle.single_fields.specs.Single.{place_refusal_at, length_refusal_at}

-- what the fields of row r are refused for: 3 or 12, and 13
abbrev pub places_refusal : List ℕ → List ℕ → ℕ → Option Refusal
places_refusal table pool r = first_refusal (map (place_refusal (length pool) r) (worded_fields (node_at table pool r)))

abbrev pub lengths_refusal : List ℕ → List ℕ → ℕ → Option Refusal
lengths_refusal table pool r = first_refusal (map (length_refusal (word table r TYPE) r) (worded_fields (node_at table pool r)))

-- The field of row r whose offset is word k has neither an offset nor a length.
abbrev pub is_nothing : List ℕ → ℕ → ℕ → Bool
is_nothing table r k = eqb (word table r k) 0 && eqb (word table r (k + 1)) 0
