-- Going through the rows for the lowest one of DOM Level 1.
-- Assumes nothing.
use Rattle.std.specs.Prelude.{Err}
use Prim.Native.Nat.{ℕ, ◌+◌, ◌<◌}
use mathlib.Core.Path.{◌≡◌, refl, sym, ◌∙◌, ap}
use mathlib.Core.Bool.{Bool, true, false}
use mathlib.Core.List.{List}
use mathlib.Core.Option.{Option}
use Rattle.rules.specs.Table.{TYPE, nodes, node, word, row_count, is_level1}
use Rattle.rules.specs.Refusals.{refused_if, lowest_refusal, verdict}
use Rattle.rules.specs.Normalization.{level1_refusal}
use Rattle.rules.specs.declared.Refusal.{Refusal}
use Rattle.rules.proofs.Table.{length-nodes}
use Rattle.rules.proofs.Refusals.{refusal_from, from_start, from-refused, from_next}
use Rattle.rows.proofs.Words.{type-word}

module _ (table pool : List ℕ) where
  -- Refusal 9 of a row.
  abbrev row_level1 : ℕ → Option Refusal
  row_level1 r = refused_if (is_level1 (node (nodes table pool) r).type) (Refusal.Level1 (record { 0 = r }))

  -- The rows from r on decide.
  abbrev pub Scanning : ℕ → Type 0
  Scanning r = level1_refusal (nodes table pool) ≡ refusal_from row_level1 (row_count table) r

  pub scan-start : Scanning 0
  unfolding level1_refusal
  scan-start = ap (lowest_refusal row_level1) (length-nodes table pool) ∙ sym (from_start row_level1 (row_count table))

  module _ (r : ℕ) (scanning : Scanning r) (inside : r < row_count table) (kind : ℕ) (read : kind ≡ word table r TYPE) (is : Bool) (told : is ≡ is_level1 kind) where
    judged : is_level1 (node (nodes table pool) r).type ≡ is
    judged = ap is_level1 (type-word table pool r inside ∙ sym read) ∙ sym told

    pub scan-found : is ≡ true → verdict (level1_refusal (nodes table pool)) ≡ Err (Refusal.Level1 (record { 0 = r }))
    scan-found e = ap verdict (scanning ∙ from-refused row_level1 (row_count table) r inside (Refusal.Level1 (record { 0 = r })) (rw (judged ∙ e) refl))

    pub scan-next : is ≡ false → Scanning (r + 1)
    scan-next e = scanning ∙ from_next row_level1 (row_count table) r inside (rw (judged ∙ e) refl)
