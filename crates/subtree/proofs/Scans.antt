-- Going through the rows for the lowest one that passes a test.
-- Assumes nothing.
use Rattle.std.specs.Prelude.{Ok, Err}
use Prim.Native.Nat.{ℕ, ◌+◌, ◌≤◌, ◌<◌}
use mathlib.Core.Path.{◌≡◌, refl, sym, ap, ◌∙◌}
use mathlib.Core.Bool.{Bool, true, false}
use mathlib.Core.List.{List}
use mathlib.Core.Option.{Option}
use lib.Dec.{eqb}
use lib.ListN.{get_or}
use Rattle.rules.specs.Table.{nodes, row_count}
use Rattle.rules.specs.Refusals.{refused_if, lowest_refusal, verdict}
use Rattle.rules.specs.declared.Refusal.{Refusal}
use Rattle.rules.specs.declared.Row.{Row}
use Rattle.rules.proofs.Refusals.{refusal_from, from_start, from-refused, from_next, from_end}
use Rattle.rules.proofs.Table.{length-nodes}
use Rattle.markup.specs.Writing.{in_subtree, lowest_row}
use Rattle.subtree.specs.Flags.{Flagged}
use Rattle.subtree.proofs.Flags.{flag-read}

module _ (table pool : List ℕ) (test : ℕ → Bool) (refusal : Row → Refusal) where
  abbrev drawn : ℕ → Option Refusal
  drawn r = refused_if (test r) (refusal (record { 0 = r }))

  abbrev pub lowest : Option Refusal
  lowest = lowest_row (nodes table pool) test refusal

  -- The rows from r on decide.
  abbrev pub Scanning : ℕ → Type 0
  Scanning r = lowest ≡ refusal_from drawn (row_count table) r

  pub scan-start : Scanning 0
  scan-start = ap (lowest_refusal drawn) (length-nodes table pool) ∙ sym (from_start drawn (row_count table))

  module _ (r : ℕ) (scanning : Scanning r) where
    module _ (inside : r < row_count table) (is : Bool) (told : is ≡ test r) where
      pub scan-found : is ≡ true → verdict lowest ≡ Err (refusal (record { 0 = r }))
      scan-found e = ap verdict (scanning ∙ from-refused drawn (row_count table) r inside (refusal (record { 0 = r })) (rw (sym told ∙ e) refl))

      pub scan-next : is ≡ false → Scanning (r + 1)
      scan-next e = scanning ∙ from_next drawn (row_count table) r inside (rw (sym told ∙ e) refl)

    pub scan-end : row_count table ≤ r → verdict lowest ≡ Ok tt
    scan-end past = ap verdict (scanning ∙ from_end drawn (row_count table) r past)

-- The flag of a row tells whether it is in the subtree.
pub flag_is : (table pool flags : List ℕ) (e : ℕ) → Flagged table flags e (row_count table) → (r : ℕ) → r < row_count table → eqb (get_or flags r 0) 1 ≡ in_subtree (nodes table pool) e r
flag_is table pool flags e flagged r within = ap (λ k. eqb k 1) (flagged pool r within) ∙ flag-read (in_subtree (nodes table pool) e r)
