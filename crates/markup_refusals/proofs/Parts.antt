-- Values are parts of the pool: one that holds no forbidden character has no value that does.
-- Assumes nothing.
use Rattle.std.specs.Prelude.{Ok}
use Prim.Native.Nat.{ℕ, ◌+◌, ◌<◌}
use mathlib.Core.Path.{◌≡◌, refl, sym, ap, ◌∙◌}
use mathlib.Core.Bool.{false, and-false}
use mathlib.Core.List.{List}
use mathlib.Core.Option.{none}
use lib.ListN.{length, drop}
use Rattle.rules.specs.Table.{nodes, node, row_count, word, VALUE}
use Rattle.rules.specs.Refusals.{refused_if, verdict, check_refusal}
use Rattle.rules.specs.declared.Refusal.{Refusal}
use Rattle.rules.proofs.Refusals.{none-lowest}
use Rattle.rules.proofs.Table.{length-nodes}
use Rattle.characters.specs.Characters.{holds_forbidden, forbidden_from}
use Rattle.characters.proofs.Parts.{taken, dropped}
use Rattle.markup.specs.Writing.{in_subtree}
use Rattle.subtree.proofs.Scans.{lowest}
use Rattle.markup_refusals.proofs.Tests.{spoiled, value-forbidden}

module _ (table pool : List ℕ) (accepted : check_refusal table pool ≡ none) (clean : forbidden_from pool ≡ false) (e : ℕ) where
  none-spoiled : (r : ℕ) → r < length (nodes table pool) → spoiled table pool e r ≡ false
  none-spoiled r h =
      let within : r < row_count table = rw length-nodes at h in
      let value : holds_forbidden (node (nodes table pool) r).value.bytes ≡ false = sym (value-forbidden table pool r within accepted) ∙ taken (word table r (VALUE + 1)) (drop (word table r VALUE) pool) (dropped (word table r VALUE) pool clean) in
      rw value (and-false (in_subtree (nodes table pool) e r))

  pub clean-accepted : (Ok tt) ≡ verdict (lowest table pool (spoiled table pool e) Refusal.Character)
  clean-accepted = sym (ap verdict (none-lowest (λ r. refused_if (spoiled table pool e r) (Refusal.Character (record { 0 = r }))) (length (nodes table pool)) (λ r h. rw (none-spoiled r h) refl)))
