-- `dropped_list::write_entry` meets its contract.
use Prim.Native.Nat.{ℕ, ◌+◌, ◌-◌, ◌*◌}
use mathlib.Core.Path.{ap, ◌∙◌}
use native.Mathlib.Omega.{arith}
use lib.ListN.{get_or, set, length-set}
use Rattle.salvage.specs.Salvage.{ENTRY}
use Rattle.dropped_list.proofs.Going.{where-kept, fate-set, where-dropped}
use Rattle.dropped_list.proofs.write_entry.Goals as goal

pub returns-then-not-is_dropped : goal.returns-then-not-is_dropped
returns-then-not-is_dropped c =
    let fate = get_or c.args.fates.now c.args.row.0 0 in record { result_value = where-kept fate c.is_dropped.ensures c.if-not-is_dropped.true-raw _ _; list_after = where-kept fate c.is_dropped.ensures c.if-not-is_dropped.true-raw _ _ }

pub bounds-list-at : goal.bounds-list-at
bounds-list-at c =
    omega (arith, c.requires.kept_in_bounds (fate-set (get_or c.args.fates.now c.args.row.0 0) c.is_dropped.ensures c.if-not-is_dropped.false-raw))

pub bounds-list-at-2 : goal.bounds-list-at-2
bounds-list-at-2 c =
    let room = c.requires.kept_in_bounds (fate-set (get_or c.args.fates.now c.args.row.0 0) c.is_dropped.ensures c.if-not-is_dropped.false-raw) in
    simp length-set (omega arith)

pub returns : goal.returns
returns c =
    let left = c.if-not-is_dropped.false-raw in
    let fate = get_or c.args.fates.now c.args.row.0 0 in
    let at = ENTRY * (c.args.row.0 - c.args.kept.0) in record { result_value = where-dropped fate c.is_dropped.ensures left _ _; list_after = ap (λ (x : ℕ). set (set c.args.list.now at c.args.row.0) (at + 1) x) c.refusal.ensures ∙ where-dropped fate c.is_dropped.ensures left _ _ }
