use Rattle.std.proofs.Common.{ℕ, ◌≤◌, length, ap, ◌∙◌, refl}
use Rattle.rules.specs.Outputs.{padded}
use Rattle.dropped_list.specs.Dropped.{dropped_words}
use Rattle.dropped_list.proofs.Going.{going_start, going-room, going_next, going_end}
use Rattle.dropped_list.proofs.write.Goals as goal

pub loop-r-init : goal.loop-r-init
loop-r-init c = going_start c.args.fates.now c.args.list.now _ c.args.rows c.clear_words.ensures

pub write_entry-kept-requires-clause-kept_in_bounds : goal.write_entry-kept-requires-clause-kept_in_bounds
write_entry-kept-requires-clause-kept_in_bounds c =
    λ dropped. going-room (rw c.clear_words.auto.table c.requires.rows_in_bounds_2) c.loop-r.invariant c.loop-r-test.true dropped _ refl

pub loop-r-preserved : goal.loop-r-preserved
loop-r-preserved c =
    let room : length (dropped_words c.args.fates.now c.args.rows) ≤ length c.clear_words.new.table = rw c.clear_words.auto.table c.requires.rows_in_bounds_2 in
    going_next room c.loop-r.invariant c.loop-r-test.true c.write_entry-kept.ensures.result_value c.write_entry-kept.ensures.list_after c.write_entry-kept.auto.list

pub returns : goal.returns
returns c =
    going_end c.loop-r.invariant c.loop-r-test.false
    ∙ ap (λ (n : ℕ). padded n (dropped_words c.args.fates.now c.args.rows)) c.clear_words.auto.table
