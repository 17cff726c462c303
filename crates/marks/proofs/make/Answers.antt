use Rattle.std.proofs.Common.{◌≡◌, ◌+◌, ◌-◌, arith}
use Rattle.marks.proofs.Cutting.{mark-end, MarkedFrom, marked_next}
use Rattle.marks.proofs.make.Goals as goal

pub loop-k-init : goal.loop-k-init
loop-k-init c =
    record {
      start_within = omega arith;
      end_within = omega arith;
      last = mark-end c.args.pool.now;
      later = λ k l t. absurd (omega arith);
    }

pub reach_from-end-requires : goal.reach_from-end-requires
reach_from-end-requires c = record { start = c.first_start-first.ensures; mark = c.loop-k.invariant.last }

pub loop-k-preserved : goal.loop-k-preserved
loop-k-preserved c =
    let w = c.first_start-first.ensures.within in
    let e : (c.loop-k.k - 1) + 1 ≡ c.loop-k.k = omega arith in
    let later : MarkedFrom c.args.pool.now c.loop-k.marks ((c.loop-k.k - 1) + 1) = rw e c.loop-k.invariant.later in
    record {
      start_within = omega arith;
      end_within = c.reach_from-end.ensures.within;
      last = c.reach_from-end.ensures;
      later = marked_next c.args.pool.now c.loop-k.marks (omega arith) (c.loop-k.k - 1) c.first_start-first.result c.reach_from-end.result (omega arith) later c.reach_from-end.ensures;
    }
