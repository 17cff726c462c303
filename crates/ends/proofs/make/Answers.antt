use Rattle.std.proofs.Common.{◌≡◌, ◌+◌, ◌-◌, ◌*◌, arith}
use Rattle.ends.specs.Ends.{BLOCK, WORDS}
use Rattle.ends.proofs.Reaching.{reach-end, EndedFrom, ended-next}
use Rattle.ends.proofs.make.Goals as goal

pub loop-k-init : goal.loop-k-init
loop-k-init c =
    record {
      last = reach-end c.args.colons c.args.pool.now (BLOCK * WORDS) (omega arith);
      later = λ k l t. absurd (omega arith);
    }

pub reach_from-end-requires : goal.reach_from-end-requires
reach_from-end-requires c =
    let e : BLOCK * (c.loop-k.k - 1) + BLOCK ≡ BLOCK * c.loop-k.k = omega arith in record { start_bound = omega arith; reach = rw e c.loop-k.invariant.last }

pub loop-k-preserved : goal.loop-k-preserved
loop-k-preserved c =
    let e : (c.loop-k.k - 1) + 1 ≡ c.loop-k.k = omega arith in
    let later : EndedFrom c.args.colons c.args.pool.now c.loop-k.ends ((c.loop-k.k - 1) + 1) = rw e c.loop-k.invariant.later in
    record {
      last = c.reach_from-end.ensures;
      later = ended-next c.args.colons c.args.pool.now c.loop-k.ends (c.loop-k.k - 1) c.reach_from-end.result (omega arith) later c.reach_from-end.ensures;
    }
