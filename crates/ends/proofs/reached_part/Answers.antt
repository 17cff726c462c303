-- `reached_part` meets its contract.
use mathlib.Core.Path.{sym, ◌∙◌}
use native.Mathlib.Omega.{arith}
use Rattle.ends.proofs.Reaching.{front-fails, reaches, all_rest, reach-rest}
use Rattle.ends.proofs.reached_part.Goals as goal

pub returns-then-not-good_name : goal.returns-then-not-good_name
returns-then-not-good_name c =
    front-fails c.args.colons c.args.pool.now c.args.start c.args.stop c.args.reach c.args.end c.requires.reach c.requires.start_lt_stop.0 c.requires.start_lt_stop.1 c.requires.start_lt_stop.2 (sym c.good_name.ensures ∙ c.if-not-good_name.true)

pub returns-then-end-reach : goal.returns-then-end-reach
returns-then-end-reach c =
    reaches c.args.colons c.args.pool.now c.args.start c.args.stop c.args.reach c.args.end c.requires.reach c.requires.start_lt_stop.0 c.requires.start_lt_stop.1 c.requires.start_lt_stop.2 (sym c.good_name.ensures ∙ c.if-not-good_name.false) c.if-end-reach.true

pub returns-then-reach-stop : goal.returns-then-reach-stop
returns-then-reach-stop c =
    all_rest c.args.colons c.args.pool.now c.args.start c.args.stop c.args.reach c.args.end c.requires.reach c.requires.start_lt_stop.0 c.requires.start_lt_stop.1 c.requires.start_lt_stop.2 (sym c.good_name.ensures ∙ c.if-not-good_name.false) c.all_named.ensures

pub returns : goal.returns
returns c =
    reach-rest c.args.colons c.args.pool.now c.args.start c.args.stop c.args.reach c.args.end c.requires.reach c.requires.start_lt_stop.0 c.requires.start_lt_stop.1 c.requires.start_lt_stop.2 (sym c.good_name.ensures ∙ c.if-not-good_name.false) (omega arith) (omega arith) c.all_named-2.ensures
