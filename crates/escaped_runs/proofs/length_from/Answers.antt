-- `escaped_runs::length_from` meets its contract.
use native.Mathlib.Omega.{arith}
use Rattle.runs.proofs.Runs.{length-told, length-looked}
use Rattle.escaped_runs.proofs.length_from.Goals as goal

pub returns-then-runs-eq0 : goal.returns-then-runs-eq0
returns-then-runs-eq0 c =
    let looked = length-looked c.args.quoted c.args.value.now c.args.i c.look_for_run.ensures in record { value_value = looked.0; result_in_bounds = omega (arith, looked.1, c.requires.0) }

pub run_length-requires : goal.run_length-requires
run_length-requires c = omega (arith, c.requires.0, (c.requires.1 c.if-runs-eq0.false).room)

pub returns : goal.returns
returns c =
    record { value_value = length-told (c.requires.1 c.if-runs-eq0.false) c.args.quoted c.args.i c.requires.0 c.run_length.ensures.0; result_in_bounds = omega (arith, c.requires.0, c.run_length.ensures.1) }
