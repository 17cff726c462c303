-- `serving::count` meets its contract.
use native.Mathlib.Omega.{arith}
use Rattle.stacks.proofs.Reading.{count-read, count_none}
use Rattle.serving.proofs.count.Goals as goal

pub name_at-value-requires : goal.name_at-value-requires
name_at-value-requires c =
    let noted = (c.requires.1 c.if-position-gt0.true).noted in
    (omega arith, omega arith, omega arith)

pub tally-before-requires : goal.tally-before-requires
tally-before-requires c =
    let value = (c.requires.1 c.if-position-gt0.true).value in
    omega arith

pub bounds-tops-value : goal.bounds-tops-value
bounds-tops-value c =
    let value = (c.requires.1 c.if-position-gt0.true).value in
    omega arith

pub returns-then-position-gt0 : goal.returns-then-position-gt0
returns-then-position-gt0 c =
    count-read c.args.notes.now c.args.tops.now c.args.position.0 c.args.step c.name_at-value.result.0 c.tally-before.result (omega arith) c.name_at-value.ensures c.tally-before.ensures

pub returns-else-position-gt0 : goal.returns-else-position-gt0
returns-else-position-gt0 c = count_none c.args.notes.now c.args.tops.now c.args.position.0 c.args.step (omega arith)
