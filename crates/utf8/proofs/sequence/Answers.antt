-- `utf8::sequence` meets its contract. Each answer follows from its test, after the bytes that were read.
use Prim.Native.Nat.{◌-◌, ◌≤◌}
use mathlib.Core.Path.{sym, ◌∙◌}
use native.Mathlib.Nat.{le_antisymm}
use native.Mathlib.Omega.{arith}
use lib.ListN.{length}
use Rattle.utf8.proofs.Steps.{above, line-none, line-one, line-cut, second-out, second-read, tails_end, tail-out, tail-read}
use Rattle.utf8.proofs.sequence.Goals as goal

pub returns-then-length-eq0 : goal.returns-then-length-eq0
returns-then-length-eq0 c =
    line-none c.args.bytes.now c.args.i c.requires c.line_of-line.result c.line_of-line.ensures.0 c.if-length-eq0.true

pub returns-then-length-eq1 : goal.returns-then-length-eq1
returns-then-length-eq1 c =
    line-one c.args.bytes.now c.args.i c.requires c.line_of-line.result c.line_of-line.ensures.0 c.if-length-eq1.true

pub returns-then-bytes-i : goal.returns-then-bytes-i
returns-then-bytes-i c =
    line-cut c.args.bytes.now c.args.i c.requires c.line_of-line.result c.line_of-line.ensures.0 (omega arith) (omega arith)

pub returns-then-not-is_between : goal.returns-then-not-is_between
returns-then-not-is_between c =
    let fact : c.line_of-line.result.length ≤ length c.args.bytes.now - c.args.i = omega arith in
    let fact2 : 2 ≤ c.line_of-line.result.length = omega arith in
    second-out c.args.bytes.now c.args.i c.requires c.line_of-line.result c.line_of-line.ensures.0 fact2 fact (sym c.is_between.ensures ∙ c.if-not-is_between.true)

pub returns-then-length-eq2 : goal.returns-then-length-eq2
returns-then-length-eq2 c =
    let fact : c.line_of-line.result.length ≤ length c.args.bytes.now - c.args.i = omega arith in
    let fact2 : 2 ≤ c.line_of-line.result.length = omega arith in
    tails_end c.args.bytes.now c.args.i c.requires c.line_of-line.result.length 2 fact ((second-read c.args.bytes.now c.args.i c.requires c.line_of-line.result c.line_of-line.ensures.0 fact2 fact (sym c.is_between.ensures ∙ c.if-not-is_between.false))) (omega arith) c.if-length-eq2.true

pub returns-then-not-is_between-2 : goal.returns-then-not-is_between-2
returns-then-not-is_between-2 c =
    let fact : c.line_of-line.result.length ≤ length c.args.bytes.now - c.args.i = omega arith in
    let fact2 : 2 ≤ c.line_of-line.result.length = omega arith in
    tail-out c.args.bytes.now c.args.i c.requires c.line_of-line.result.length 2 fact ((second-read c.args.bytes.now c.args.i c.requires c.line_of-line.result c.line_of-line.ensures.0 fact2 fact (sym c.is_between.ensures ∙ c.if-not-is_between.false))) (omega arith) (sym c.is_between-2.ensures ∙ c.if-not-is_between-2.true)

pub returns-then-length-eq3 : goal.returns-then-length-eq3
returns-then-length-eq3 c =
    let fact : 2 ≤ c.line_of-line.result.length = omega arith in
    let fact2 : c.line_of-line.result.length ≤ length c.args.bytes.now - c.args.i = omega arith in
    tails_end c.args.bytes.now c.args.i c.requires c.line_of-line.result.length 3 fact2 ((tail-read c.args.bytes.now c.args.i c.requires c.line_of-line.result.length 2 fact2 ((second-read c.args.bytes.now c.args.i c.requires c.line_of-line.result c.line_of-line.ensures.0 fact fact2 (sym c.is_between.ensures ∙ c.if-not-is_between.false))) ((above c.line_of-line.result.length 2 fact c.if-length-eq2.false)) (sym c.is_between-2.ensures ∙ c.if-not-is_between-2.false))) (omega arith) c.if-length-eq3.true

pub returns-then-not-is_between-3 : goal.returns-then-not-is_between-3
returns-then-not-is_between-3 c =
    let fact : 2 ≤ c.line_of-line.result.length = omega arith in
    let fact2 : c.line_of-line.result.length ≤ length c.args.bytes.now - c.args.i = omega arith in
    tail-out c.args.bytes.now c.args.i c.requires c.line_of-line.result.length 3 fact2 ((tail-read c.args.bytes.now c.args.i c.requires c.line_of-line.result.length 2 fact2 ((second-read c.args.bytes.now c.args.i c.requires c.line_of-line.result c.line_of-line.ensures.0 fact fact2 (sym c.is_between.ensures ∙ c.if-not-is_between.false))) ((above c.line_of-line.result.length 2 fact c.if-length-eq2.false)) (sym c.is_between-2.ensures ∙ c.if-not-is_between-2.false))) ((above c.line_of-line.result.length 3 ((above c.line_of-line.result.length 2 fact c.if-length-eq2.false)) c.if-length-eq3.false)) (sym c.is_between-3.ensures ∙ c.if-not-is_between-3.true)

pub returns : goal.returns
returns c =
    let fact : 2 ≤ c.line_of-line.result.length = omega arith in
    let fact2 : c.line_of-line.result.length ≤ length c.args.bytes.now - c.args.i = omega arith in
    let fourth =
    tail-read c.args.bytes.now c.args.i c.requires c.line_of-line.result.length 3 fact2 ((tail-read c.args.bytes.now c.args.i c.requires c.line_of-line.result.length 2 fact2 ((second-read c.args.bytes.now c.args.i c.requires c.line_of-line.result c.line_of-line.ensures.0 fact fact2 (sym c.is_between.ensures ∙ c.if-not-is_between.false))) ((above c.line_of-line.result.length 2 fact c.if-length-eq2.false)) (sym c.is_between-2.ensures ∙ c.if-not-is_between-2.false))) ((above c.line_of-line.result.length 3 ((above c.line_of-line.result.length 2 fact c.if-length-eq2.false)) c.if-length-eq3.false)) (sym c.is_between-3.ensures ∙ c.if-not-is_between-3.false)
    in
    tails_end c.args.bytes.now c.args.i c.requires c.line_of-line.result.length 4 fact2 fourth (omega arith) (le_antisymm c.line_of-line.ensures.1 ((above c.line_of-line.result.length 3 ((above c.line_of-line.result.length 2 fact c.if-length-eq2.false)) c.if-length-eq3.false)))
