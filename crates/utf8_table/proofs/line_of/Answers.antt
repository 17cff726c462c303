-- `utf8_table::line_of` meets its contract: a law of the table for each answer.
use mathlib.Core.Path.{sym, ◌∙◌, ap}
use native.Mathlib.Omega.{arith}
use Rattle.rules.specs.Utf8.{following}
use Rattle.rules.proofs.Utf8.{following-1, following-2, following-4, following-E0, following-ED, following-F0, following-F4, following-tail, following-last}
use Rattle.utf8_table.proofs.Lines.{following-three}
use Rattle.utf8_table.proofs.line_of.Goals as goal

pub returns-then-first-le127 : goal.returns-then-first-le127
returns-then-first-le127 c = (sym (following-1 _ (omega arith)), omega arith)

pub returns-then-first-le193 : goal.returns-then-first-le193
returns-then-first-le193 c = (sym (following-tail _ (omega arith) (omega arith)), omega arith)

pub returns-then-first-le223 : goal.returns-then-first-le223
returns-then-first-le223 c = (sym (following-2 _ (omega arith) (omega arith)), omega arith)

pub returns-then-first-eq224 : goal.returns-then-first-eq224
returns-then-first-eq224 c = (sym (ap following c.if-first-eq224.true ∙ following-E0), omega arith)

pub returns-then-first-eq237 : goal.returns-then-first-eq237
returns-then-first-eq237 c = (sym (ap following c.if-first-eq237.true ∙ following-ED), omega arith)

pub returns-then-first-le239 : goal.returns-then-first-le239
returns-then-first-le239 c = (sym (following-three _ (omega arith) (omega arith) c.if-first-eq237.false), omega arith)

pub returns-then-first-eq240 : goal.returns-then-first-eq240
returns-then-first-eq240 c = (sym (ap following c.if-first-eq240.true ∙ following-F0), omega arith)

pub returns-then-first-le243 : goal.returns-then-first-le243
returns-then-first-le243 c = (sym (following-4 _ (omega arith) (omega arith)), omega arith)

pub returns-then-first-eq244 : goal.returns-then-first-eq244
returns-then-first-eq244 c = (sym (ap following c.if-first-eq244.true ∙ following-F4), omega arith)

pub returns : goal.returns
returns c = (sym (following-last _ (omega arith)), omega arith)
