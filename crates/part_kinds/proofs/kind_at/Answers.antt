-- `kind_at` meets its contract.
use Prim.Native.Nat.{◌<◌}
use mathlib.Core.Path.{sym, ◌∙◌}
use native.Mathlib.Omega.{arith}
use lib.ListN.{length}
use Rattle.marks.specs.Marks.{between}
use Rattle.part_kinds.proofs.LongNames.{between-long, long-malformed, long-good, long-colons, long-other}
use Rattle.part_kinds.proofs.kind_at.Goals as goal

pub returns-then-not-well_formed_part : goal.returns-then-not-well_formed_part
returns-then-not-well_formed_part c =
    let i = c.requires.start_le_end in
    let name = between c.args.pool.now c.args.start c.args.end in
    let most = c.if-end-start-le-SHORT.false in
    let long : 256 < length name = rw (between-long c.args.pool.now c.args.start c.args.end i.0 i.1) (omega arith) in
    long-malformed name long (sym c.well_formed_part.ensures ∙ c.if-not-well_formed_part.true)

pub returns-then-good_part : goal.returns-then-good_part
returns-then-good_part c =
    let i = c.requires.start_le_end in
    let name = between c.args.pool.now c.args.start c.args.end in
    let most = c.if-end-start-le-SHORT.false in
    let long : 256 < length name = rw (between-long c.args.pool.now c.args.start c.args.end i.0 i.1) (omega arith) in
    long-good name long (sym c.well_formed_part.ensures ∙ c.if-not-well_formed_part.false) (sym c.good_part.ensures ∙ c.if-good_part.true)

pub returns-then-good_part-2 : goal.returns-then-good_part-2
returns-then-good_part-2 c =
    let i = c.requires.start_le_end in
    let name = between c.args.pool.now c.args.start c.args.end in
    let most = c.if-end-start-le-SHORT.false in
    let long : 256 < length name = rw (between-long c.args.pool.now c.args.start c.args.end i.0 i.1) (omega arith) in
    long-colons name long (sym c.well_formed_part.ensures ∙ c.if-not-well_formed_part.false) (sym c.good_part.ensures ∙ c.if-good_part.false) (sym c.good_part-2.ensures ∙ c.if-good_part-2.true)

pub returns : goal.returns
returns c =
    let i = c.requires.start_le_end in
    let name = between c.args.pool.now c.args.start c.args.end in
    let most = c.if-end-start-le-SHORT.false in
    let long : 256 < length name = rw (between-long c.args.pool.now c.args.start c.args.end i.0 i.1) (omega arith) in
    long-other name long (sym c.well_formed_part.ensures ∙ c.if-not-well_formed_part.false) (sym c.good_part.ensures ∙ c.if-good_part.false) (sym c.good_part-2.ensures ∙ c.if-good_part-2.false)
