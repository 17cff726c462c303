-- `bundle_opening::wrong_mark` meets its contract.
use mathlib.Core.Path.{sym, ap}
use mathlib.Core.Bool.{not}
use lib.Seq.{length-take-le}
use Rattle.bundles.specs.Bundles.{wrong_mark}
use Rattle.bundle_opening.proofs.Opening.{mark-cut}
use native.Mathlib.Omega.{arith}
use Rattle.bundle_opening.proofs.wrong_mark.Goals as goal

pub returns-then-bundle-lt3 : goal.returns-then-bundle-lt3
returns-then-bundle-lt3 c = mark-cut _ c.if-bundle-lt3.true

pub slice_bounds-same-end : goal.slice_bounds-same-end
slice_bounds-same-end c = sym (length-take-le 3 c.args.bundle.now (omega arith))

pub returns : goal.returns
unfolding wrong_mark
returns c = ap not c.same.ensures
