-- `bundle_opening::bad_lengths` meets its contract.
use Rattle.bundle_opening.proofs.Opening.{lengths-cut, zero-other, lengths-told}
use Rattle.bundle_opening.proofs.bad_lengths.Goals as goal

pub returns-then-bundle-lt-HEADER : goal.returns-then-bundle-lt-HEADER
returns-then-bundle-lt-HEADER c = lengths-cut _ c.if-bundle-lt-HEADER.true

pub returns-then-bundle-ne0 : goal.returns-then-bundle-ne0
returns-then-bundle-ne0 c = zero-other _ c.if-bundle-lt-HEADER.false c.if-bundle-ne0.true

pub returns : goal.returns
returns c =
    rw (c.pool_start.ensures.0, c.pool_length.ensures.0) (lengths-told _ c.if-bundle-lt-HEADER.false c.if-bundle-ne0.false)
