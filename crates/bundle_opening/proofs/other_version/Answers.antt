-- `bundle_opening::other_version` meets its contract.
use Rattle.bundle_opening.proofs.Opening.{version-cut, version-told}
use Rattle.bundle_opening.proofs.other_version.Goals as goal

pub returns-then-bundle-lt5 : goal.returns-then-bundle-lt5
returns-then-bundle-lt5 c = version-cut _ c.if-bundle-lt5.true

pub returns : goal.returns
returns c = version-told _ c.if-bundle-lt5.false _ c.version-version.ensures
