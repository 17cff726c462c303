-- `bundle_lookups::in_scope_uri` meets its contract.
use Rattle.bundle_lookups.proofs.in_scope_uri.Goals as goal

pub returns : goal.returns
returns c = c.lookup.ensures
