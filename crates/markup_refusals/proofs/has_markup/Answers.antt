-- `markup_refusals::has_markup` meets its contract.
use Rattle.markup_refusals.proofs.Tests.{markup-kinds}
use Rattle.markup_refusals.proofs.has_markup.Goals as goal

pub returns : goal.returns
returns c = markup-kinds c.args.kind
