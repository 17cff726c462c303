-- `prepare` meets its contract.
use Rattle.scope_preparation.proofs.Preparing.{prepared}
use Rattle.scope_preparation.proofs.prepare.Goals as goal

pub returns : goal.returns
returns c =
    λ pool tops r ground cleared. prepared cleared ground c.set_xml.ensures c.link_all.auto.notes c.link_all.ensures.linked c.link_all.ensures.relinked
