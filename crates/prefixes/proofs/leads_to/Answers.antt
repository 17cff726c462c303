-- `prefixes::leads_to` meets its contract.
use Rattle.deciders.proofs.Decided.{leads-default, leads-xml, leads-full, ordinary}
use Rattle.prefixes.proofs.leads_to.Goals as goal

pub returns-then-prefix-eq0 : goal.returns-then-prefix-eq0
returns-then-prefix-eq0 c = λ pool name other meant prefix together. leads-default meant prefix c.args.path.now c.if-prefix-eq0.true

pub returns-then-xml : goal.returns-then-xml
returns-then-xml c =
    λ pool name other meant prefix together. leads-xml meant prefix c.args.path.now c.if-prefix-eq0.false _ together c.if-xml.true c.requires.start

pub deciding-requires : goal.deciding-requires
deciding-requires c = c.requires.along

pub uri_number-requires : goal.uri_number-requires
uri_number-requires c = c.requires.along.ready.noted

pub returns : goal.returns
returns c =
    λ pool name other meant prefix together. leads-full meant prefix c.args.path.now c.if-prefix-eq0.false _ together _ _ c.uri_number.ensures
    (c.deciding.ensures pool other prefix (ordinary meant prefix c.args.path.now c.if-prefix-eq0.false _ together c.if-xml.false))
