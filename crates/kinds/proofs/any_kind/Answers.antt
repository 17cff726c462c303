-- `any_kind` meets its contract.
use borrow.Author.Tests.{eq-eqb, ne_eqb}
use mathlib.Core.Path.{◌∙◌}
use mathlib.Core.Bool.{true, false}
use lib.ListN.{length}
use Rattle.rules.proofs.Lists.{length-empty}
use Rattle.kinds.specs.Kinds.{kind_of}
use Rattle.kinds.proofs.any_kind.Goals as goal

pub returns-then-name-eq0 : goal.returns-then-name-eq0
unfolding kind_of
returns-then-name-eq0 c =
    let name = c.args.name.now in
    rw (length-empty name ∙ eq-eqb (length name) 0 c.if-name-eq0.true)

pub returns-then-not-well_formed : goal.returns-then-not-well_formed
unfolding kind_of
returns-then-not-well_formed c =
    let name = c.args.name.now in
    rw (length-empty name ∙ ne_eqb (length name) 0 c.if-name-eq0.false, ← c.well_formed-2.ensures, c.if-not-well_formed.true-raw)

pub returns-then-is_xml : goal.returns-then-is_xml
unfolding kind_of
returns-then-is_xml c =
    let name = c.args.name.now in
    rw (length-empty name ∙ ne_eqb (length name) 0 c.if-name-eq0.false, ← c.well_formed-2.ensures, c.if-not-well_formed.false-raw, ← c.is_xml.ensures, c.if-is_xml.true)

pub returns-then-is_xmlns : goal.returns-then-is_xmlns
unfolding kind_of
returns-then-is_xmlns c =
    let name = c.args.name.now in
    rw (length-empty name ∙ ne_eqb (length name) 0 c.if-name-eq0.false, ← c.well_formed-2.ensures, c.if-not-well_formed.false-raw, ← c.is_xml.ensures, c.if-is_xml.false, ← c.is_xmlns.ensures, c.if-is_xmlns.true)

pub returns-then-has_slash : goal.returns-then-has_slash
unfolding kind_of
returns-then-has_slash c =
    let h = c.has_slash.ensures c.if-has_slash.true in
    let name = c.args.name.now in
    rw (length-empty name ∙ ne_eqb (length name) 0 c.if-name-eq0.false, ← c.well_formed-2.ensures, c.if-not-well_formed.false-raw, ← c.is_xml.ensures, c.if-is_xml.false, ← c.is_xmlns.ensures, c.if-is_xmlns.false, h false, h true) c.uri_kind.ensures

pub returns-then-good_name : goal.returns-then-good_name
unfolding kind_of
returns-then-good_name c =
    let name = c.args.name.now in
    rw (length-empty name ∙ ne_eqb (length name) 0 c.if-name-eq0.false, ← c.well_formed-2.ensures, c.if-not-well_formed.false-raw, ← c.is_xml.ensures, c.if-is_xml.false, ← c.is_xmlns.ensures, c.if-is_xmlns.false, ← c.good_name.ensures, c.if-good_name.true)

pub returns-then-good_name-2 : goal.returns-then-good_name-2
unfolding kind_of
returns-then-good_name-2 c =
    let name = c.args.name.now in
    rw (length-empty name ∙ ne_eqb (length name) 0 c.if-name-eq0.false, ← c.well_formed-2.ensures, c.if-not-well_formed.false-raw, ← c.is_xml.ensures, c.if-is_xml.false, ← c.is_xmlns.ensures, c.if-is_xmlns.false, ← c.good_name.ensures, c.if-good_name.false, ← c.good_name-2.ensures, c.if-good_name-2.true)

pub returns : goal.returns
unfolding kind_of
returns c =
    let name = c.args.name.now in
    rw (length-empty name ∙ ne_eqb (length name) 0 c.if-name-eq0.false, ← c.well_formed-2.ensures, c.if-not-well_formed.false-raw, ← c.is_xml.ensures, c.if-is_xml.false, ← c.is_xmlns.ensures, c.if-is_xmlns.false, ← c.good_name.ensures, c.if-good_name.false, ← c.good_name-2.ensures, c.if-good_name-2.false) c.uri_kind-2.ensures
