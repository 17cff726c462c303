-- `repair::declare_attribute` meets its contract.
use mathlib.Core.Path.{sym, ◌∙◌}
use Rattle.repair.proofs.Unserved.{unserved-full, free-asked, own-top, own-declared}
use Rattle.repair.proofs.declare_attribute.Goals as goal

pub returns-then-limit-rows : goal.returns-then-limit-rows
returns-then-limit-rows c = λ h. unserved-full h c.if-limit-rows.true

pub is_free-requires : goal.is_free-requires
is_free-requires c = free-asked c.requires

pub append_on_top-requires : goal.append_on_top-requires
append_on_top-requires c = own-top c.requires c.if-limit-rows.false c.is_free.ensures c.if-is_free.true

pub returns-then-is_free : goal.returns-then-is_free
returns-then-is_free c =
    λ h. own-declared h c.if-limit-rows.false c.is_free.ensures c.if-is_free.true c.append_on_top.auto.tops (c.append_on_top.ensures.good (own-top h c.if-limit-rows.false c.is_free.ensures c.if-is_free.true)) c.append_on_top.ensures.same_attributes

pub number_attribute-requires : goal.number_attribute-requires
number_attribute-requires c =
    record { at_unserved = c.requires; rows_lt_limit = (c.if-limit-rows.false, sym c.is_free.ensures ∙ c.if-is_free.false) }
