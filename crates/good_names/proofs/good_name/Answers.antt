use Rattle.std.proofs.Common.{sym, ◌∙◌}
use Rattle.good_names.proofs.Bytes.{good_none, good-first-fails, good-first}
use Rattle.good_names.proofs.good_name.Goals as goal

pub returns-in_default : goal.returns-in_default
returns-in_default c = good_none c.args.colons c.args.name.now c.in_default.ensures.cases

pub returns-then-not-is_first_byte : goal.returns-then-not-is_first_byte
returns-then-not-is_first_byte c =
    good-first-fails c.args.colons _ _ _ c.in-Some.ensures.cases.0 (sym c.is_first_byte.ensures ∙ c.if-not-is_first_byte.true)

pub loop-byte-init : goal.loop-byte-init
loop-byte-init c = good-first c.args.colons _ _ _ c.in-Some.ensures.cases.0 (sym c.is_first_byte.ensures ∙ c.if-not-is_first_byte.false)
