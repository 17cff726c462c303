-- `markup_refusals::is_foreign` meets its contract.
use mathlib.Core.Path.{sym, ap, ◌∙◌}
use mathlib.Core.Bool.{not}
use mathlib.Core.List.{[], ◌∷◌}
use Rattle.rules.specs.Lists.{is_one_of}
use Rattle.rules.specs.Table.{ELEMENT, ATTRIBUTE, TEXT, DECLARATION}
use Rattle.markup_refusals.proofs.Tests.{told-true, told-false}
use Rattle.markup_refusals.proofs.is_foreign.Goals as goal

pub returns-then-is_flagged : goal.returns-then-is_flagged
returns-then-is_flagged c =
    told-true (sym c.is_flagged.ensures ∙ c.if-is_flagged.true) (ap not (c.has_markup.ensures ∙ ap (is_one_of (ELEMENT ∷ ATTRIBUTE ∷ TEXT ∷ DECLARATION ∷ [])) c.kind.ensures))

pub returns : goal.returns
returns c = told-false _ (sym c.is_flagged.ensures ∙ c.if-is_flagged.false)
