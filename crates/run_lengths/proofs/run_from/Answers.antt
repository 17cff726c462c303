-- `run_lengths::run_from` meets its contract.
use mathlib.Core.Path.{◌≡◌, sym, ◌∙◌}
use mathlib.Core.Bool.{false}
use Rattle.escapes.specs.Escapes.{is_escaped}
use Rattle.run_lengths.proofs.Lengths.{high-bare, from-bare, from-escaped}
use Rattle.run_lengths.proofs.run_from.Goals as goal
use Rattle.run_lengths.proofs.run_from.Goals.{then-b-lt63+else-is_escaped, else-b-lt63}

pub returns-then-is_escaped : goal.returns-then-is_escaped
returns-then-is_escaped c = from-escaped _ _ _ (sym c.is_escaped.ensures ∙ c.if-is_escaped.true)

pub returns : goal.returns
returns c =
    let bare : is_escaped c.args.quoted c.args.b ≡ false =
    elim c.if-b-lt63.branch [ then-b-lt63+else-is_escaped w ↦ sym w.is_escaped.ensures ∙ w.if-is_escaped.false | else-b-lt63 w ↦ high-bare _ _ w.if-b-lt63.false ] in
    from-bare _ _ _ bare
