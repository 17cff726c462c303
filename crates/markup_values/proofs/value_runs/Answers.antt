-- `markup_values::value_runs` meets its contract.
use mathlib.Core.Path.{refl, ◌∙◌}
use Rattle.markup_names.proofs.Names.{place-offset}
use Rattle.markup_values.proofs.Values.{runs-from}
use Rattle.markup_values.proofs.value_runs.Goals as goal

pub returns-then-start-runs : goal.returns-then-start-runs
returns-then-start-runs c =
    λ some. runs-from c.args.table.now c.args.runs.now c.args.row.0 (c.wide-start.ensures ∙ place-offset c.args.table.now c.args.row.0 8 c.place.ensures)

pub returns : goal.returns
returns c = λ some. absurd (some refl)
