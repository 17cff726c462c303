-- `name_of` meets its contract.
use mathlib.Core.Path.{◌∙◌}
use Rattle.entries.proofs.name_of.Goals as goal

pub returns : goal.returns
returns c = c.part.ensures.result_value ∙ rw (c.word.ensures, c.word-2.ensures)
