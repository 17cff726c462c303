-- `last` meets its contract.
use mathlib.Core.Path.{sym}
use lib.Seq.{get_or-drop}
use Rattle.entries.specs.Entries.{LAST}
use Rattle.dictionary.specs.Dictionary.{PLACES, entries_of}
use Rattle.dictionary.proofs.last.Goals as goal

pub returns : goal.returns
unfolding entries_of
returns c = sym (get_or-drop PLACES c.args.dictionary.now LAST 0)
