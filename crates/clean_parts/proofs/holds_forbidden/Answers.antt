-- `clean_parts::holds_forbidden` meets its contract.
use mathlib.Core.Path.{sym}
use Rattle.clean_parts.proofs.Parts.{clean-holds}
use Rattle.clean_parts.proofs.holds_forbidden.Goals as goal

pub returns-then-is_clean : goal.returns-then-is_clean
returns-then-is_clean c = sym (clean-holds c.args.pool.now c.args.start c.args.end (c.is_clean.ensures c.if-is_clean.true))
