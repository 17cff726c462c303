-- `bucket_at` meets its contract.
use mathlib.Core.Path.{sym, ap, ◌∙◌}
use Rattle.doubles.specs.Doubles.{bucket_of}
use Rattle.doubles.proofs.Keys.{bucket-none, bucket-owned}
use Rattle.doubles.proofs.bucket_at.Goals as goal

pub returns-then-not-is_owned : goal.returns-then-not-is_owned
returns-then-not-is_owned c =
    bucket-none c.args.table.now c.args.notes.now c.args.row.0 (sym (c.is_owned.ensures c.args.notes.now) ∙ c.if-not-is_owned.true)

pub returns : goal.returns
returns c =
    c.bucket_of.ensures ∙ ap bucket_of c.key_of.ensures
    ∙ bucket-owned c.args.table.now c.args.notes.now c.args.row.0 (sym (c.is_owned.ensures c.args.notes.now) ∙ c.if-not-is_owned.false)
