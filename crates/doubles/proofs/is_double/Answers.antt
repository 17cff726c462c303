-- `is_double` meets its contract.
use mathlib.Core.Path.{sym, ◌∙◌}
use Rattle.doubles.proofs.Keys.{none_owned, some-owned, bucket-owned, double-none, double-found}
use Rattle.doubles.proofs.is_double.Goals as goal

pub returns-then-bucket-eq-BUCKETS : goal.returns-then-bucket-eq-BUCKETS
returns-then-bucket-eq-BUCKETS c =
    λ enters pool spelling last g n.
    double-none enters c.args.table.now pool c.args.notes.now c.args.row.0 c.requires.row_bound
    (none_owned c.args.table.now c.args.notes.now c.args.row.0 c.requires.bucket_value c.if-bucket-eq-BUCKETS.true)

pub key_of-requires : goal.key_of-requires
key_of-requires c = (c.requires.row_bound, c.requires.some_entered.those.named)

pub has_key-requires : goal.has_key-requires
has_key-requires c =
    record { row_bound = c.requires.row_bound; some_entered = c.requires.some_entered; row_value = (some-owned c.args.table.now c.args.notes.now c.args.row.0 c.requires.bucket_value c.if-bucket-eq-BUCKETS.false); bucket_value = c.requires.bucket_value ∙ sym (bucket-owned c.args.table.now c.args.notes.now c.args.row.0 ((some-owned c.args.table.now c.args.notes.now c.args.row.0 c.requires.bucket_value c.if-bucket-eq-BUCKETS.false))); key_value = c.key_of.ensures }

pub returns : goal.returns
returns c =
    λ enters pool spelling last g n. c.has_key.ensures enters g ∙ double-found enters c.args.table.now pool c.args.notes.now c.args.row.0 c.requires.row_bound ((some-owned c.args.table.now c.args.notes.now c.args.row.0 c.requires.bucket_value c.if-bucket-eq-BUCKETS.false)) n
