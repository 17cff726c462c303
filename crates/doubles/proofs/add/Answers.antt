-- `add` meets its contract.
use mathlib.Core.Path.{refl, sym, ap, ◌∙◌}
use Prim.Native.Nat.{ℕ}
use Rattle.doubles.specs.declared.Key.{Key}
use Rattle.doubles.specs.Doubles.{bucket_of, entered}
use Rattle.doubles.proofs.Keys.{bucket-owned, double-found}
use Rattle.doubles.proofs.add.Goals as goal

pub has_key-requires : goal.has_key-requires
has_key-requires c =
    record { row_bound = c.requires.row_bound; some_entered = c.requires.some_entered; row_value = c.requires.row_value; bucket_value = c.bucket_of-bucket.ensures ∙ ap (λ (k : Key). bucket_of k) c.requires.key_value; key_value = c.requires.key_value }

pub returns-then-has_key : goal.returns-then-has_key
returns-then-has_key c =
    record { by_index = λ enters pool spelling last g n. sym c.if-has_key.true ∙ c.has_key.ensures enters g ∙ double-found enters c.args.table.now pool c.args.notes.now c.args.row.0 c.requires.row_bound c.requires.row_value n; chains_after = refl }

pub returns : goal.returns
returns c =
    let bucket = c.bucket_of-bucket.ensures ∙ ap (λ (k : Key). bucket_of k) c.requires.key_value ∙ bucket-owned c.args.table.now c.args.notes.now c.args.row.0 c.requires.row_value in record { by_index = λ enters pool spelling last g n. sym c.if-has_key.false ∙ c.has_key.ensures enters g ∙ double-found enters c.args.table.now pool c.args.notes.now c.args.row.0 c.requires.row_bound c.requires.row_value n; chains_after = c.enter.ensures ∙ ap (λ (b : ℕ). entered c.args.chains.now b c.args.row.0) bucket }
