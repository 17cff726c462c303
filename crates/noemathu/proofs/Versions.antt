-- Every call answers of a bundle what it answers of the bundle that is written of the same table and pool.
-- Assumes nothing.
use mathlib.Core.Path.{◌≡◌, sym, ap, ◌∙◌}
use mathlib.Core.Bool.{true}
use mathlib.Core.List.{List, [], ◌∷◌}
use mathlib.Core.Option.{Option, none}
use Prim.Native.Nat.{ℕ}
use Rattle.rules.specs.Lists.{all_of}
use Rattle.rules.specs.Table.{Node, nodes}
use Rattle.rules.specs.Refusals.{first_refusal, verdict, check_refusal}
use Rattle.rules.specs.declared.Refusal.{Refusal}
use Rattle.little_endian.specs.Numbers.{is_byte}
use Rattle.bundles.specs.Bundles.{bundle_refusal, bundle_table, bundle_pool}
use Rattle.bundles.specs.Operations.{write_refused}
use Rattle.bundles.specs.Versions.{renewed}
use Rattle.bundles.proofs.Versions.{renews, renewed-answers, answers-renewed}
use Rattle.packing.specs.Packing.{packed_into, bundle_packed}
use Rattle.salvage.specs.Salvage.{rescue_refused, rescued, bundle_salvaged}
use Rattle.markup.specs.Writing.{text_written, bundle_text}
use Rattle.proposals.specs.Proposals.{judged, bundle_check_refusal, rows_of, bundle_proposal_checked}
use Rattle.noemathu.specs.Versions.{CallsRenewed}

module _ (bytes : List ℕ) (all : all_of is_byte bytes ≡ true) (e : bundle_refusal bytes ≡ none) where
  same_check : bundle_check_refusal (renewed bytes) ≡ bundle_check_refusal bytes
  unfolding bundle_check_refusal
  same_check =
      let s = renews bytes all e in
      ap (λ (o : Option Refusal). first_refusal (o ∷ check_refusal (bundle_table (renewed bytes)) (bundle_pool (renewed bytes)) ∷ [])) (s.bundle ∙ sym e)
      ∙ ap (λ (t : List ℕ). first_refusal (bundle_refusal bytes ∷ check_refusal t (bundle_pool (renewed bytes)) ∷ [])) s.table_read
      ∙ ap (λ (p : List ℕ). first_refusal (bundle_refusal bytes ∷ check_refusal (bundle_table bytes) p ∷ [])) s.pool_read

  same_rows : rows_of (renewed bytes) ≡ rows_of bytes
  same_rows =
      let s = renews bytes all e in
      ap (λ (t : List ℕ). nodes t (bundle_pool (renewed bytes))) s.table_read ∙ ap (nodes (bundle_table bytes)) s.pool_read

pub calls-renewed : CallsRenewed
unfolding bundle_text bundle_packed bundle_salvaged bundle_proposal_checked
calls-renewed bytes all e =
    let check = same_check bytes all e in
    let rows = same_rows bytes all e in
    record {
      answers = answers-renewed bytes all e;
      text = λ start size. renewed-answers _ (write_refused size) (λ t p. text_written t p start size) bytes all e;
      packed = λ size. renewed-answers _ (write_refused size) (λ t p. packed_into t p size) bytes all e;
      salvaged = λ size list_size. renewed-answers _ (rescue_refused size list_size) (λ t p. rescued t p size list_size) bytes all e;
      original = λ planned.
          ap (λ (o : Option Refusal). verdict (judged o (rows_of (renewed bytes)) (bundle_check_refusal planned) (rows_of planned))) check
          ∙ ap (λ (ns : List Node). verdict (judged (bundle_check_refusal bytes) ns (bundle_check_refusal planned) (rows_of planned))) rows;
      proposal = λ first.
          ap (λ (o : Option Refusal). verdict (judged (bundle_check_refusal first) (rows_of first) o (rows_of (renewed bytes)))) check
          ∙ ap (λ (ns : List Node). verdict (judged (bundle_check_refusal first) (rows_of first) (bundle_check_refusal bytes) ns)) rows;
    }
