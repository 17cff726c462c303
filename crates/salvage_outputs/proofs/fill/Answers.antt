-- `salvage_outputs::fill` meets its contract.
use Prim.Native.Nat.{ℕ}
use mathlib.Core.Path.{sym, ap, ◌∙◌}
use native.Mathlib.Omega.{arith}
use lib.ListN.{length}
use Rattle.rules.specs.Table.{row_count}
use Rattle.rules.specs.Outputs.{padded}
use Rattle.buffers.proofs.Writes.{written-from-start}
use Rattle.kept_table.specs.Kept.{kept_words}
use Rattle.dropped_list.specs.Dropped.{dropped_words}
use Rattle.salvage_outputs.proofs.Outcome.{front-padded, all-zero, zeros-padded}
use Rattle.salvage_outputs.proofs.fill.Goals as goal

pub copy_words-requires : goal.copy_words-requires
copy_words-requires c = omega (arith, ap length (c.requires.unchanged c.if-dropped-eq0.true), c.requires.words, c.requires.table_room)

pub clear_words-requires : goal.clear_words-requires
clear_words-requires c = rw c.copy_words.auto.table c.requires.table_room

pub returns-then-dropped-eq0 : goal.returns-then-dropped-eq0
returns-then-dropped-eq0 c =
    let none? = c.if-dropped-eq0.true in
    let same = c.requires.unchanged none? in record {
      out_table_after = front-padded c.args.out_table.now c.args.table.now c.copy_words.ensures c.copy_words.auto.table c.clear_words.ensures (sym (ap length same) ∙ c.requires.words) c.requires.table_room
          ∙ ap (padded (length c.args.out_table.now)) (sym same);
      list_after = all-zero c.args.list.now c.clear_words-then-dropped-eq0.ensures ∙ zeros-padded (length c.args.list.now) _ (omega (arith, c.requires.entries, none?));
    }

pub write-requires : goal.write-requires
write-requires c =
    record { sorted = c.requires.sorted; table_in_bounds = omega (arith, c.requires.words, c.requires.table_room) }

pub clear_words-requires-2 : goal.clear_words-requires-2
clear_words-requires-2 c = rw c.write.auto.out c.requires.table_room

pub write-requires-2 : goal.write-requires-2
write-requires-2 c =
    rw c.row_count.ensures record { rows_in_bounds = (c.requires.sorted.noted, c.requires.sorted.few); rows_in_bounds_2 = omega (arith, c.requires.entries, c.requires.list_room) }

pub returns : goal.returns
returns c =
    let l = kept_words c.args.table.now c.args.fates.now (row_count c.args.table.now) in record { out_table_after = front-padded c.args.out_table.now l (c.write.ensures ∙ written-from-start c.args.out_table.now l) c.write.auto.out c.clear_words-2.ensures c.requires.words c.requires.table_room; list_after = c.write-2.ensures ∙ ap (λ (n : ℕ). padded (length c.args.list.now) (dropped_words c.args.fates.now n)) c.row_count.ensures }
