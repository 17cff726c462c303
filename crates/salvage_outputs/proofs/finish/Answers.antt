-- `salvage_outputs::finish` meets its contract.
use mathlib.Core.Path.{sym, ap, ◌∙◌}
use lib.ListN.{length}
use Rattle.salvage.specs.Salvage.{SalvageOutcome}
use Rattle.salvage_outputs.proofs.Outcome.{outcome-refused, outcome-short, filling, outcome-done}
use Rattle.salvage_outputs.proofs.finish.Goals as goal

pub returns-then-is_short : goal.returns-then-is_short
returns-then-is_short c =
    let ts = length c.args.out_table.now in
    let ls = length c.args.list.now in
    let yes? = c.if-is_short.true in record { by_index = λ pool d. c.refuse.ensures.value ∙ ap (λ (o : SalvageOutcome). o.answer) (sym (outcome-short d ts ls c.in-Ok.is c.is_short.ensures yes?)); by_index_2 = λ pool d. c.refuse.ensures.out_table_after ∙ ap (λ (o : SalvageOutcome). o.table) (sym (outcome-short d ts ls c.in-Ok.is c.is_short.ensures yes?)); by_index_3 = λ pool d. c.refuse.ensures.list_after ∙ ap (λ (o : SalvageOutcome). o.list) (sym (outcome-short d ts ls c.in-Ok.is c.is_short.ensures yes?)) }

pub fill-requires : goal.fill-requires
fill-requires c =
    filling c.requires.that (length c.args.out_table.now) (length c.args.list.now) c.in-Ok.is c.is_short.ensures c.if-is_short.false

pub returns-else-is_short : goal.returns-else-is_short
returns-else-is_short c =
    let ts = length c.args.out_table.now in
    let ls = length c.args.list.now in
    let no? = c.if-is_short.false in record { by_index = λ pool d. ap (λ (o : SalvageOutcome). o.answer) (sym (outcome-done d ts ls c.in-Ok.is c.is_short.ensures no? c.fill.ensures.out_table_after c.fill.ensures.list_after)); by_index_2 = λ pool d. ap (λ (o : SalvageOutcome). o.table) (sym (outcome-done d ts ls c.in-Ok.is c.is_short.ensures no? c.fill.ensures.out_table_after c.fill.ensures.list_after)); by_index_3 = λ pool d. ap (λ (o : SalvageOutcome). o.list) (sym (outcome-done d ts ls c.in-Ok.is c.is_short.ensures no? c.fill.ensures.out_table_after c.fill.ensures.list_after)) }

pub returns-in-Err : goal.returns-in-Err
returns-in-Err c =
    let ts = length c.args.out_table.now in
    let ls = length c.args.list.now in record { by_index = λ pool d. c.refuse-in-Err.ensures.value ∙ ap (λ (o : SalvageOutcome). o.answer) (sym (outcome-refused d ts ls c.in-Err.is)); by_index_2 = λ pool d. c.refuse-in-Err.ensures.out_table_after ∙ ap (λ (o : SalvageOutcome). o.table) (sym (outcome-refused d ts ls c.in-Err.is)); by_index_3 = λ pool d. c.refuse-in-Err.ensures.list_after ∙ ap (λ (o : SalvageOutcome). o.list) (sym (outcome-refused d ts ls c.in-Err.is)) }
