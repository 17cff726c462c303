-- `salvaged_bundle::finish` meets its contract.
use Prim.Native.Nat.{ℕ}
use mathlib.Core.Path.{sym, ap, ◌∙◌}
use lib.ListN.{length}
use Rattle.salvage.specs.Salvage.{RescueOutcome, rescue_refused}
use Rattle.salvaged_bundle.proofs.Rescue.{rescue-refused, kept-room, kept-words, kept-sized, rescue-short, rescue-done}
use Rattle.salvaged_bundle.proofs.finish.Goals as goal

pub table-requires : goal.table-requires
table-requires c = kept-room c.requires.that c.in-Ok.is

pub write_bundle-requires : goal.write_bundle-requires
write_bundle-requires c = rw (c.table.ensures ∙ kept-words c.requires.that c.in-Ok.is) (kept-sized c.requires.that c.in-Ok.is)

pub returns-in-Ok-write_bundle : goal.returns-in-Ok-write_bundle
returns-in-Ok-write_bundle c =
    let size = length c.args.out.now in record { by_index = λ table k. ap (λ (o : RescueOutcome). o.answer) (sym (rescue-done k c.in-Ok.is size c.table.ensures c.write_bundle.ensures.value c.in-Ok-write_bundle.is c.write_bundle.ensures.out_after)); by_index_2 = λ table k. ap (λ (o : RescueOutcome). o.bytes) (sym (rescue-done k c.in-Ok.is size c.table.ensures c.write_bundle.ensures.value c.in-Ok-write_bundle.is c.write_bundle.ensures.out_after)); by_index_3 = λ table k. ap (λ (o : RescueOutcome). o.list) (sym (rescue-done k c.in-Ok.is size c.table.ensures c.write_bundle.ensures.value c.in-Ok-write_bundle.is c.write_bundle.ensures.out_after)) }

pub returns-in-Err-write_bundle : goal.returns-in-Err-write_bundle
returns-in-Err-write_bundle c =
    let size = length c.args.out.now in
    let ls = length c.args.list.now in
    let why = c.in-Err-write_bundle.x in
    let same = c.write_bundle.auto.out in record { by_index = λ table k. c.refuse.ensures.value ∙ ap (λ (n : ℕ). (rescue_refused n ls why).answer) same ∙ ap (λ (o : RescueOutcome). o.answer) (sym (rescue-short k c.in-Ok.is size c.table.ensures c.write_bundle.ensures.value c.in-Err-write_bundle.is)); by_index_2 = λ table k. c.refuse.ensures.out_after ∙ ap (λ (n : ℕ). (rescue_refused n ls why).bytes) same ∙ ap (λ (o : RescueOutcome). o.bytes) (sym (rescue-short k c.in-Ok.is size c.table.ensures c.write_bundle.ensures.value c.in-Err-write_bundle.is)); by_index_3 = λ table k. c.refuse.ensures.list_after ∙ ap (λ (n : ℕ). (rescue_refused n ls why).list) same ∙ ap (λ (o : RescueOutcome). o.list) (sym (rescue-short k c.in-Ok.is size c.table.ensures c.write_bundle.ensures.value c.in-Err-write_bundle.is)) }

pub returns-in-Err : goal.returns-in-Err
returns-in-Err c =
    let size = length c.args.out.now in record { by_index = λ table k. c.refuse-in-Err.ensures.value ∙ ap (λ (o : RescueOutcome). o.answer) (sym (rescue-refused k c.in-Err.is size)); by_index_2 = λ table k. c.refuse-in-Err.ensures.out_after ∙ ap (λ (o : RescueOutcome). o.bytes) (sym (rescue-refused k c.in-Err.is size)); by_index_3 = λ table k. c.refuse-in-Err.ensures.list_after ∙ ap (λ (o : RescueOutcome). o.list) (sym (rescue-refused k c.in-Err.is size)) }
