-- What a row is refused for, from what the functions answer.
-- Assumes nothing.
use Rattle.std.specs.Prelude.{Result, Ok, Err, ⊤}
use Prim.Native.Nat.{ℕ}
use mathlib.Core.Path.{◌≡◌, sym, ap, ◌∙◌, subst}
use mathlib.Core.Bool.{true, false, true≢false}
use mathlib.Core.List.{List}
use mathlib.Core.Option.{none, some}
use Rattle.rules.specs.Table.{nodes}
use Rattle.rules.specs.Refusals.{verdict, check_refusal}
use Rattle.rules.specs.Lookups.{lookup_refusal}
use Rattle.rules.specs.declared.Refusal.{Refusal}
use Rattle.rules.specs.declared.Row.{Row}
use Rattle.rules.proofs.Refusals.{verdict-accepted, verdict-refused}
use Rattle.rows.specs.Reading.{row_or}
use Rattle.markup.specs.Writing.{element_to_write, text_refusal}
use Rattle.row_refusals.specs.Refused.{row_refusal}
use Rattle.row_refusals.proofs.Refused.{row_written}
use Rattle.text_refusals.specs.Judging.{Writes, WrittenFrom}
use Rattle.element_text.proofs.Elements.{few}
use Rattle.text_refusals.proofs.Outcome.{row-refused, element-left}

-- What is answered.
module _ (table pool : List ℕ) (start : ℕ) where
  pub judged-refused : (x : Refusal) → ((size : ℕ) → text_refusal table pool start size ≡ some x) → WrittenFrom table pool start (Err x)
  judged-refused x is =
      record {
        element = λ e told. let bad : true ≡ false = cc in absurd (true≢false bad);
        refused = λ y told size. let same : x ≡ y = cc in is size ∙ ap some same;
      }

  pub judged-element : (e : Row) → Writes table pool start e.0 → WrittenFrom table pool start (Ok e)
  judged-element e writes =
      record {
        element = λ f told. let same : e ≡ f = cc in subst (λ (k : Row). Writes table pool start k.0) same writes;
        refused = λ y told size. let bad : true ≡ false = cc in absurd (true≢false bad);
      }

  -- From what the row is refused for.
  module _ (accepted : check_refusal table pool ≡ none) (begun : lookup_refusal table pool start ≡ none) {drawn : Result ⊤ Refusal} (told : drawn ≡ verdict (row_refusal (nodes table pool) start)) where
    pub judged-row : (x : Refusal) → drawn ≡ Err x → WrittenFrom table pool start (Err x)
    judged-row x is = judged-refused x (λ size. row-refused table pool start size begun x (verdict-refused (row_refusal (nodes table pool) start) x (sym told ∙ is)))

    pub judged-written : (e : Row) → e.0 ≡ row_or (element_to_write (nodes table pool) start) → drawn ≡ Ok tt → WrittenFrom table pool start (Ok e)
    judged-written e found is =
        let w = row_written table pool start e.0 (few table pool accepted) found (verdict-accepted (row_refusal (nodes table pool) start) (sym told ∙ is)) in
        judged-element e (record { accepted = accepted; within = w.within; outcome = λ size. element-left table pool start size begun e.0 w.level2 w.element w.subtree })
