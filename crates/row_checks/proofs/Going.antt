-- The pass over the rows: one row is judged, or many are passed at one look each, and what is left at the end.
-- Assumes nothing.
use Rattle.std.specs.Prelude.{Result, Ok, Err, ⊤}
use Prim.Native.Nat.{ℕ, zero, suc, ◌+◌, ◌-◌, ◌≤◌, ◌<◌}
use mathlib.Core.Path.{◌≡◌, refl, sym, ap, ◌∙◌}
use mathlib.Core.Bool.{Bool, true, false, cond, ◌&&◌, not}
use mathlib.Core.List.{List, [], ◌∷◌}
use mathlib.Core.Option.{Option, none, some, none-ne-some}
use native.Mathlib.Nat.{zero-add}
use native.Mathlib.Numerals.{add-one}
use native.Mathlib.Omega.{arith}
use lib.Dec.{eqb, ltb}
use lib.ListN.{length, get_or, set, replicate, length-append}
use borrow.Author.Tests.{eqb-true, eqb-false, ltb-true, ltb-false}
use Rattle.rules.specs.Table.{MOST_ROWS, Node, node_at, nodes, row_count}
use Rattle.rules.specs.Answers.{check_number}
use Rattle.rules.specs.Refusals.{first_refusal, lowest_refusal, faults, conflicts, row_refusal, verdict}
use Rattle.rules.specs.declared.Refusal.{Refusal}
use Rattle.rules.proofs.Lists.{by_cases, true-not-false}
use Rattle.rules.proofs.Refusals.{verdict-accepted, verdict-refused, first_alone, first-append, none-lowest, from_start, from-refused}
use Rattle.notes.specs.Notes.{NOTES, LATEST, note_at}
use Rattle.numbers.specs.Noted.{NodeNumbered, Numbered}
use Rattle.dictionary.specs.Dictionary.{last_of, spelling, Dictionary}
use Rattle.dictionary.proofs.Laws.{spelled}
use Rattle.numbering.specs.Numbering.{HasRoom, RowNumbered}
use Rattle.faults.specs.Faults.{fault_refusal}
use Rattle.faults.proofs.Laws.{parent-before}
use Rattle.doubles.specs.Doubles.{BUCKETS, bucket_at, Entered}
use Rattle.doubles.proofs.Adding.{begun, renumbered}
use Rattle.conflicts.specs.Conflicts.{conflict_refusal, settled}
use Rattle.conflicts.proofs.Laws.{conflicts-all, settled-entered, settled-passed}
use Rattle.fast_path.specs.Passing.{every_row, Reached, Passed}
use Rattle.row_checks.specs.Arrays.{Enough, Named}
use Rattle.row_checks.specs.Pass.{refusal_at, rows_refusal}
use Rattle.row_checks.proofs.Rest.{rest-passed}
use Rattle.dropped_rows.specs.Dropped.{drop_refusal, kept, drops_below}
use Rattle.dropped_rows.proofs.Kept.{IsKept, either, drops-next, drops-not, both-counted, none_dropped}
use Rattle.fates.specs.Fates.{keeps, Fated}
use Rattle.fates.proofs.Laws.{keeps-kept, keeps-dropped, fated-noted, fated-passed, told-kept, told-dropped}
use Rattle.row_checks.specs.Judging.{rows_fault, judged, Judged, step_refusal, Going, Counted}
use Rattle.row_checks.proofs.Kept.{drop-conflict, conflict-all, kept_on, entered-alike}

-- Before the first row.
pub going_start :
    (drops : Bool) (table pool dictionary notes fates : List ℕ) → Enough table pool dictionary notes → Dictionary dictionary pool → last_of dictionary ≤ 0 → (drops ≡ true → Fated (nodes table pool) fates 0)
    → Going drops table pool dictionary notes (replicate (BUCKETS + MOST_ROWS + 1) 0) fates 0
going_start drops table pool dictionary notes fates e right empty fated =
    let rows = e.rows in
    record {
      bound = omega arith;
      right = right;
      few = omega arith;
      numbered = record { spelled = spelled right; rows = λ q h. absurd (omega arith) };
      owned = begun (keeps (nodes table pool)) table notes (BUCKETS + MOST_ROWS + 1) rows e.records (omega arith);
      fated = fated;
      faultless = λ q h. absurd (omega arith);
      alone = λ d q h. absurd (omega arith);
    }

-- The number of rows that are dropped.
pub none_yet : (ns : List Node) → 0 ≡ length (drops_below ns 0)
unfolding drops_below
none_yet ns = refl

told-next : (ns : List Node) (fates : List ℕ) (r dropped : ℕ) → Fated ns fates (r + 1) → {told : Bool} → told ≡ not (eqb (get_or fates r 0) 0) → dropped ≡ length (drops_below ns r) → cond told (dropped + 1) dropped ≡ length (drops_below ns (r + 1))
told-next ns fates r dropped f {told} t d =
    by_cases told
    (λ e. told-dropped f (omega arith) t e (λ x k. rw (e, add-one r, drops-next ns r x k) (simp length-append (omega (arith, d)))))
    (λ e. rw (e, add-one r, drops-not ns r (told-kept f (omega arith) t e)) d)

pub counted_next :
    {drops : Bool} {table pool dictionary notes chains fates : List ℕ} (r : ℕ) → Going drops table pool dictionary notes chains fates (r + 1) → {dropped : ℕ} → dropped ≡ length (drops_below (nodes table pool) r)
    → {count : ℕ} → count ≡ cond (drops && not (eqb (get_or fates r 0) 0)) (dropped + 1) dropped → count ≡ length (drops_below (nodes table pool) (r + 1))
counted_next {drops} {table} {pool} {fates = fates} r g {dropped} d {count} c =
    by_cases drops
    (λ e. (rw e at c) ∙ told-next (nodes table pool) fates r dropped (g.fated e) refl d)
    (λ e. (rw e at c) ∙ d ∙ sym (ap length (ap (drops_below (nodes table pool)) (add-one r) ∙ drops-not (nodes table pool) r (g.alone e r (omega arith)))))

-- What row r is refused for by the rules: its faults, then its conflicts; where those before it are kept, its conflict with them.
module _ (table pool : List ℕ) (r : ℕ) (h : r < row_count table) where
  parts : refusal_at table pool r ≡ first_refusal (fault_refusal table pool r ∷ conflict_refusal every_row (nodes table pool) r ∷ [])
  unfolding row_refusal
  parts =
      first-append (faults (nodes table pool) (length pool) r) (conflicts (nodes table pool) r)
      ∙ ap (λ (o : Option Refusal). first_refusal (fault_refusal table pool r ∷ o ∷ [])) (sym (conflicts-all table pool r h))

  refused-kept : ((s : ℕ) → s < r → IsKept (nodes table pool) s) → refusal_at table pool r ≡ first_refusal (fault_refusal table pool r ∷ drop_refusal (nodes table pool) (kept (nodes table pool) r) r ∷ [])
  refused-kept all =
      parts ∙ ap (λ (o : Option Refusal). first_refusal (fault_refusal table pool r ∷ o ∷ [])) (conflict-all (nodes table pool) r all ∙ drop-conflict (nodes table pool) r)

-- What a row is refused for in the pass.
module _ (drops : Bool) (table pool : List ℕ) (r : ℕ) where
  pub step-fault : {fault : Result ⊤ Refusal} → fault ≡ verdict (fault_refusal table pool r) → (x : Refusal) → fault ≡ Err x → fault ≡ verdict (step_refusal drops table pool r)
  unfolding step_refusal
  step-fault f x t =
      let e = verdict-refused (fault_refusal table pool r) x (sym f ∙ t) in
      by_cases drops
      (λ d. rw d f)
      (λ d. rw (d, e) t)

  pub step-drops : drops ≡ true → {fault : Result ⊤ Refusal} → fault ≡ verdict (fault_refusal table pool r) → fault ≡ verdict (step_refusal drops table pool r)
  unfolding step_refusal
  step-drops d f = rw d f

  pub step-conflict : drops ≡ false → fault_refusal table pool r ≡ none → {conflict : Result ⊤ Refusal} → conflict ≡ verdict (drop_refusal (nodes table pool) (kept (nodes table pool) r) r) → conflict ≡ verdict (step_refusal drops table pool r)
  unfolding step_refusal
  step-conflict d e c = rw (d, e) (c ∙ ap verdict (first_alone (drop_refusal (nodes table pool) (kept (nodes table pool) r) r)))

module _ {drops : Bool} {table pool dictionary notes chains fates : List ℕ} {r : ℕ} (g : Going drops table pool dictionary notes chains fates r) where
  abbrev ns : List Node
  ns = nodes table pool

  -- no row is left
  pub going_end : drops ≡ true → row_count table ≤ r → {dropped : ℕ} → dropped ≡ length (drops_below ns r) → Judged table pool fates (Ok (record { rows = r - dropped; dropped = dropped }))
  unfolding judged
  going_end drop h {dropped} d =
      let bound = g.bound in
      let last : r ≡ row_count table = omega arith in
      let clear : rows_fault table pool ≡ none = none-lowest (fault_refusal table pool) (row_count table) (λ q i. g.faultless q (omega arith)) in
      let kept-count : r - dropped ≡ length (kept ns (row_count table)) = omega (arith, rw last at (both-counted ns r), rw last at d, last) in
      record {
        given = rw (clear, kept-count, d, last) refl;
        fated = λ e. rw (← last) (g.fated drop);
      }

  -- No row before has a refusal, where rows are not dropped.
  unrefused-before : drops ≡ false → (q : ℕ) → q < r → refusal_at table pool q ≡ none
  unrefused-before d q i =
      let bound = g.bound in
      refused-kept table pool q (omega arith) (λ s j. g.alone d s (omega arith)) ∙ rw (g.faultless q i, g.alone d q i) refl

  pub going-accepted : drops ≡ false → row_count table ≤ r → (Ok tt) ≡ verdict (rows_refusal table pool)
  going-accepted d h = let clear = none-lowest (refusal_at table pool) (row_count table) (λ q i. unrefused-before d q (omega arith)) in rw clear refl

  pub going-named : row_count table ≤ r → Named table pool dictionary notes
  going-named h =
      let bound = g.bound in
      let last : r ≡ row_count table = omega arith in
      record { right = g.right; few = rw (← last) g.few; numbered = rw (← last) g.numbered }

  pub few-dropped : {dropped : ℕ} → dropped ≡ length (drops_below ns r) → dropped ≤ r
  few-dropped d = omega (arith, d, both-counted ns r)

  -- Rows are passed at one look each, up to row s, where none is dropped so far.
  module _ {dropped : ℕ} (d : dropped ≡ length (drops_below ns r)) (z : dropped ≡ 0) where
    none-listed : (s : ℕ) → ((q : ℕ) → q < s → IsKept ns q) → drops_below ns s ≡ []
    unfolding drops_below
    none-listed zero all = refl
    none-listed (suc s) all = drops-not ns s (all s (omega arith)) ∙ none-listed s (λ q h. all q (omega arith))

    all-before : (q : ℕ) → q < r → IsKept ns q
    all-before = none_dropped ns r (sym d ∙ z)

    pub going-reached : Reached table pool dictionary notes chains r
    going-reached = record { bound = g.bound; right = g.right; numbered = g.numbered; owned = entered-alike g.owned every_row (λ s h. sym (keeps-kept ns s (all-before s h))) }

    module _ {s : ℕ} {noted chains' : List ℕ} (reached : Reached table pool dictionary noted chains' s) (onward : r ≤ s) (passed : (q : ℕ) → r ≤ q → q < s → Passed table pool q) where
      all-now : (q : ℕ) → q < s → IsKept ns q
      all-now = kept_on ns r all-before s (λ q i j. (passed q i j).alone)

      pub going-passed : Going drops table pool dictionary noted chains' fates s
      going-passed =
          let few = g.few in
          record {
            bound = reached.bound;
            right = g.right;
            few = omega arith;
            numbered = reached.numbered;
            owned = entered-alike reached.owned (keeps ns) (λ q h. keeps-kept ns q (all-now q h));
            fated = λ d. fated-passed (g.fated d) s onward (λ q i j. all-now q j);
            faultless = λ q h. by_cases (ltb q r) (λ t. g.faultless q (ltb-true q r t)) (λ t. (passed q (ltb-false q r t) h).faultless);
            alone = λ d q h. all-now q h;
          }

      pub passed-count : dropped ≡ length (drops_below ns s)
      passed-count = z ∙ sym (ap length (none-listed s all-now))

  module _ (h : r < row_count table) where
    -- What row r is refused for is the first refusal.
    first_of : (row : ℕ → Option Refusal) → ((q : ℕ) → q < r → row q ≡ none) → (x : Refusal) → row r ≡ some x → lowest_refusal row (row_count table) ≡ some x
    first_of row before x e =
        sym (from_start row (row_count table)) ∙ sym (rw (zero-add r) at (rest-passed row (row_count table) 0 r (omega arith) (λ q i j. before q (omega arith))))
        ∙ from-refused row (row_count table) r h x e

    module _ {drawn : Result ⊤ Refusal} (f : drawn ≡ verdict (step_refusal drops table pool r)) (x : Refusal) (t : drawn ≡ Err x) where
      step : step_refusal drops table pool r ≡ some x
      step = verdict-refused (step_refusal drops table pool r) x (sym f ∙ t)

      pub going-refused : drops ≡ true → (left : List ℕ) → Judged table pool left (Err x)
      unfolding judged step_refusal
      going-refused d left =
          let here : fault_refusal table pool r ≡ some x = rw d at step in
          let first = first_of (fault_refusal table pool) g.faultless x here in
          record { given = rw first refl; fated = λ n. absurd (none-ne-some x (sym n ∙ first)) }

      pub going-drawn : drops ≡ false → Err x ≡ verdict (rows_refusal table pool)
      unfolding step_refusal
      going-drawn d =
          let here : first_refusal (fault_refusal table pool r ∷ drop_refusal ns (kept ns r) r ∷ []) ≡ some x = rw d at step in
          let first = first_of (refusal_at table pool) (unrefused-before d) x (refused-kept table pool r h (g.alone d) ∙ here) in
          rw first refl

    pub going-room : Enough table pool dictionary notes → HasRoom dictionary 3
    going-room e =
        let few = g.few in
        let rows = e.rows in
        let words = e.words in
        record { words = omega arith; small = omega arith }

    -- The names of row r have their numbers.
    module _ {after noted : List ℕ} (n : RowNumbered dictionary notes after noted pool r (node_at table pool r)) (l : length noted ≡ length notes) where
      same-notes : (q k : ℕ) → q < r → k < NOTES → note_at noted q k ≡ note_at notes q k
      same-notes q k i j = n.others q k j (λ e m. omega arith)

      same_row : (q : ℕ) → q < r → NodeNumbered notes (spelling dictionary pool) (last_of dictionary) q (node_at table pool q) → NodeNumbered noted (spelling after pool) (last_of after) q (node_at table pool q)
      same_row q i o =
          record {
            prefix = rw (same-notes q 0 i (omega arith)) (n.kept _ _ o.prefix);
            local = rw (same-notes q 1 i (omega arith)) (n.kept _ _ o.local);
            uri = rw (same-notes q 2 i (omega arith)) (n.kept _ _ o.uri);
            value = rw (same-notes q 3 i (omega arith)) (n.kept _ _ o.value);
          }

      pub going-numbered : Numbered table pool noted (spelling after pool) (last_of after) (r + 1)
      going-numbered =
          record {
            spelled = spelled n.right;
            rows = λ q i.
                by_cases (eqb q r)
                (λ e. rw (eqb-true q r e) n.numbered)
                (λ e. let d = eqb-false q r e in same_row q (omega arith) (g.numbered.rows q (omega arith)));
          }

      pub going-owned : Entered (keeps ns) table noted chains r
      going-owned = renumbered g.owned noted l same-notes

      -- Its fate is what its conflict is, and it is entered if it has none.
      module _ (clear : fault_refusal table pool r ≡ none) {conflict : Result ⊤ Refusal} (c : conflict ≡ verdict (conflict_refusal (keeps ns) ns r)) where
        fate : conflict ≡ verdict (drop_refusal ns (kept ns r) r)
        fate = c ∙ ap verdict (drop-conflict ns r)

        entered-next : {b : ℕ} → b ≡ bucket_at table noted (r + 1) → Entered (keeps ns) table noted (settled conflict chains b r) (r + 1)
        entered-next q =
            either ns r
            (λ k. settled-entered h going-owned q (keeps-kept ns r k) (parent-before table pool r h clear) (fate ∙ ap verdict k))
            (λ x k. settled-passed h going-owned q (keeps-dropped ns r x k) x (fate ∙ ap verdict k))

        pub fate-of : conflict ≡ verdict (drop_refusal ns (kept ns r) r)
        fate-of = fate

        going_next :
            {chains' fates' : List ℕ} → chains' ≡ settled conflict chains (bucket_at table noted (r + 1)) r → (drops ≡ true → Fated ns fates' (r + 1)) → (drops ≡ false → IsKept ns r)
            → Going drops table pool after noted chains' fates' (r + 1)
        going_next chained fated alone =
            let few = g.few in
            let more = n.few in
            record {
              bound = omega arith;
              right = n.right;
              few = omega arith;
              numbered = going-numbered;
              owned = rw chained (entered-next refl);
              fated = fated;
              faultless = λ q i. by_cases (eqb q r) (λ e. rw (eqb-true q r e) clear) (λ e. let d = eqb-false q r e in g.faultless q (omega arith));
              alone = λ z q i. by_cases (eqb q r) (λ e. rw (eqb-true q r e) (alone z)) (λ e. let d = eqb-false q r e in g.alone z q (omega arith));
            }

        pub going-dropped :
            drops ≡ true → {chains' fates' : List ℕ} → chains' ≡ settled conflict chains (bucket_at table noted (r + 1)) r → r < length fates → fates' ≡ set fates r (check_number conflict).number
            → Going drops table pool after noted chains' fates' (r + 1)
        going-dropped d chained room wrote = going_next chained (λ z. rw wrote (fated-noted (g.fated d) room fate)) (λ z. absurd (true-not-false d z))

        pub going-alone :
            drops ≡ false → {chains' : List ℕ} → chains' ≡ settled conflict chains (bucket_at table noted (r + 1)) r → conflict ≡ Ok tt → Going drops table pool after noted chains' fates (r + 1)
        going-alone d chained a = going_next chained (λ z. absurd (true-not-false z d)) (λ z. verdict-accepted (drop_refusal ns (kept ns r) r) (sym fate ∙ a))

-- The loop: besides, the arrays are as long as they were, and the links in the notes are kept.
pub record Looping (drops : Bool) (table pool dictionary₀ notes₀ fates₀ dictionary notes chains fates : List ℕ) (dropped r : ℕ) : Type 0 where
  pub kept : (q k : ℕ) → LATEST ≤ k → k < NOTES → note_at notes q k ≡ note_at notes₀ q k
  pub counted : Counted drops table pool dictionary notes chains fates dropped r
  pub words : length dictionary ≡ length dictionary₀
  pub records : length notes ≡ length notes₀
  pub marked : length fates ≡ length fates₀
  pub links : length chains ≡ BUCKETS + MOST_ROWS + 1

pub still-enough :
    {table pool dictionary notes after noted : List ℕ} → Enough table pool dictionary notes → length after ≡ length dictionary → length noted ≡ length notes
    → Enough table pool after noted
still-enough e d n = record { rows = e.rows; bytes = e.bytes; words = rw d e.words; records = rw n e.records }
