-- A name that is found, and one that is entered, has its number; no name loses its own.
-- Assumes nothing.
use Prim.Native.Nat.{ℕ, ◌+◌, ◌≤◌, ◌<◌}
use mathlib.Core.Path.{◌≡◌, sym, ◌∙◌}
use mathlib.Core.List.{List}
use native.Mathlib.Omega.{arith}
use lib.ListN.{length, length-take, length-drop}
use Rattle.rules.specs.Table.{part}
use Rattle.rules.proofs.Lists.{same_bytes-equal}
use Rattle.chains.specs.Chains.{latest}
use Rattle.chains.proofs.Laws.{latest-within, latest-passes}
use Rattle.kinds.specs.Kinds.{kind_of}
use Rattle.tables.specs.Tables.{hash_in}
use Rattle.entries.specs.Entries.{last_number, tables_of, name_at, is_named, Entries, Interned, HasRoom, Within, entered}
use Rattle.entries.proofs.Entering.{last-entered}
use Rattle.entries.proofs.Entered.{name-kept, name-entered, entries-entered}

module _ (e pool : List ℕ) (g : Entries e pool) where
  pub found-interned : (name : List ℕ) {n : ℕ} → n ≡ latest (is_named e pool name) (last_number e) → 0 < n → Interned e e pool name n
  found-interned name f h =
      record {
        denotes =
            record {
              known = rw f (latest-within (is_named e pool name) (last_number e));
              spelled = rw f (same_bytes-equal (name_at e pool (latest (is_named e pool name) (last_number e))) name (latest-passes (is_named e pool name) (last_number e) (rw f at h)));
            };
        kept = λ m other d. d;
        few = omega arith;
      }

  pub new-interned :
      (offset size hard : ℕ) → HasRoom e → Within pool offset size → 0 < size → {name : List ℕ} → name ≡ part pool offset size
      → {hash : ℕ} → hash ≡ hash_in (tables_of e) (part pool offset size) → {n : ℕ} → n ≡ latest (is_named e pool name) (last_number e) → n ≤ 0 → {kind : ℕ} → kind ≡ kind_of (part pool offset size)
      → {new : ℕ} → new ≡ last_number e + 1 → {after : List ℕ} → after ≡ entered e offset size hash kind hard
      → Entries after pool × Interned e after pool (part pool offset size) new
  new-interned offset size hard room inside full part-is {hash} h {n} f z {kind} k New-is after_is =
      let none : latest (is_named e pool (part pool offset size)) (last_number e) ≡ 0 = (let o : n ≡ 0 = omega arith in sym (rw part-is at f) ∙ o) in
      let bytes : 0 < length (part pool offset size) = simp (length-take, length-drop) (omega arith) in
      let sized : size ≡ length (part pool offset size) = simp (length-take, length-drop) (omega arith) in
      let last = last-entered e offset size hash kind hard room.0 in
      rw (New-is, after_is) (
        entries-entered e pool offset size hash kind hard room.0 g h k sized bytes none,
        record {
          denotes = record { known = omega arith; spelled = name-entered e pool offset size hash kind hard room.0 };
          kept = λ m other d. (let l : m ≤ last_number e = d.known in record { known = omega arith; spelled = name-kept e pool offset size hash kind hard room.0 m (omega arith) ∙ d.spelled });
          few = omega arith;
        },
      )
