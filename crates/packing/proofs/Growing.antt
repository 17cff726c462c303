-- The packed form as it grows row by row: what is entered stays where it is.
-- Assumes nothing.
use Prim.Native.Nat.{ℕ, suc, ◌+◌, ◌≤◌, ◌<◌}
use mathlib.Core.Path.{◌≡◌, refl, sym, ◌∙◌, ap}
use mathlib.Core.Bool.{true, false}
use mathlib.Core.List.{List, [], ◌∷◌, ◌++◌, map, append-nil, append_assoc}
use native.Mathlib.Omega.{arith}
use lib.ListN.{length, take, drop, length-append, take-append-drop}
use lib.Seq.{take-suc}
use Rattle.rules.specs.Lists.{any_of, all_of, gathered, is_empty, same_bytes}
use Rattle.rules.specs.Table.{Field, Node, no_node, node}
use Rattle.rules.specs.Demands.{field_bytes}
use Rattle.rules.proofs.Lists.{by_cases, both_true, both_false, true-not-false, same_bytes-refl, map-append, empty-equal}
use Rattle.packing.specs.Packing.{uses, entered, entered_all, entries, joined, start_of, offset_in, packed_field, packed_node, packed_form}
use Rattle.packing.proofs.Entries.{is_held, rows-held}

-- End to end, with more behind it.
joined-more : (names more : List (List ℕ)) → joined (names ++ more) ≡ joined names ++ joined more
unfolding joined
joined-more [] more = refl
joined-more (name ∷ names) more =
    ap (λ (l : List ℕ). name ++ l) (joined-more names more) ∙ sym (append_assoc name (joined names) (joined more))

pub joined-behind : (names : List (List ℕ)) (bytes : List ℕ) → joined (names ++ bytes ∷ []) ≡ joined names ++ bytes
unfolding joined
joined-behind names bytes = joined-more names (bytes ∷ []) ∙ ap (λ (l : List ℕ). joined names ++ l) (append-nil bytes)

-- A new name starts where the others end, and the others start where they did.
pub start-new : (names : List (List ℕ)) (bytes : List ℕ) → any_of (same_bytes bytes) names ≡ false → start_of (names ++ bytes ∷ []) bytes ≡ length (joined names)
unfolding start_of joined
start-new [] bytes e = rw (same_bytes-refl bytes) refl
start-new (name ∷ names) bytes e =
    let h = both_false (same_bytes bytes name) (any_of (same_bytes bytes) names) e in
    rw h.0 (ap (λ (k : ℕ). length name + k) (start-new names bytes h.1) ∙ sym (length-append name (joined names)))

pub start-kept : (names more : List (List ℕ)) (bytes : List ℕ) → any_of (same_bytes bytes) names ≡ true → start_of (names ++ more) bytes ≡ start_of names bytes
unfolding start_of
start-kept [] more bytes e = absurd (true-not-false e refl)
start-kept (name ∷ names) more bytes e =
    by_cases (same_bytes bytes name)
    (λ q. rw q refl)
    (λ q. rw q (ap (λ (k : ℕ). length name + k) (start-kept names more bytes (rw q at e))))

-- What is entered stands behind what was there.
pub record Behind (names after : List (List ℕ)) : Type 0 where
  pub more : List (List ℕ)
  pub same : after ≡ names ++ more

entered-behind : (names : List (List ℕ)) (bytes : List ℕ) → Behind names (entered names bytes)
unfolding entered
entered-behind names bytes =
    by_cases (is_held names bytes)
    (λ q. record { more = []; same = rw q (sym (append-nil names)) })
    (λ q. record { more = bytes ∷ []; same = rw q refl })

pub behind : (names uses : List (List ℕ)) → Behind names (entered_all names uses)
unfolding entered_all
behind names [] = record { more = []; same = sym (append-nil names) }
behind names (bytes ∷ later) =
    let first = entered-behind names bytes in
    let rest = behind (entered names bytes) later in
    record {
      more = first.more ++ rest.more;
      same = rest.same ∙ ap (λ (l : List (List ℕ)). l ++ rest.more) first.same ∙ append_assoc names first.more rest.more;
    }

pub longer : (names uses : List (List ℕ)) → length (joined names) ≤ length (joined (entered_all names uses))
longer names uses =
    let b = behind names uses in
    rw (b.same, joined-more names b.more, length-append) (omega arith)

pub entered-longer : (names : List (List ℕ)) (bytes : List ℕ) → length (joined names) ≤ length (joined (entered names bytes))
unfolding entered_all
entered-longer names bytes = longer names (bytes ∷ [])

-- One name more: none, one that is there, a new one.
module _ (names : List (List ℕ)) (bytes : List ℕ) where
  pub enters_none : is_empty bytes ≡ true → entered names bytes ≡ names
  unfolding entered
  enters_none q = rw q refl

  pub enters-known : any_of (same_bytes bytes) names ≡ true → entered names bytes ≡ names
  unfolding entered
  enters-known q = by_cases (is_empty bytes) (λ e. rw e refl) (λ e. rw (e, q) refl)

  pub enters-new : is_empty bytes ≡ false → any_of (same_bytes bytes) names ≡ false → entered names bytes ≡ names ++ bytes ∷ []
  unfolding entered
  enters-new e q = rw (e, q) refl

-- A field of bytes that are held stays where it is.
pub offset-kept : (names uses : List (List ℕ)) (bytes : List ℕ) → is_held names bytes ≡ true → offset_in (entered_all names uses) bytes ≡ offset_in names bytes
unfolding offset_in
offset-kept names uses bytes h =
    by_cases (is_empty bytes)
    (λ q. rw q refl)
    (λ q.
    let b = behind names uses in
    rw (q, b.same) (start-kept names b.more bytes (rw q at h)))

pub packed-field : (names : List (List ℕ)) (f : Field) → packed_field names f ≡ record { offset = offset_in names f.bytes; size = length f.bytes; bytes = f.bytes }
unfolding packed_field offset_in
packed-field names f =
    by_cases (is_empty f.bytes)
    (λ q. rw (q, empty-equal f.bytes q) refl)
    (λ q. rw q refl)

module _ (names later : List (List ℕ)) where
  pub field-kept : (f : Field) → is_held names f.bytes ≡ true → packed_field (entered_all names later) f ≡ packed_field names f
  field-kept f h = packed-field (entered_all names later) f ∙ rw (offset-kept names later f.bytes h) (sym (packed-field names f))

  node_kept : (n : Node) → all_of (is_held names) (field_bytes n) ≡ true → packed_node (entered_all names later) n ≡ packed_node names n
  unfolding packed_node
  node_kept n h =
      let p = both_true _ _ h in
      let l = both_true _ _ p.1 in
      let u = both_true _ _ l.1 in
      let v = both_true _ _ u.1 in
      rw (field-kept n.prefix p.0, field-kept n.local l.0, field-kept n.uri u.0, field-kept n.value v.0) refl

  rows-kept : (ns : List Node) → all_of (λ (n : Node). all_of (is_held names) (field_bytes n)) ns ≡ true → map (packed_node (entered_all names later)) ns ≡ map (packed_node names) ns
  rows-kept [] h = refl
  rows-kept (n ∷ ns) h =
      let b = both_true (all_of (is_held names) (field_bytes n)) _ h in
      rw (node_kept n b.0, rows-kept ns b.1) refl

-- One row more.
pub entered-apart : (names xs ys : List (List ℕ)) → entered_all names (xs ++ ys) ≡ entered_all (entered_all names xs) ys
unfolding entered_all
entered-apart names [] ys = refl
entered-apart names (x ∷ xs) ys = entered-apart (entered names x) xs ys

gathered-apart : {A B : Type 0} (f : A → List B) (xs ys : List A) → gathered f (xs ++ ys) ≡ gathered f xs ++ gathered f ys
gathered-apart f [] ys = refl
gathered-apart {B = B} f (x ∷ xs) ys = ap (λ (l : List B). f x ++ l) (gathered-apart f xs ys) ∙ sym (append_assoc (f x) (gathered f xs) (gathered f ys))

gathered-behind : {A B : Type 0} (f : A → List B) (xs : List A) (x : A) → gathered f (xs ++ x ∷ []) ≡ gathered f xs ++ f x
gathered-behind {B = B} f xs x = gathered-apart f xs (x ∷ []) ∙ ap (λ (l : List B). gathered f xs ++ l) (append-nil (f x))

module _ (ns : List Node) (n : Node) where
  pub entries-behind : entries (ns ++ n ∷ []) ≡ entered_all (entries ns) (field_bytes n)
  unfolding entries
  entries-behind = ap (entered_all []) (gathered-behind field_bytes ns n) ∙ entered-apart [] (uses ns) (field_bytes n)

  pub rows_behind : (packed_form (ns ++ n ∷ [])).rows ≡ (packed_form ns).rows ++ packed_node (entered_all (entries ns) (field_bytes n)) n ∷ []
  unfolding packed_form
  rows_behind =
      rw entries-behind
      (map-append (packed_node (entered_all (entries ns) (field_bytes n))) ns (n ∷ [])
      ∙ ap (λ (l : List Node). l ++ packed_node (entered_all (entries ns) (field_bytes n)) n ∷ []) (rows-kept (entries ns) (field_bytes n) ns (rows-held ns)))

pub next-rows : (ns : List Node) (r : ℕ) → r < length ns → take (r + 1) ns ≡ take r ns ++ node ns r ∷ []
unfolding node
next-rows ns r i =
    let next : r + 1 ≡ suc r = omega arith in
    ap (λ (k : ℕ). take k ns) next ∙ take-suc ns r no_node i

-- The rows before row r have no more names than all.
pub fewer : (ns : List Node) (r : ℕ) → length (joined (entries (take r ns))) ≤ length (joined (entries ns))
unfolding entries
fewer ns r =
    let apart = gathered-apart field_bytes (take r ns) (drop r ns) in
    let all : uses ns ≡ uses (take r ns) ++ uses (drop r ns) = ap (gathered field_bytes) (sym (take-append-drop r ns)) ∙ apart in
    rw (all, entered-apart [] (uses (take r ns)) (uses (drop r ns))) (longer (entered_all [] (uses (take r ns))) (uses (drop r ns)))
