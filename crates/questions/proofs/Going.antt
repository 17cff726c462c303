-- The answer of a lookup that has begun.
-- Assumes nothing.
use Rattle.std.specs.Prelude.{None, Result, Ok, Err}
use Prim.Native.Nat.{ℕ, zero, suc, ◌*◌, ◌≤◌, ◌<◌}
use native.Mathlib.Nat.{not-suc-le-zero}
use native.Mathlib.Omega.{arith}
use mathlib.Core.List.{List, [], ◌∷◌}
use mathlib.Core.Option.{none, some}
use mathlib.Core.Path.{◌≡◌, refl, sym, ap, ◌∙◌}
use lib.ListN.{length, take, replicate, length-replicate}
use Rattle.rules.specs.Lists.{is_empty}
use Rattle.rules.specs.Table.{MOST_ROWS, NONE, Node, nodes, row_count}
use Rattle.rules.specs.Lookups.{Binding, unbound, or_unbound, uri_of_prefix, prefix_among, prefix_of_uri, scope_of, in_scope_uri, in_scope_prefix, bound, lookup_elements, if_started, findings, lookup_refusal, lookup_at}
use Rattle.rules.specs.declared.Refusal.{Refusal}
use Rattle.rules.specs.declared.NameId.{NameId}
use Rattle.rules.specs.declared.Question.{Question}
use Rattle.rules.proofs.Lists.{by_cases}
use Rattle.notes.specs.Notes.{NOTES}
use Rattle.beginning.specs.Ground.{Blank, Begins}
use Rattle.questions.specs.Lent.{Way}

-- Zeros are notes to lend.
pub notes-lent : (table : List ℕ) (most : ℕ) → (row_count table ≤ MOST_ROWS → row_count table ≤ most) → Blank table (replicate (NOTES * most) 0)
notes-lent table most few =
    let records = length-replicate {A = ℕ} (NOTES * most) 0 in
    record { cleared = sym (ap (λ (size : ℕ). replicate size 0) records); records = λ h. rw records (omega (arith, few h)) }

-- Where a lookup has begun, any array of places is a path.
pub way :
    (table pool : List ℕ) (r : ℕ) (notes query : List ℕ) (begun : Result NameId Refusal) (most : ℕ) → (row_count table ≤ MOST_ROWS → row_count table ≤ most) → Begins table pool r notes query begun
    → (number : NameId) → begun ≡ Ok number → Way table r notes (replicate most NONE)
way table pool r notes query begun most few begins number asked =
    let ground = begins.0 number asked in
    let places = length-replicate {A = ℕ} most NONE in
    record { unlinked = ground.unlinked; within = ground.within; places = rw places (few ground.unlinked.few) }

-- A path of some elements has a start element.
pub some-elements : (n : ℕ) (path : List ℕ) → n ≤ length path → (n ≡ 0 → ⊥) → 0 < length (take n path)
some-elements zero path room some? = absurd (some? refl)
some-elements (suc n) [] room some? = absurd (not-suc-le-zero room)
some-elements (suc n) (e ∷ outward) room some? = omega arith

-- What each question finds along a path that has a start element.
module _ (question : Question) (ns : List Node) (query path : List ℕ) where
  pub uri-found : question ≡ Question.UriOfPrefix → bound (uri_of_prefix ns query path) ≡ bound (findings question ns query path)
  unfolding findings
  uri-found is = rw is refl

  pub prefix-found : question ≡ Question.PrefixOfUri → bound (or_unbound (prefix_of_uri ns query path)) ≡ bound (findings question ns query path)
  unfolding findings
  prefix-found is = rw is refl

  module _ (start : 0 < length path) where
    started : (path : List ℕ) → 0 < length path → (found : Binding) → found ≡ if_started path found
    started [] start found = absurd (not-suc-le-zero start)
    started (e ∷ outward) start found = refl

    pub in-scope-uri-found : question ≡ Question.InScopeUri → bound (in_scope_uri (scope_of ns path) query) ≡ bound (findings question ns query path)
    unfolding findings
    in-scope-uri-found is = rw is (ap bound (started path start (in_scope_uri (scope_of ns path) query)))

    pub in-scope-prefix-found : question ≡ Question.InScopePrefix → bound (in_scope_prefix (scope_of ns path) query) ≡ bound (findings question ns query path)
    unfolding findings
    in-scope-prefix-found is = rw is (ap bound (started path start (in_scope_prefix (scope_of ns path) query)))

-- Along no elements nothing is found, built-ins included.
found_nowhere : (question : Question) (ns : List Node) (query : List ℕ) → findings question ns query [] ≡ unbound
unfolding findings uri_of_prefix prefix_of_uri prefix_among
found_nowhere Question.UriOfPrefix ns query = refl
found_nowhere Question.PrefixOfUri ns query = by_cases (is_empty query) (λ empty. rw empty refl) (λ full. rw full refl)
found_nowhere Question.InScopeUri ns query = refl
found_nowhere Question.InScopePrefix ns query = refl

-- The answers: refused, along the elements outward, and along none.
module _ (question : Question) (table pool : List ℕ) (r : ℕ) (query : List ℕ) where
  pub refused : (x : Refusal) → lookup_refusal table pool r ≡ some x → Err x ≡ lookup_at question table pool r query
  unfolding lookup_at
  refused x is = rw is refl

  module _ (unrefused : lookup_refusal table pool r ≡ none) where
    pub found : (path : List ℕ) → path ≡ lookup_elements (nodes table pool) r → Ok (bound (findings question (nodes table pool) query path)) ≡ lookup_at question table pool r query
    unfolding lookup_at
    found path elements = rw (unrefused, elements) refl

    pub nothing : (path : List ℕ) (n : ℕ) → take n path ≡ lookup_elements (nodes table pool) r → n ≡ 0 → (Ok None) ≡ lookup_at question table pool r query
    nothing path n elements over =
        sym (ap (λ (b : Binding). Ok (bound b)) (found_nowhere question (nodes table pool) query)) ∙ found [] (sym (ap (λ k. take k path) over) ∙ elements)
