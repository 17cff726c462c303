-- Refusals 3, 12 and 13: what the fields of a row are refused for.
-- Assumes nothing.
use Rattle.std.specs.Prelude.{Result, Ok, Err, ⊤}
use Prim.Native.Nat.{ℕ}
use mathlib.Core.Path.{◌≡◌, sym, ap, ◌∙◌}
use mathlib.Core.List.{List, [], ◌∷◌, map}
use mathlib.Core.Option.{Option}
use lib.ListN.{length}
use Rattle.rules.specs.Table.{TYPE, PREFIX, LOCAL_NAME, URI, VALUE, word, node_at, worded_fields}
use Rattle.rules.specs.Refusals.{first_refusal, verdict, place_refusal, length_refusal, fields_refusal}
use Rattle.rules.specs.declared.Refusal.{Refusal}
use Rattle.rules.proofs.Refusals.{first_alone, first-append, first-refused, first-passed}
use Rattle.fields.specs.Passes.{places_refusal, lengths_refusal}

-- One pass: the verdicts on the fields in word order, and the verdict on all of them.
module _ (of : ℕ → Option Refusal) where
  abbrev all : Option Refusal
  all = first_refusal (of PREFIX ∷ of LOCAL_NAME ∷ of URI ∷ of VALUE ∷ [])

  module _ {prefix : Result ⊤ Refusal} (p : prefix ≡ verdict (of PREFIX)) where
    pub refused-prefix : (x : Refusal) → prefix ≡ Err x → prefix ≡ verdict all
    refused-prefix x e = first-refused (of PREFIX) (of LOCAL_NAME ∷ of URI ∷ of VALUE ∷ []) p x e

    module _ (a : prefix ≡ Ok tt) {local : Result ⊤ Refusal} (l : local ≡ verdict (of LOCAL_NAME)) where
      from-local : first_refusal (of LOCAL_NAME ∷ of URI ∷ of VALUE ∷ []) ≡ all
      from-local = sym (first-passed (of PREFIX) (of LOCAL_NAME ∷ of URI ∷ of VALUE ∷ []) p a)

      pub refused-local : (x : Refusal) → local ≡ Err x → local ≡ verdict all
      refused-local x e = first-refused (of LOCAL_NAME) (of URI ∷ of VALUE ∷ []) l x e ∙ ap verdict from-local

      module _ (b : local ≡ Ok tt) {uri : Result ⊤ Refusal} (u : uri ≡ verdict (of URI)) where
        from-uri : first_refusal (of URI ∷ of VALUE ∷ []) ≡ all
        from-uri = sym (first-passed (of LOCAL_NAME) (of URI ∷ of VALUE ∷ []) l b) ∙ from-local

        pub refused-uri : (x : Refusal) → uri ≡ Err x → uri ≡ verdict all
        refused-uri x e = first-refused (of URI) (of VALUE ∷ []) u x e ∙ ap verdict from-uri

        pub by_value : uri ≡ Ok tt → {value : Result ⊤ Refusal} → value ≡ verdict (of VALUE) → value ≡ verdict all
        by_value c v = v ∙ ap verdict (first_alone (of VALUE) ∙ sym (first-passed (of URI) (of VALUE ∷ []) u c) ∙ from-uri)

-- Both passes.
module _ (table pool : List ℕ) (r : ℕ) where
  pub passes : fields_refusal (length pool) r (node_at table pool r) ≡ first_refusal (places_refusal table pool r ∷ lengths_refusal table pool r ∷ [])
  unfolding fields_refusal
  passes =
      first-append (map (place_refusal (length pool) r) (worded_fields (node_at table pool r)))
      (map (length_refusal (word table r TYPE) r) (worded_fields (node_at table pool r)))

  module _ {drawn : Result ⊤ Refusal} (d : drawn ≡ verdict (places_refusal table pool r)) where
    pub refused-place : (x : Refusal) → drawn ≡ Err x → drawn ≡ verdict (fields_refusal (length pool) r (node_at table pool r))
    refused-place x e = first-refused (places_refusal table pool r) (lengths_refusal table pool r ∷ []) d x e ∙ ap verdict (sym passes)

    pub by_lengths : drawn ≡ Ok tt → {given : Result ⊤ Refusal} → given ≡ verdict (lengths_refusal table pool r) → given ≡ verdict (fields_refusal (length pool) r (node_at table pool r))
    by_lengths e l =
        l
        ∙ ap verdict
        (first_alone (lengths_refusal table pool r) ∙ sym (first-passed (places_refusal table pool r) (lengths_refusal table pool r ∷ []) d e) ∙ sym passes)
