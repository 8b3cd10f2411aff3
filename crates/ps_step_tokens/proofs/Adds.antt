-- The objects that a procedure adds to a store, and their room.
use Rattle.std.proofs.Common.{◌≡◌, ◌∙◌, sym, ap, refl, ℕ, ◌+◌, List, [], ◌∷◌, ◌++◌, length, append_assoc, arith}
use Rattle.std.proofs.Common.{length-append}
use Rattle.std.specs.Prelude.{sum_by}
use Rattle.std.proofs.lemmas.List.Sums.{sum_by-append, sum_by-cons, sum_by_push}
use Rattle.std.proofs.lemmas.List.{append-nil, length_push}
use Rattle.ps_language.specs.Value.{Value, Object, array_object, string_object, Store}
use Rattle.ps_language.specs.Objects.{size_of, made_between}
use Rattle.ps_language.specs.StepTokens.{Made, elements_made}
use Rattle.ps_language.specs.StepValues.{LookedUp}
use Rattle.ps_language.specs.Token.{Tokens, number_token, literal_name_token, executable_name_token}
use Rattle.ps_language.specs.Token.{immediate_name_token, string_token, procedure_token, no_tokens, more_tokens}
use Rattle.ps_language.proofs.AskedLemmas.{made-same}
use Rattle.ps_step_tokens.specs.Made.{whole_made}
use Rattle.ps_step_tokens.specs.Procedures.{element_words, element_births, procedure_words, procedure_births}

-- new objects are what is made
pub made_added : (s added : Store) → made_between s (s ++ added) ≡ sum_by size_of added
made_added [] added = refl
made_added (o ∷ s) added =
    let none = made-same (o ∷ []) in
    let rest = made_added s added in
    omega (arith, none, rest)

module _ (look : List ℕ → LookedUp) where
  -- with a word for each element
  pub record Adds (elements : Tokens) (store : Store) : Type 0 where
    pub added : List Object
    pub store_is : (elements_made look elements store).store ≡ store ++ added
    pub words : sum_by size_of added + length (elements_made look elements store).values
        ≡ element_words elements
    pub births : length added ≡ element_births elements

  -- those of a procedure, its own too
  pub record AddsAll (elements : Tokens) (store : Store) : Type 0 where
    pub added : List Object
    pub store_is : (whole_made elements look store).store ≡ store ++ added
    pub words : sum_by size_of added ≡ procedure_words elements
    pub births : length added ≡ procedure_births elements

  adds_own : (inner : Tokens) (store : Store) → Adds inner store → AddsAll inner store
  adds_own inner store a =
      let values : List Value = (elements_made look inner store).values in
      let push = sum_by_push size_of a.added (array_object values) in
      let words = a.words in
      let births = a.births in
      let size = length_push a.added (array_object values) in
      record {
        added = a.added ++ array_object values ∷ [];
        store_is = ap (λ (s : Store). s ++ array_object values ∷ []) a.store_is
            ∙ append_assoc store a.added (array_object values ∷ []);
        words = omega (arith, push, words);
        births = omega (arith, size, births);
      }

  pub elements_add : (elements : Tokens) (store : Store) → Adds elements store
  elements_add no_tokens store =
      record { added = []; store_is = sym (append-nil store); words = refl; births = refl }
  elements_add (more_tokens (number_token number) rest) store =
      let a = elements_add rest store in
      let words = a.words in
      let births = a.births in
      record {
        added = a.added;
        store_is = a.store_is;
        words = omega (arith, words);
        births = omega (arith, births);
      }
  elements_add (more_tokens (literal_name_token text) rest) store =
      let a = elements_add rest store in
      let words = a.words in
      let births = a.births in
      record {
        added = a.added;
        store_is = a.store_is;
        words = omega (arith, words);
        births = omega (arith, births);
      }
  elements_add (more_tokens (executable_name_token text) rest) store =
      let a = elements_add rest store in
      let words = a.words in
      let births = a.births in
      record {
        added = a.added;
        store_is = a.store_is;
        words = omega (arith, words);
        births = omega (arith, births);
      }
  elements_add (more_tokens (immediate_name_token text) rest) store =
      let a = elements_add rest store in
      let words = a.words in
      let births = a.births in
      record {
        added = a.added;
        store_is = a.store_is;
        words = omega (arith, words);
        births = omega (arith, births);
      }
  elements_add (more_tokens (string_token text) rest) store =
      let b = elements_add rest (store ++ string_object text ∷ []) in
      let words = b.words in
      let births = b.births in
      let sum = sum_by-cons size_of (string_object text) b.added in
      record {
        added = string_object text ∷ b.added;
        store_is = b.store_is ∙ append_assoc store (string_object text ∷ []) b.added;
        words = omega (arith, words, sum);
        births = omega (arith, births);
      }
  elements_add (more_tokens (procedure_token inner) rest) store =
      let first = adds_own inner store (elements_add inner store) in
      let made : Made = whole_made inner look store in
      let b : Adds rest made.store = elements_add rest made.store in
      let sum = sum_by-append size_of first.added b.added in
      let size = length-append first.added b.added in
      let first_words = first.words in
      let first_births = first.births in
      let words = b.words in
      let births = b.births in
      record {
        added = first.added ++ b.added;
        store_is = b.store_is ∙ (ap (λ (s : Store). s ++ b.added) first.store_is
            ∙ append_assoc store first.added b.added);
        words = omega (arith, sum, first_words, words);
        births = omega (arith, size, first_births, births);
      }

  pub adds_all : (elements : Tokens) (store : Store) → AddsAll elements store
  adds_all elements store = adds_own elements store (elements_add elements store)
