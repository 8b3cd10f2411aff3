-- What was found in a dictionary by a key that is no string, as a step that raises no error.
use Rattle.std.proofs.Common.{◌≡◌, ◌≢◌, ℕ, true, false, List, [], ◌∷◌, drop, Option, Some, None, Ok, refl, ap, ◌∙◌}
use Rattle.std.specs.Prelude.{is_some, option_map}
use Rattle.std.specs.List.{AllPairs}
use Rattle.ps_language.specs.declared.access.Access.{Access}
use Rattle.ps_language.specs.Access.{dictionary_at, is_readable}
use Rattle.ps_language.specs.Dictionaries.{find}
use Rattle.ps_language.specs.Readers.{as_string, is_null}
use Rattle.ps_language.specs.Rows.{naming_row}
use Rattle.ps_language.specs.RowsDictionaries.{get_row}
use Rattle.ps_language.specs.Value.{Value, Store}
use Rattle.ps_stacks.specs.Tops.{first_two_of}
use Rattle.ps_word.specs.declared.words.Word.{Word}
use Rattle.ps_word.specs.Format.{content_in}
use Rattle.ps_word.specs.Readers as words
use Rattle.ps_mem.specs.Heap.{Heap, birth_at}
use Rattle.ps_mem.specs.Meaning.{part_of, value_of}
use Rattle.ps_mem.specs.Shows.{IsValue, IsWithin, Shows}
use Rattle.ps_ops_operands.proofs.Held.{first_of_two_held, rest_held}
use Rattle.ps_ops_operands.proofs.Reading.{as_string-value}
use Rattle.ps_ops_state.specs.declared.lent.Attempt.{Attempt}
use Rattle.ps_ops_state.specs.Acts.{Acts, nothing_asked}
use Rattle.ps_ops_state.specs.Lent.{Lent, IsGood}
use Rattle.ps_ops_state.proofs.Stacked.{stacked_acts}
use Rattle.ps_step_lookup.specs.declared.keys.Key.TheVariants.{Met}
use Rattle.ps_step_lookup.specs.Lookups.{IsSought}
use Rattle.ps_step_lookup.proofs.Keying.{plain_key, plain_key_is}
use Rattle.ps_ops_dictionaries.proofs.Finding.{get_stacks}

none_of : {A : Type 0} (o : Option A) → is_some o ≡ false → o ≡ None
none_of None none = refl
none_of (Some a) none = cc

module _ (heap : Heap) (old : List Word) (k d : Word) (a : ℕ)
    (two : Some (k, d) ≡ first_two_of old) (is : Some a ≡ words.as_dictionary (content_in d.0))
    (some : (names : List (List ℕ)) → IsValue heap k
    → is_null (value_of (birth_at heap) names k) ≡ false)
    (plain : is_some (words.as_text (content_in k.0)) ≡ false) where
  unstringed : (births : ℕ → ℕ) (names : List (List ℕ)) → as_string (value_of births names k) ≡ None
  unstringed births names =
      as_string-value births names k
      ∙ ap (option_map (part_of births)) (none_of (words.as_text (content_in k.0)) plain)

  module _ (access : Access)
      (value : (names : List (List ℕ)) (s : Store) → Shows heap names s
      → access ≡ (dictionary_at s (birth_at heap a)).access)
      (may : is_readable access ≡ true) (v : Word) (held : IsValue heap v)
      (finds : (names : List (List ℕ)) (s : Store) (sought : Value) → Shows heap names s
      → AllPairs (λ first later. first ≢ later) names
      → IsSought (birth_at heap) names s (Some k) sought
      → option_map (value_of (birth_at heap) names) (Some v)
      ≡ find (dictionary_at s (birth_at heap a)).pairs sought)
      (within : (names : List (List ℕ)) (s : Store) → Shows heap names s
      → IsWithin (birth_at heap) names s v) where
    pub value_gets : (l : Lent) (attempt : Attempt)
        → IsGood (record l { heap = heap; operands = old })
        → Acts nothing_asked (naming_row get_row) attempt (Ok tt)
        (record l { heap = heap; operands = old })
        (record l { heap = heap; operands = v ∷ drop 2 old })
    value_gets l attempt good =
        let before : Lent = record l { heap = heap; operands = old } in
        let key : IsValue heap k = first_of_two_held (IsValue heap) old good.operands k d two in
        stacked_acts (naming_row get_row) before (v ∷ drop 2 old) l.dictionaries nothing_asked
        attempt good (held, rest_held (IsValue heap) old good.operands 2) good.dictionaries
        (get_stacks before k d a two is (some l.names key)
        (plain_key [] (value_of (birth_at heap) l.names k) (unstringed (birth_at heap) l.names)).readable
        access value may good (Met k)
        (plain_key_is heap l.names k good.names key unstringed) (Some k) refl (Some v) finds v refl k
        refl within)
