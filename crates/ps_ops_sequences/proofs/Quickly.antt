-- What was read of an array or a string, and how long one is, as a step that raises no error.
use Rattle.std.proofs.Common.{◌≡◌, ℕ, true, false, List, ◌∷◌, drop, Option, Some, Ok, Err, refl, subst, ◌∙◌}
use Rattle.std.specs.Prelude.{Result, is_ok, is_some, slice_get}
use Rattle.ps_language.specs.declared.errors.ErrorName.{ErrorName}
use Rattle.ps_language.specs.Access.{is_readable}
use Rattle.ps_language.specs.Readers.{natural}
use Rattle.ps_language.specs.Rows.{naming_row, reading_row}
use Rattle.ps_language.specs.RowsDictionaries.{get_row}
use Rattle.ps_language.specs.RowsSequences.{length_row}
use Rattle.ps_stacks.specs.Tops.{first_of}
use Rattle.ps_word.specs.declared.values.Content.{Content}
use Rattle.ps_word.specs.declared.values.Content.TheVariants.{Null, Integer, Boolean, Mark, Name, Operator, Array, Text, Dictionary, Lock, Condition, Body}
use Rattle.ps_word.specs.declared.values.Part.{Part}
use Rattle.ps_word.specs.declared.words.Word.{Word}
use Rattle.ps_word.specs.Format.{content_in}
use Rattle.ps_word.specs.Readers.{as_array, as_dictionary, as_part, as_text}
use Rattle.ps_mem.specs.Heap.{Heap, birth_at}
use Rattle.ps_mem.specs.Meaning.{value_of}
use Rattle.ps_mem.specs.Shows.{IsReady, IsValue}
use Rattle.ps_ops_operands.specs.Changes.{Observes}
use Rattle.ps_ops_operands.specs.Plain.{IsPlain}
use Rattle.ps_ops_operands.proofs.Held.{rest_held}
use Rattle.ps_ops_operands.proofs.Ready.{plain_value}
use Rattle.ps_ops_state.specs.declared.lent.Attempt.{Attempt}
use Rattle.ps_ops_state.specs.Acts.{Acts, nothing_asked}
use Rattle.ps_ops_state.specs.Lent.{Lent, IsGood}
use Rattle.ps_ops_state.proofs.Alike.{effect_acts}
use Rattle.ps_ops_state.proofs.Direct.{words_acts}
use Rattle.ps_ops_state.proofs.Lifts.{observes_acts}
use Rattle.ps_ops_sequences.specs.ArrayRows.{array_get_row}
use Rattle.ps_ops_sequences.specs.StringRows.{string_get_row}
use Rattle.ps_ops_sequences.specs.Kinds.{is_dictionary, is_dictionary_at, is_string, is_string_at}
use Rattle.ps_ops_sequences.proofs.ElementRows.{get_from_array, get_from_string}
use Rattle.ps_ops_sequences.proofs.LengthRow.{length_left}
use Rattle.ps_ops_sequences.proofs.Measured.{part_access, part_length}

-- an array is neither a string nor a dictionary
array_alone : (c : Content) → is_some (as_array c) ≡ true
    → (is_some (as_text c) ≡ false) × (is_some (as_dictionary c) ≡ false)
array_alone Null array = cc
array_alone (Integer _) array = cc
array_alone (Boolean _) array = cc
array_alone Mark array = cc
array_alone (Name _) array = cc
array_alone (Operator _) array = cc
array_alone (Array _) array = (refl, refl)
array_alone (Text _) array = cc
array_alone (Dictionary _) array = cc
array_alone (Lock _) array = cc
array_alone (Condition _) array = cc
array_alone (Body _) array = cc

is_made : (result : Result Unit ErrorName) → is_ok result ≡ true → result ≡ Ok tt
is_made (Ok _) made = refl
is_made (Err error) made = cc

-- ---- elements

module _ (heap : Heap) (old new : List Word) (ready : IsReady heap new) where
  abbrev before : Lent → Lent
  before l = record l { heap = heap; operands = old }

  abbrev after : Lent → Lent
  after l = record l { heap = heap; operands = new }

  abbrev Gets : Type 0
  Gets = (l : Lent) (attempt : Attempt) → IsGood (before l)
      → Acts nothing_asked (naming_row get_row) attempt (Ok tt) (before l) (after l)

  from_array : is_string_at old 1 ≡ false → is_dictionary_at old 1 ≡ false
      → Observes array_get_row (Ok tt) heap old new → Gets
  from_array string dictionary did l attempt good =
      effect_acts attempt (Ok tt) (before l) (after l) nothing_asked (naming_row get_row)
      (reading_row array_get_row) (get_from_array (before l) string dictionary)
      (observes_acts (before l) good attempt array_get_row (Ok tt) heap l.grants new refl refl did
      ready)

  from_string : is_string_at old 1 ≡ true → Observes string_get_row (Ok tt) heap old new → Gets
  from_string string did l attempt good =
      effect_acts attempt (Ok tt) (before l) (after l) nothing_asked (naming_row get_row)
      (reading_row string_get_row) (get_from_string (before l) string)
      (observes_acts (before l) good attempt string_get_row (Ok tt) heap l.grants new refl refl did
      ready)

  module _ (w : Word) (there : Some w ≡ slice_get old 1) (result : Result Unit ErrorName)
      (made : is_ok result ≡ true) where
    pub array_gets : is_some (as_array (content_in w.0)) ≡ true
        → Observes array_get_row result heap old new → Gets
    array_gets array did =
        let kinds = array_alone (content_in w.0) array in
        from_array (subst (λ (item : Option Word). is_string item ≡ false) there kinds.0)
        (subst (λ (item : Option Word). is_dictionary item ≡ false) there kinds.1)
        (subst (λ (r : Result Unit ErrorName). Observes array_get_row r heap old new)
        (is_made result made) did)

    pub string_gets : is_some (as_text (content_in w.0)) ≡ true
        → Observes string_get_row result heap old new → Gets
    string_gets text did =
        from_string (subst (λ (item : Option Word). is_string item ≡ true) there text)
        (subst (λ (r : Result Unit ErrorName). Observes string_get_row r heap old new)
        (is_made result made) did)

-- ---- lengths

module _ (old : List Word) (w : Word) (top : Some w ≡ first_of old) (part : Part)
    (is : Some part ≡ as_part (content_in w.0)) (readable : is_readable part.access ≡ true)
    (r : Word) (plain : IsPlain r)
    (means : (births : ℕ → ℕ) (names : List (List ℕ))
    → value_of births names r ≡ natural part.length) where
  pub part_measured : (l : Lent) (attempt : Attempt) → IsGood (record l { operands = old })
      → Acts nothing_asked (reading_row length_row) attempt (Ok tt) (record l { operands = old })
      (record l { operands = r ∷ drop 1 old })
  part_measured l attempt good =
      let here : Lent = record l { operands = old } in
      words_acts (reading_row length_row) attempt nothing_asked here (r ∷ drop 1 old) good (
        plain_value l.heap r plain,
        rest_held (IsValue l.heap) old good.operands 1,
      )
      (length_left here w top part.length
      (λ store shows. part_length (birth_at l.heap) l.names store w part is)
      (λ store shows. part_access (birth_at l.heap) l.names store w part is ∙ readable) attempt r
      plain means)
