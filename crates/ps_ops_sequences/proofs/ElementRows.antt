-- The rows of get and put by the type of what is read or written.
use Rattle.std.proofs.Common.{◌≡◌, ℕ, true, false, List, [], ◌∷◌, refl, ap, ◌∙◌}
use Rattle.std.specs.Prelude.{is_some}
use Rattle.ps_language.specs.declared.errors.ErrorName.TheVariants.{TypeCheck}
use Rattle.ps_language.specs.Value.{What, array_value, string_value, dictionary_value, Value, Store}
use Rattle.ps_language.specs.Outcome.{given, unchanged, unnamed}
use Rattle.ps_language.specs.Readers.{array_in, string_in, dictionary_in, as_array, as_string, as_dictionary}
use Rattle.ps_language.specs.Acts.{naming_effect}
use Rattle.ps_ops_sequences.specs.ArrayRows.{array_get_row, array_put_row}
use Rattle.ps_language.specs.Rows.{reading_row, changing_row, naming_row}
use Rattle.ps_language.specs.RowsDictionaries.{get_by, get_row, put_by, put_row}
use Rattle.ps_language.specs.RowsSequences.{get_element, get_byte, put_element, put_byte}
use Rattle.ps_word.specs.declared.words.Word.{Word}
use Rattle.ps_mem.specs.Heap.{Heap, birth_at}
use Rattle.ps_mem.specs.Meaning.{value_of}
use Rattle.ps_ops_operands.specs.Changes.{values_in}
use Rattle.ps_ops_sequences.specs.StringRows.{string_get_row, string_put_row}
use Rattle.ps_ops_state.specs.Lent.{Lent, scene_of, IsShown}
use Rattle.ps_ops_state.specs.Acts.{effect_in}
use Rattle.ps_ops_state.proofs.Alike.{unchanged_effect, unnamed_effect}
use Rattle.ps_ops_sequences.specs.Kinds.{is_string_at, is_dictionary_at}
use Rattle.ps_ops_sequences.proofs.Known.{string_known, dictionary_known}

module _ (names : List (List ℕ)) (s : Store) (x : Value) where
  -- ---- by the type of a value

  get_array : (what : What) (k : Value) (rest : List Value) → is_some (string_in what) ≡ false
      → is_some (dictionary_in what) ≡ false → get_by names s x what k rest ≡ unnamed names
      (unchanged s (given (array_in what) TypeCheck λ part. get_element s part k rest))
  get_array (array_value part) k rest string dictionary = refl
  get_array (string_value part) k rest string dictionary = cc
  get_array (dictionary_value birth) k rest string dictionary = cc
  get_array what k rest string dictionary = refl

  get_string : (what : What) (k : Value) (rest : List Value) → is_some (string_in what) ≡ true
      → get_by names s x what k rest ≡ unnamed names
      (unchanged s (given (string_in what) TypeCheck λ part. get_byte s part k rest))
  get_string (string_value part) k rest string = refl
  get_string what k rest string = cc

  put_array : (what : What) (k y : Value) (rest : List Value) → is_some (string_in what) ≡ false
      → is_some (dictionary_in what) ≡ false → put_by names s x what k y rest
      ≡ unnamed names (given (array_in what) TypeCheck λ part. put_element s part k y rest)
  put_array (array_value part) k y rest string dictionary = refl
  put_array (string_value part) k y rest string dictionary = cc
  put_array (dictionary_value birth) k y rest string dictionary = cc
  put_array what k y rest string dictionary = refl

  put_string : (what : What) (k y : Value) (rest : List Value) → is_some (string_in what) ≡ true
      → put_by names s x what k y rest
      ≡ unnamed names (given (string_in what) TypeCheck λ part. put_byte s part k y rest)
  put_string (string_value part) k y rest string = refl
  put_string what k y rest string = cc

  get_as_array : (k : Value) (rest : List Value) → is_some (as_string x) ≡ false
      → is_some (as_dictionary x) ≡ false → get_row names s (k ∷ x ∷ rest)
      ≡ unnamed names (unchanged s (array_get_row s (k ∷ x ∷ rest)))
  unfolding as_array as_string as_dictionary
  get_as_array k rest string dictionary = get_array x.what k rest string dictionary

  get_as_string : (k : Value) (rest : List Value) → is_some (as_string x) ≡ true
      → get_row names s (k ∷ x ∷ rest)
      ≡ unnamed names (unchanged s (string_get_row s (k ∷ x ∷ rest)))
  unfolding as_string
  get_as_string k rest string = get_string x.what k rest string

  put_as_array : (y k : Value) (rest : List Value) → is_some (as_string x) ≡ false
      → is_some (as_dictionary x) ≡ false → put_row names s (y ∷ k ∷ x ∷ rest)
      ≡ unnamed names (array_put_row s (y ∷ k ∷ x ∷ rest))
  unfolding as_array as_string as_dictionary
  put_as_array y k rest string dictionary = put_array x.what k y rest string dictionary

  put_as_string : (y k : Value) (rest : List Value) → is_some (as_string x) ≡ true
      → put_row names s (y ∷ k ∷ x ∷ rest)
      ≡ unnamed names (string_put_row s (y ∷ k ∷ x ∷ rest))
  unfolding as_string
  put_as_string y k rest string = put_string x.what k y rest string

-- ---- by the type of an operand

module _ (h : Heap) (names : List (List ℕ)) (s : Store) where
  abbrev value : Word → Value
  value w = value_of (birth_at h) names w

  array_gets : (ws : List Word) → is_string_at ws 1 ≡ false → is_dictionary_at ws 1 ≡ false
      → get_row names s (values_in h names ws)
      ≡ unnamed names (unchanged s (array_get_row s (values_in h names ws)))
  array_gets [] string dictionary = refl
  array_gets (k ∷ []) string dictionary = refl
  array_gets (k ∷ x ∷ rest) string dictionary =
      get_as_array names s (value x) (value k) (values_in h names rest)
      (string_known (birth_at h) names x ∙ string)
      (dictionary_known (birth_at h) names x ∙ dictionary)

  string_gets : (ws : List Word) → is_string_at ws 1 ≡ true
      → get_row names s (values_in h names ws)
      ≡ unnamed names (unchanged s (string_get_row s (values_in h names ws)))
  string_gets [] string = cc
  string_gets (k ∷ []) string = cc
  string_gets (k ∷ x ∷ rest) string =
      get_as_string names s (value x) (value k) (values_in h names rest)
      (string_known (birth_at h) names x ∙ string)

  array_puts : (ws : List Word) → is_string_at ws 2 ≡ false → is_dictionary_at ws 2 ≡ false
      → put_row names s (values_in h names ws)
      ≡ unnamed names (array_put_row s (values_in h names ws))
  array_puts [] string dictionary = refl
  array_puts (y ∷ []) string dictionary = refl
  array_puts (y ∷ k ∷ []) string dictionary = refl
  array_puts (y ∷ k ∷ x ∷ rest) string dictionary =
      put_as_array names s (value x) (value y) (value k) (values_in h names rest)
      (string_known (birth_at h) names x ∙ string)
      (dictionary_known (birth_at h) names x ∙ dictionary)

  string_puts : (ws : List Word) → is_string_at ws 2 ≡ true
      → put_row names s (values_in h names ws)
      ≡ unnamed names (string_put_row s (values_in h names ws))
  string_puts [] string = cc
  string_puts (y ∷ []) string = cc
  string_puts (y ∷ k ∷ []) string = cc
  string_puts (y ∷ k ∷ x ∷ rest) string =
      put_as_string names s (value x) (value y) (value k) (values_in h names rest)
      (string_known (birth_at h) names x ∙ string)

-- ---- the effects

module _ (l : Lent) where
  pub get_from_array : is_string_at l.operands 1 ≡ false → is_dictionary_at l.operands 1 ≡ false
      → (store : Store) → IsShown l store
      → effect_in (naming_row get_row) l store ≡ effect_in (reading_row array_get_row) l store
  get_from_array string dictionary store shown =
      ap (naming_effect (scene_of l store))
      (array_gets l.heap l.names store l.operands string dictionary)
      ∙ (unnamed_effect (scene_of l store) _ ∙ unchanged_effect (scene_of l store) _)

  pub get_from_string : is_string_at l.operands 1 ≡ true → (store : Store) → IsShown l store
      → effect_in (naming_row get_row) l store ≡ effect_in (reading_row string_get_row) l store
  get_from_string string store shown =
      ap (naming_effect (scene_of l store)) (string_gets l.heap l.names store l.operands string)
      ∙ (unnamed_effect (scene_of l store) _ ∙ unchanged_effect (scene_of l store) _)

  pub put_into_array : is_string_at l.operands 2 ≡ false → is_dictionary_at l.operands 2 ≡ false
      → (store : Store) → IsShown l store
      → effect_in (naming_row put_row) l store ≡ effect_in (changing_row array_put_row) l store
  put_into_array string dictionary store shown =
      ap (naming_effect (scene_of l store))
      (array_puts l.heap l.names store l.operands string dictionary)
      ∙ unnamed_effect (scene_of l store) _

  pub put_into_string : is_string_at l.operands 2 ≡ true → (store : Store) → IsShown l store
      → effect_in (naming_row put_row) l store ≡ effect_in (changing_row string_put_row) l store
  put_into_string string store shown =
      ap (naming_effect (scene_of l store)) (string_puts l.heap l.names store l.operands string)
      ∙ unnamed_effect (scene_of l store) _
