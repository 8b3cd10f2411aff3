-- The row of getinterval by the type of what is shared.
use Rattle.std.proofs.Common.{◌≡◌, ℕ, true, false, List, [], ◌∷◌, refl, ap, ◌∙◌}
use Rattle.std.specs.Prelude.{is_some}
use Rattle.ps_language.specs.Value.{What, array_value, string_value, Value, Store}
use Rattle.ps_language.specs.Readers.{array_in, string_in, as_array, as_string}
use Rattle.ps_language.specs.Acts.{operands_effect}
use Rattle.ps_ops_sequences.specs.ArrayRows.{array_getinterval_row}
use Rattle.ps_language.specs.Rows.{reading_row}
use Rattle.ps_language.specs.RowsSequences.{sequence_in, as_sequence, getinterval_row}
use Rattle.ps_word.specs.declared.words.Word.{Word}
use Rattle.ps_mem.specs.Heap.{Heap, birth_at}
use Rattle.ps_mem.specs.Meaning.{value_of}
use Rattle.ps_ops_operands.specs.Changes.{values_in}
use Rattle.ps_ops_sequences.specs.StringRows.{string_getinterval_row}
use Rattle.ps_ops_state.specs.Lent.{Lent, scene_of, IsShown}
use Rattle.ps_ops_state.specs.Acts.{effect_in}
use Rattle.ps_ops_sequences.specs.Kinds.{is_string_at}
use Rattle.ps_ops_sequences.proofs.Known.{string_known}

sequence_array : (what : What) → is_some (string_in what) ≡ false → sequence_in what ≡ array_in what
sequence_array (array_value part) string = refl
sequence_array (string_value part) string = cc
sequence_array what string = refl

sequence_string : (what : What) → is_some (string_in what) ≡ true
    → sequence_in what ≡ string_in what
sequence_string (string_value part) string = refl
sequence_string what string = cc

as_sequence-array : (x : Value) → is_some (as_string x) ≡ false → as_sequence x ≡ as_array x
unfolding as_sequence as_array as_string
as_sequence-array x string = sequence_array x.what string

as_sequence-string : (x : Value) → is_some (as_string x) ≡ true → as_sequence x ≡ as_string x
unfolding as_sequence as_string
as_sequence-string x string = sequence_string x.what string

module _ (h : Heap) (names : List (List ℕ)) (s : Store) where
  array_interval : (ws : List Word) → is_string_at ws 2 ≡ false
      → getinterval_row s (values_in h names ws) ≡ array_getinterval_row (values_in h names ws)
  array_interval [] string = refl
  array_interval (y ∷ []) string = refl
  array_interval (y ∷ k ∷ []) string = refl
  array_interval (y ∷ k ∷ x ∷ rest) string =
      rw (as_sequence-array (value_of (birth_at h) names x)
      (string_known (birth_at h) names x ∙ string)) refl

  string_interval : (ws : List Word) → is_string_at ws 2 ≡ true
      → getinterval_row s (values_in h names ws) ≡ string_getinterval_row (values_in h names ws)
  string_interval [] string = cc
  string_interval (y ∷ []) string = cc
  string_interval (y ∷ k ∷ []) string = cc
  string_interval (y ∷ k ∷ x ∷ rest) string =
      rw (as_sequence-string (value_of (birth_at h) names x)
      (string_known (birth_at h) names x ∙ string)) refl

module _ (l : Lent) where
  pub interval_of_array : is_string_at l.operands 2 ≡ false → (store : Store) → IsShown l store
      → effect_in (reading_row getinterval_row) l store
      ≡ effect_in (reading_row λ s. array_getinterval_row) l store
  interval_of_array string store shown =
      ap (operands_effect (scene_of l store))
      (array_interval l.heap l.names store l.operands string)

  pub interval_of_string : is_string_at l.operands 2 ≡ true → (store : Store) → IsShown l store
      → effect_in (reading_row getinterval_row) l store
      ≡ effect_in (reading_row λ s. string_getinterval_row) l store
  interval_of_string string store shown =
      ap (operands_effect (scene_of l store))
      (string_interval l.heap l.names store l.operands string)
