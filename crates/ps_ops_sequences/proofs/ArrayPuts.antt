-- What put and astore of elements ask for, and that no string is shorter after them.
use Rattle.std.proofs.Common.{◌≡◌, ℕ, List, [], ◌∷◌, length}
use Rattle.std.specs.Prelude.{nat_le}
use Rattle.ps_language.specs.declared.errors.ErrorName.TheVariants.{InvalidAccess, RangeCheck, StackUnderflow}
use Rattle.ps_language.specs.Value.{Part, Value, Store}
use Rattle.ps_language.specs.Access.{is_writable, bytes, with_elements, with_part_elements}
use Rattle.ps_language.specs.Objects.{changing}
use Rattle.ps_language.specs.Readers.{as_array, as_integer, index_below}
use Rattle.ps_language.specs.RowsSequences.{astore_row}
use Rattle.ps_language.proofs.AskedLemmas.{elements-unasked}
use Rattle.ps_word.specs.declared.words.Word.{Word}
use Rattle.ps_mem.specs.Heap.{Heap, birth_at}
use Rattle.ps_mem.specs.Meaning.{value_of}
use Rattle.ps_mem.specs.Shows.{AreValues, Shows}
use Rattle.ps_ops_operands.specs.Changes.{values_in}
use Rattle.ps_ops_state.proofs.Asking.{IsUnasked, Leaving, leaving_error, leaving_given, leaving_given_that}
use Rattle.ps_ops_state.proofs.Changing.{RowLasts, lasts_given, lasts_given_that, elements_last, array_bytes}
use Rattle.ps_ops_sequences.specs.ArrayRows.{array_put_row}

-- ---- they make nothing

changing_unasked : (store : Store) (operands : List Value) (part : Part) (place : ℕ)
    (items : List Value) → Leaving (IsUnasked store)
    (changing operands (with_part_elements store part place items))
changing_unasked store operands part place items =
    record { such = elements-unasked store part.birth _ }

ruleset unasked_steps = (leaving_given, leaving_given_that, changing_unasked)

pub put_unasked : (store : Store) (operands : List Value)
    → Leaving (IsUnasked store) (array_put_row store operands)
put_unasked store [] = leaving_error (IsUnasked store) StackUnderflow
put_unasked store (y ∷ []) = leaving_error (IsUnasked store) StackUnderflow
put_unasked store (y ∷ k ∷ []) = leaving_error (IsUnasked store) StackUnderflow
put_unasked store (y ∷ k ∷ x ∷ rest) = search unasked_steps

pub astore_unasked : (store : Store) (operands : List Value)
    → Leaving (IsUnasked store) (astore_row store operands)
astore_unasked store [] = leaving_error (IsUnasked store) StackUnderflow
astore_unasked store (x ∷ rest) = search unasked_steps

-- ---- no string is shorter

elements_changing : (rest : List Value) (s : Store) (b : ℕ) (es : List Value) → bytes s b ≡ []
    → RowLasts s (changing rest (with_elements s b es))
elements_changing rest s b es none = record { lasts = elements_last s b es none }

module _ (h : Heap) (names : List (List ℕ)) (s : Store) (shows : Shows h names s) where
  pub put_lasts : (operands : List Word) → AreValues h operands
      → RowLasts s (array_put_row s (values_in h names operands))
  put_lasts [] values = record { lasts = tt }
  put_lasts (y ∷ []) values = record { lasts = tt }
  put_lasts (y ∷ k ∷ []) values = record { lasts = tt }
  put_lasts (y ∷ k ∷ x ∷ rest) values =
      lasts_given s (as_array (value_of (birth_at h) names x)) _ _ λ part is.
      lasts_given s (as_integer (value_of (birth_at h) names k)) _ _ λ number _.
      lasts_given_that s (is_writable part.access) InvalidAccess _
      (lasts_given {A = ℕ} s (index_below number part.count) RangeCheck _ λ index _.
      elements_changing _ s part.birth _ (array_bytes h names s shows x values.1.1.0 part is))

  pub astore_lasts : (operands : List Word) → AreValues h operands
      → RowLasts s (astore_row s (values_in h names operands))
  astore_lasts [] values = record { lasts = tt }
  astore_lasts (x ∷ rest) values =
      lasts_given s (as_array (value_of (birth_at h) names x)) _ _ λ part is.
      lasts_given_that s (is_writable part.access) InvalidAccess _
      (lasts_given_that s (nat_le part.count (length (values_in h names rest))) StackUnderflow _
      (elements_changing _ s part.birth _ (array_bytes h names s shows x values.0 part is)))
