-- What the operators on one dictionary read.
use Rattle.std.proofs.Common.{◌≡◌, ℕ, true, false, List, ◌∷◌, drop, None, Some, refl, sym}
use Rattle.ps_language.specs.declared.access.Access.{Access}
use Rattle.ps_language.specs.declared.errors.ErrorName.TheVariants.{StackUnderflow, TypeCheck, InvalidAccess}
use Rattle.ps_language.specs.Value.{Store}
use Rattle.ps_language.specs.Access.{is_readable, dictionary_at}
use Rattle.ps_language.specs.Readers.{natural}
use Rattle.ps_language.specs.Effect.{raises}
use Rattle.ps_language.specs.Rows.{reading_row}
use Rattle.ps_language.specs.RowsDictionaries.{maxlength_row}
use Rattle.ps_stacks.specs.Tops.{first_of}
use Rattle.ps_word.specs.declared.words.Word.{Word}
use Rattle.ps_word.specs.Format.{content_in}
use Rattle.ps_word.specs.Readers as words
use Rattle.ps_mem.specs.Heap.{birth_at}
use Rattle.ps_mem.specs.Meaning.{value_of}
use Rattle.ps_mem.specs.Shows.{IsWithin, Shows}
use Rattle.ps_ops_operands.specs.Plain.{IsPlain}
use Rattle.ps_ops_operands.proofs.Operands.{first_split, none_left}
use Rattle.ps_ops_operands.proofs.Held.{rest_held}
use Rattle.ps_ops_operands.proofs.Ready.{plain_within}
use Rattle.ps_ops_types.proofs.Accesses.{dictionary_has}
use Rattle.ps_ops_state.specs.Lent.{Lent, IsShown}
use Rattle.ps_ops_state.specs.Acts.{effect_in}
use Rattle.ps_ops_state.proofs.Stacked.{Stacks}
use Rattle.ps_step_lookup.proofs.Looking.{dictionary_is}

module _ (l : Lent) where
  pub maxlength_empty : None ≡ first_of l.operands → (store : Store) → IsShown l store
      → effect_in (reading_row maxlength_row) l store ≡ raises StackUnderflow
  maxlength_empty none store shown = rw (none_left l.operands none) refl

  module _ (w : Word) (one : Some w ≡ first_of l.operands) where
    pub maxlength_wrong : None ≡ words.as_dictionary (content_in w.0) → (store : Store)
        → IsShown l store → effect_in (reading_row maxlength_row) l store ≡ raises TypeCheck
    maxlength_wrong none store shown =
        rw (first_split l.operands w one, dictionary_is (birth_at l.heap) l.names w, sym none) refl

    module _ (a : ℕ) (is : Some a ≡ words.as_dictionary (content_in w.0)) (access : Access)
        (value : (names : List (List ℕ)) (s : Store) → Shows l.heap names s
        → access ≡ (dictionary_at s (birth_at l.heap a)).access) where
      pub maxlength_hidden : is_readable access ≡ false → (store : Store) → IsShown l store
          → effect_in (reading_row maxlength_row) l store ≡ raises InvalidAccess
      maxlength_hidden hidden store shown =
          rw (
            first_split l.operands w one,
            dictionary_is (birth_at l.heap) l.names w,
            sym is,
            dictionary_has (birth_at l.heap) l.names store w a is,
            sym (value l.names store shown.shows),
            hidden,
          ) refl

      pub maxlength_stacks : is_readable access ≡ true → (count : ℕ)
          → ((names : List (List ℕ)) (s : Store) → Shows l.heap names s
          → count ≡ (dictionary_at s (birth_at l.heap a)).capacity) → (number : Word)
          → IsPlain number → ((births : ℕ → ℕ) (names : List (List ℕ))
          → value_of births names number ≡ natural count) → (store : Store) → IsShown l store
          → Stacks (reading_row maxlength_row) l (number ∷ drop 1 l.operands) l.dictionaries store
      maxlength_stacks readable count capacity number plain means store shown = record {
        is = rw (
          first_split l.operands w one,
          dictionary_is (birth_at l.heap) l.names w,
          sym is,
          dictionary_has (birth_at l.heap) l.names store w a is,
          sym (value l.names store shown.shows),
          readable,
          sym (capacity l.names store shown.shows),
          means (birth_at l.heap) l.names,
        ) refl;
        operands_within = (
          plain_within (birth_at l.heap) l.names store number plain,
          rest_held (IsWithin (birth_at l.heap) l.names store) l.operands shown.operands 1,
        );
        dictionaries_within = shown.dictionaries;
      }
