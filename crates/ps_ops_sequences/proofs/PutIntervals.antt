-- What putinterval leaves or raises.
use Rattle.std.proofs.Common.{◌≡◌, ℕ, ◌&&◌, drop, true, false, Some, None, refl, sym}
use Rattle.std.specs.Prelude.{ℤ}
use Rattle.ps_language.specs.declared.errors.ErrorName.TheVariants.{InvalidAccess, RangeCheck, TypeCheck}
use Rattle.ps_language.specs.Value.{Part as PartValue, Value, Store}
use Rattle.ps_language.specs.Access.{is_readable, is_writable}
use Rattle.ps_language.specs.Readers.{as_integer}
use Rattle.ps_language.specs.Effect.{raises}
use Rattle.ps_language.specs.Rows.{changing_row}
use Rattle.ps_language.specs.RowsSequences.{as_pair, interval_within, putinterval_row}
use Rattle.ps_stacks.specs.Tops.{first_three_of}
use Rattle.ps_word.specs.declared.words.Word.{Word}
use Rattle.ps_word.specs.declared.values.Part.{Part}
use Rattle.ps_mem.specs.Heap.{birth_at}
use Rattle.ps_mem.specs.Meaning.{value_of, part_of}
use Rattle.ps_mem.specs.Shows.{IsValue, IsWithin}
use Rattle.ps_ops_operands.specs.Changes.{values_in}
use Rattle.ps_ops_operands.proofs.Operands.{first_three_split}
use Rattle.ps_ops_operands.proofs.Held.{first_of_three_held, third_held}
use Rattle.ps_ops_state.specs.declared.lent.Attempt.{Attempt}
use Rattle.ps_ops_state.specs.Lent.{Lent, IsShown, IsGood}
use Rattle.ps_ops_state.specs.Acts.{effect_in}
use Rattle.ps_ops_sequences.specs.declared.pairs.SequencePair.{SequencePair}
use Rattle.ps_ops_sequences.specs.Pairs.{read_as}
use Rattle.ps_ops_sequences.specs.Asks.{putinterval_asks}
use Rattle.ps_ops_sequences.proofs.PairRows.{contents_of, asked_of}
use Rattle.ps_ops_sequences.proofs.Copying.{Copies}

module _ (l : Lent) (source key target : Word)
    (tops : Some (source, key, target) ≡ first_three_of l.operands) (number : ℤ)
    (number_is : as_integer (value_of (birth_at l.heap) l.names key) ≡ Some number) where
  abbrev value : Word → Value
  value w = value_of (birth_at l.heap) l.names w

  abbrev part_value : Part → PartValue
  part_value part = part_of (birth_at l.heap) part

  pub put_wrong : as_pair (value source) (value target) ≡ None → (store : Store)
      → IsShown l store → effect_in (changing_row putinterval_row) l store ≡ raises TypeCheck
  put_wrong none store shown =
      rw (first_three_split l.operands source key target tops, number_is, none) refl

  module _ (pair : SequencePair) (pair_is : as_pair (value source) (value target)
      ≡ Some (part_value pair.from, part_value pair.to)) where
    pub put_hidden : (is_readable pair.from.access && is_writable pair.to.access) ≡ false
        → (store : Store) → IsShown l store
        → effect_in (changing_row putinterval_row) l store ≡ raises InvalidAccess
    put_hidden hidden store shown =
        rw (first_three_split l.operands source key target tops, number_is, pair_is, hidden) refl

    module _ (may : (is_readable pair.from.access && is_writable pair.to.access) ≡ true) where
      pub put_outside : None ≡ interval_within number pair.from.length pair.to.length
          → (store : Store) → IsShown l store
          → effect_in (changing_row putinterval_row) l store ≡ raises RangeCheck
      put_outside none store shown = rw (
        first_three_split l.operands source key target tops,
        number_is,
        pair_is,
        may,
        sym none,
      ) refl

      pub put_copies : (good : IsGood l) → (attempt : Attempt) (place : ℕ)
          → Some place ≡ interval_within number pair.from.length pair.to.length
          → read_as pair.of (value source) ≡ Some (part_value pair.from)
          → read_as pair.of (value target) ≡ Some (part_value pair.to)
          → (store : Store) → IsShown l store
          → Copies (changing_row putinterval_row) putinterval_asks attempt l source target
          (values_in l.heap l.names (drop 3 l.operands)) pair place store
      put_copies good attempt place place_is from_is to_is store shown = record {
        is = rw (
          first_three_split l.operands source key target tops,
          number_is,
          pair_is,
          may,
          sym place_is,
          contents_of (value target) _ pair.of to_is store _ _ place,
        ) refl;
        asks_is = rw (first_three_split l.operands source key target tops)
            (asked_of (value source) _ pair.of from_is);
        source_in = record {
          held = first_of_three_held (IsValue l.heap) l.operands good.operands source key target
              tops;
          within = first_of_three_held (IsWithin (birth_at l.heap) l.names store) l.operands
              shown.operands source key target tops;
        };
        target_in = record {
          held = third_held (IsValue l.heap) l.operands good.operands source key target tops;
          within = third_held (IsWithin (birth_at l.heap) l.names store) l.operands
              shown.operands source key target tops;
        };
      }
