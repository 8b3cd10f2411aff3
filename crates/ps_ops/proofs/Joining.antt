-- What put asks for, by its third operand.
use Rattle.std.proofs.Common.{◌≡◌, ℕ, Bool, true, false, List, [], ◌∷◌, Some, None, refl, sym, ap, true≢false}
use Rattle.std.specs.Prelude.{Option, is_some, option_map, if◌then◌else◌}
use Rattle.ps_ops_sequences.specs.ArrayRows.{one_stored}
use Rattle.ps_language.specs.Value.{Store}
use Rattle.ps_stacks.specs.Tops.{first_three_of}
use Rattle.ps_word.specs.declared.words.Word.{Word}
use Rattle.ps_word.specs.Format.{content_in}
use Rattle.ps_word.specs.Readers as readers
use Rattle.ps_mem.specs.Heap.{birth_at}
use Rattle.ps_ops_operands.specs.Changes.{values_in}
use Rattle.ps_ops_operands.proofs.Operands.{first_three_split}
use Rattle.ps_step_lookup.proofs.Looking.{dictionary_is}
use Rattle.ps_ops_state.specs.Lent.{Lent, scene_of, IsShown}
use Rattle.ps_ops_state.specs.Acts.{stores}
use Rattle.ps_ops_dictionaries.specs.Asks.{put_asks as dictionary_put_asks}
use Rattle.ps_ops.specs.Joins.{is_third_dictionary, put_asks}

module _ (l : Lent) where
  by_third : (b : Bool) (store : Store)
      → is_third_dictionary (values_in l.heap l.names l.operands) ≡ b
      → put_asks (scene_of l store)
      ≡ (if b then dictionary_put_asks (scene_of l store) else stores one_stored (scene_of l store))
  by_third b store is =
      ap (λ (c : Bool). if c then dictionary_put_asks (scene_of l store) else
      stores one_stored (scene_of l store)) is

  none_third : (operands : List Word) → None ≡ first_three_of operands
      → is_third_dictionary (values_in l.heap l.names operands) ≡ false
  none_third [] none = refl
  none_third (x ∷ []) none = refl
  none_third (x ∷ k ∷ []) none = refl
  none_third (x ∷ k ∷ d ∷ rest) none = absurd (true≢false (sym (ap is_some none)))

  pub short_asks : None ≡ first_three_of l.operands → (store : Store) → IsShown l store
      → put_asks (scene_of l store) ≡ stores one_stored (scene_of l store)
  short_asks none store shown = by_third false store (none_third l.operands none)

  module _ (x k d : Word) (three : Some (x, k, d) ≡ first_three_of l.operands) where
    third_as : (address : Option ℕ) → address ≡ readers.as_dictionary (content_in d.0)
        → is_third_dictionary (values_in l.heap l.names l.operands)
        ≡ is_some (option_map (birth_at l.heap) address)
    third_as address is =
        rw (
          first_three_split l.operands x k d three,
          dictionary_is (birth_at l.heap) l.names d,
          sym is,
        ) refl

    pub dictionary_asks : (a : ℕ) → Some a ≡ readers.as_dictionary (content_in d.0)
        → (store : Store) → IsShown l store
        → put_asks (scene_of l store) ≡ dictionary_put_asks (scene_of l store)
    dictionary_asks a is store shown = by_third true store (third_as (Some a) is)

    pub sequence_asks : None ≡ readers.as_dictionary (content_in d.0)
        → (store : Store) → IsShown l store
        → put_asks (scene_of l store) ≡ stores one_stored (scene_of l store)
    sequence_asks is store shown = by_third false store (third_as None is)
