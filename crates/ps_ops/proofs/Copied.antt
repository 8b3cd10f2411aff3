-- What copy does and asks for, by its topmost operand.
use Rattle.std.proofs.Common.{◌≡◌, ℕ, Bool, true, false, List, [], ◌∷◌, Some, None, drop, refl, sym, ap, ◌∙◌}
use Rattle.std.proofs.Common.{true≢false}
use Rattle.std.specs.Prelude.{Option, is_some, option_map, slice_get, if◌then◌else◌}
use Rattle.ps_language.specs.declared.errors.ErrorName.TheVariants.{StackUnderflow, TypeCheck}
use Rattle.ps_language.specs.Effect.{raises}
use Rattle.ps_language.specs.Acts.{change_effect}
use Rattle.ps_language.specs.Rows.{changing_row}
use Rattle.ps_language.specs.RowsSequences.{copy_row, copy_by}
use Rattle.ps_language.specs.Value.{What, Store}
use Rattle.ps_stacks.specs.Tops.{first_of}
use Rattle.ps_word.specs.declared.words.Word.{Word}
use Rattle.ps_word.specs.Format.{content_in}
use Rattle.ps_word.specs.Readers as words
use Rattle.ps_mem.specs.Heap.{birth_at}
use Rattle.ps_mem.specs.Meaning.{value_of}
use Rattle.ps_ops_operands.specs.Changes.{values_in}
use Rattle.ps_ops_operands.proofs.Operands.{first_split, first_two_split}
use Rattle.ps_step_lookup.proofs.Looking.{dictionary_is}
use Rattle.ps_ops_state.specs.Lent.{Lent, scene_of, IsShown}
use Rattle.ps_ops_state.specs.Acts.{effect_in}
use Rattle.ps_ops_dictionaries.specs.Asks.{copy_asks as dictionary_copy_asks}
use Rattle.ps_ops_dictionaries.proofs.Finding.{what_is}
use Rattle.ps_ops_sequences.specs.Asks.{copy_asks as sequence_copy_asks}
use Rattle.ps_ops_sequences.specs.Kinds.{is_dictionary_at}
use Rattle.ps_ops_sequences.proofs.CopyRows.{one_alone, two_tops, top_kind}
use Rattle.ps_ops.specs.Joins.{is_first_dictionary, copy_asks}

pub none_topmost : (operands : List Word) → None ≡ first_of operands
    → is_dictionary_at operands 0 ≡ false
none_topmost [] none = refl
none_topmost (y ∷ rest) none = absurd (true≢false (sym (ap is_some none)))

pub other_topmost : (operands : List Word) (y : Word) → Some y ≡ first_of operands
    → None ≡ words.as_dictionary (content_in y.0) → is_dictionary_at operands 0 ≡ false
other_topmost operands y first other = top_kind operands y first ∙ ap is_some (sym other)

module _ (l : Lent) where
  by_first : (b : Bool) (store : Store)
      → is_first_dictionary (values_in l.heap l.names l.operands) ≡ b
      → copy_asks (scene_of l store)
      ≡ (if b then dictionary_copy_asks (scene_of l store) else
      sequence_copy_asks (scene_of l store))
  by_first b store is =
      ap (λ (c : Bool). if c then dictionary_copy_asks (scene_of l store) else
      sequence_copy_asks (scene_of l store)) is

  none_first : (operands : List Word) → None ≡ first_of operands
      → is_first_dictionary (values_in l.heap l.names operands) ≡ false
  none_first [] none = refl
  none_first (y ∷ rest) none = absurd (true≢false (sym (ap is_some none)))

  pub empty_asks : None ≡ first_of l.operands → (store : Store) → IsShown l store
      → copy_asks (scene_of l store) ≡ sequence_copy_asks (scene_of l store)
  empty_asks none store shown = by_first false store (none_first l.operands none)

  module _ (y : Word) (top : Some y ≡ first_of l.operands) where
    first_as : (address : Option ℕ) → address ≡ words.as_dictionary (content_in y.0)
        → is_first_dictionary (values_in l.heap l.names l.operands)
        ≡ is_some (option_map (birth_at l.heap) address)
    first_as address is =
        rw (first_split l.operands y top, dictionary_is (birth_at l.heap) l.names y, sym is) refl

    pub copy_other_asks : None ≡ words.as_dictionary (content_in y.0)
        → (store : Store) → IsShown l store
        → copy_asks (scene_of l store) ≡ sequence_copy_asks (scene_of l store)
    copy_other_asks other store shown = by_first false store (first_as None other)

    module _ (to : ℕ) (to_is : Some to ≡ words.as_dictionary (content_in y.0)) where
      pub copy_pairs_asks : (store : Store) → IsShown l store
          → copy_asks (scene_of l store) ≡ dictionary_copy_asks (scene_of l store)
      copy_pairs_asks store shown = by_first true store (first_as (Some to) to_is)

      pub alone_raises : None ≡ slice_get l.operands 1 → (store : Store) → IsShown l store
          → effect_in (changing_row copy_row) l store ≡ raises StackUnderflow
      alone_raises none store shown = rw (one_alone l.operands y top none)
          (ap (λ (w : What). change_effect (scene_of l store)
          (copy_by store (value_of (birth_at l.heap) l.names y) w []))
          (what_is (birth_at l.heap) l.names y to to_is))

      pub unlike_raises : (x : Word) → Some x ≡ slice_get l.operands 1
          → None ≡ words.as_dictionary (content_in x.0) → (store : Store) → IsShown l store
          → effect_in (changing_row copy_row) l store ≡ raises TypeCheck
      unlike_raises x second other store shown =
          rw (first_two_split l.operands y x (two_tops l.operands y x top second))
          (ap (λ (w : What). change_effect (scene_of l store)
          (copy_by store (value_of (birth_at l.heap) l.names y) w
          (value_of (birth_at l.heap) l.names x ∷ values_in l.heap l.names (drop 2 l.operands))))
          (what_is (birth_at l.heap) l.names y to to_is)
          ∙ rw (dictionary_is (birth_at l.heap) l.names x, sym other) refl)
