-- What length leaves.
use Rattle.std.proofs.Common.{◌≡◌, ℕ, List, ◌∷◌, drop, true, false, Some, None, refl}
use Rattle.ps_language.specs.declared.errors.ErrorName.TheVariants.{InvalidAccess, TypeCheck}
use Rattle.ps_language.specs.Value.{Value, Store}
use Rattle.ps_language.specs.Readers.{natural}
use Rattle.ps_language.specs.Access.{may_read}
use Rattle.ps_language.specs.Effect.{raises}
use Rattle.ps_language.specs.Rows.{reading_row}
use Rattle.ps_language.specs.RowsSequences.{length_of, length_row}
use Rattle.ps_stacks.specs.Tops.{first_of}
use Rattle.ps_word.specs.declared.words.Word.{Word}
use Rattle.ps_mem.specs.Heap.{birth_at}
use Rattle.ps_mem.specs.Meaning.{value_of}
use Rattle.ps_mem.specs.Shows.{IsWithin, Shows}
use Rattle.ps_ops_operands.specs.Plain.{IsPlain}
use Rattle.ps_ops_operands.proofs.Operands.{first_split}
use Rattle.ps_ops_operands.proofs.Held.{rest_held}
use Rattle.ps_ops_operands.proofs.Ready.{plain_within}
use Rattle.ps_ops_state.specs.declared.lent.Attempt.{Attempt}
use Rattle.ps_ops_state.specs.Lent.{Lent, IsShown}
use Rattle.ps_ops_state.specs.Acts.{nothing_asked, effect_in}
use Rattle.ps_ops_state.proofs.Direct.{LeavesWords}

module _ (l : Lent) (w : Word) (top : Some w ≡ first_of l.operands) where
  abbrev value : Value
  value = value_of (birth_at l.heap) l.names w

  abbrev Known : (Store → Type 0) → Type 0
  Known P = (store : Store) → Shows l.heap l.names store → P store

  pub length_wrong : Known (λ store. length_of store value ≡ None) → (store : Store)
      → IsShown l store → effect_in (reading_row length_row) l store ≡ raises TypeCheck
  length_wrong none store shown =
      rw (first_split l.operands w top, none store shown.shows) refl

  module _ (n : ℕ) (measured : Known (λ store. length_of store value ≡ Some n)) where
    pub length_hidden : Known (λ store. may_read store value ≡ false) → (store : Store)
        → IsShown l store → effect_in (reading_row length_row) l store ≡ raises InvalidAccess
    length_hidden hidden store shown =
        rw (
          first_split l.operands w top,
          measured store shown.shows,
          hidden store shown.shows,
        ) refl

    pub length_left : Known (λ store. may_read store value ≡ true) → (attempt : Attempt) (r : Word)
        → IsPlain r
        → ((births : ℕ → ℕ) (names : List (List ℕ)) → value_of births names r ≡ natural n)
        → (store : Store) → IsShown l store
        → LeavesWords (reading_row length_row) attempt nothing_asked l (r ∷ drop 1 l.operands) store
    length_left readable attempt r plain means store shown = record {
      is = rw (
        first_split l.operands w top,
        measured store shown.shows,
        readable store shown.shows,
        means (birth_at l.heap) l.names,
      ) refl;
      within = (
        plain_within (birth_at l.heap) l.names store r plain,
        rest_held (IsWithin (birth_at l.heap) l.names store) l.operands shown.operands 1,
      );
    }
