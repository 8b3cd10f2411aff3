-- What a wish about collection leaves.
use Rattle.std.proofs.Common.{◌≡◌, ℕ, ℤ, List, drop, true, false, Some, refl}
use Rattle.std.specs.Prelude.{◌&&◌, pos, negsuc, int_le}
use Rattle.ps_language.specs.declared.errors.ErrorName.TheVariants.{RangeCheck}
use Rattle.ps_language.specs.Value.{Store}
use Rattle.ps_language.specs.Readers.{as_integer}
use Rattle.ps_language.specs.Effect.{Scene, raises}
use Rattle.ps_stacks.specs.Tops.{first_of}
use Rattle.ps_word.specs.declared.words.Word.{Word}
use Rattle.ps_mem.specs.Heap.{birth_at}
use Rattle.ps_mem.specs.Meaning.{value_of}
use Rattle.ps_mem.specs.Shows.{IsWithin}
use Rattle.ps_ops_operands.proofs.Held.{rest_held}
use Rattle.ps_ops_operands.proofs.Operands.{first_split}
use Rattle.ps_ops_state.specs.declared.lent.Attempt.{Attempt}
use Rattle.ps_ops_state.specs.Lent.{Lent, IsShown}
use Rattle.ps_ops_state.specs.Acts.{Asked, effect_in}
use Rattle.ps_ops_state.proofs.Direct.{LeavesWords}
use Rattle.ps_ctx_operators.specs.Rows.{vmreclaim_caller}

module _ (l : Lent) (w : Word) (one : Some w ≡ first_of l.operands) (i : ℤ)
    (number : (births : ℕ → ℕ) (names : List (List ℕ))
    → as_integer (value_of births names w) ≡ Some i) where
  pub wish_refused : (int_le (negsuc 1) i && int_le i (pos 2)) ≡ false → (store : Store)
      → IsShown l store → effect_in vmreclaim_caller l store ≡ raises RangeCheck
  wish_refused wrong store shown =
      rw (first_split l.operands w one, number (birth_at l.heap) l.names, wrong) refl

  pub wish_taken : (int_le (negsuc 1) i && int_le i (pos 2)) ≡ true → (attempt : Attempt)
      (asks : Scene → Asked) (store : Store) → IsShown l store
      → LeavesWords vmreclaim_caller attempt asks l (drop 1 l.operands) store
  wish_taken may attempt asks store shown = record {
    is = rw (first_split l.operands w one, number (birth_at l.heap) l.names, may) refl;
    within = rest_held (IsWithin (birth_at l.heap) l.names store) l.operands shown.operands 1;
  }
