-- What `notify` leaves.
use Rattle.std.proofs.Common.{◌≡◌, drop, Some, refl}
use Rattle.ps_language.specs.Value.{Store}
use Rattle.ps_language.specs.Effect.{Scene}
use Rattle.ps_stacks.specs.Tops.{first_of}
use Rattle.ps_word.specs.declared.words.Word.{Word}
use Rattle.ps_mem.specs.Heap.{birth_at}
use Rattle.ps_mem.specs.Shows.{IsWithin}
use Rattle.ps_ops_operands.proofs.Held.{rest_held}
use Rattle.ps_ops_operands.proofs.Operands.{first_split}
use Rattle.ps_ops_state.specs.declared.lent.Attempt.{Attempt}
use Rattle.ps_ops_state.specs.Lent.{Lent, IsShown}
use Rattle.ps_ops_state.specs.Acts.{Asked}
use Rattle.ps_ops_state.proofs.Direct.{LeavesWords}
use Rattle.ps_ctx_operators.specs.Rows.{notify_caller}
use Rattle.ps_ctx_operators.proofs.WaitLemmas.{IsCondition}

-- the condition is taken off
pub notify_leaves : (l : Lent) (w : Word) → Some w ≡ first_of l.operands → (condition : _)
    → IsCondition w condition → (attempt : Attempt) (asks : Scene → Asked) (store : Store)
    → IsShown l store → LeavesWords notify_caller attempt asks l (drop 1 l.operands) store
notify_leaves l w one condition is attempt asks store shown = record {
  is = rw (first_split l.operands w one, is (birth_at l.heap) l.names) refl;
  within = rest_held (IsWithin (birth_at l.heap) l.names store) l.operands shown.operands 1;
}
