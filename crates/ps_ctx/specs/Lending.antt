-- When steps were made of one context of a table (PLRM2, 7.1).
use Rattle.std.specs.Prelude.{◌≡◌, ◌≢◌, ◌<◌, ℕ, Bool, true, Option, Some, None, Result, []}
use Rattle.ps_language.specs.Effect.{Around, Scene}
use Rattle.ps_language.specs.World.{Status}
use Rattle.ps_mem.specs.Heap.{Heap, Grants}
use Rattle.ps_ops_operands.specs.declared.failure.NotMade.{NotMade as Reason}
use Rattle.ps_ops_control.specs.declared.frames.Cause.{Cause}
use Rattle.ps_ops_state.specs.declared.lent.Context.{Context}
use Rattle.ps_ops_state.specs.declared.lent.Runtime.{Runtime}
use Rattle.ps_ops_state.specs.declared.lent.Attempt.{Attempt}
use Rattle.ps_ops_state.specs.Acts.{Asked}
use Rattle.ps_ops_state.specs.Lent.{Lent, lent_of}
use Rattle.ps_step_outcome.specs.declared.turned.Turned.{Turned}
use Rattle.ps_step_outcome.specs.Turns.{Turns}
use Rattle.ps_step_interpreter.specs.Interprets.{asks_in, own_turn}
use Rattle.ps_step_interpreter.specs.Makes.{Runs}
use Rattle.ps_ctx_table.specs.declared.contexts.Contexts.{Contexts}
use Rattle.ps_ctx_table.specs.declared.members.Member.{Member}
use Rattle.ps_ctx_table.specs.Desks.{Desk, lent_to, returned, desk_of}
use Rattle.ps_ctx_table.specs.Seats.{item_at, with_item}

-- What was lent of the context of an identifier went on so, and all other contexts, and how far
-- each is, are as they were
pub record Lends {M : Type 0} (identifier : ℕ) (goes : (old new : Lent) → Type 0)
    (heap : M → Heap) (grants : M → Grants) (old_runtime new_runtime : Runtime M)
    (old new : Contexts) : Type 0 where
  pub member : Member
  pub found : item_at old.table identifier ≡ Some member
  pub after : Context
  pub goes_on : goes (lent_of heap grants member.context old_runtime)
      (lent_of heap grants after new_runtime)
  pub table : new.table ≡ with_item old.table identifier (Some (record member { context = after }))
  pub faulted : new.has_faulted ≡ old.has_faulted

-- the same over what clauses see of them
pub record LendsDesk (identifier : ℕ) (goes : (old new : Lent) → Type 0) (old new : Desk) : Type 0
  where
    pub member : Member
    pub found : item_at old.members identifier ≡ Some member
    pub after : Lent
    pub goes_on : goes (lent_to old member.context) after
    pub is : new ≡ desk_of after
        (with_item old.members identifier (Some (record member { context = returned after })))
        old.has_faulted

-- Of ordinary steps, at most so many: where no turn behind them is told, all were made, or no frame
-- is left. Framed says that one is
pub record RunsSo (asks : Status → Around → Scene → Asked) (slot most made : ℕ)
    (next : Option (Result Turned Reason)) (framed : Bool) (old new : Lent) : Type 0 where
  pub runs : Runs asks slot made next old new
  pub out : next ≡ None → made < most → new.frames ≡ []
  pub left : framed ≡ true → new.frames ≢ []

-- its turn
abbrev pub TurnsSo : (asks : Status → Around → Scene → Asked) → (unwinding : Option Cause) → Attempt
    → Result Turned Reason → (old new : Lent) → Type 0
TurnsSo asks unwinding attempt result old new =
    Turns (asks_in asks unwinding) (own_turn unwinding) attempt result old new
