-- Of the operators that are left to the world a vmstatus alone shows memory.
use Rattle.std.proofs.Common.{◌≡◌, ℕ, ℤ, Bool, true, false, Option, None, List, [], ◌∷◌, refl, sym, ap, ◌∙◌}
use Rattle.std.specs.Prelude.{◌++◌, not, ⊤}
use Rattle.ps_language.specs.declared.errors.ErrorName.{ErrorName}
use Rattle.ps_language.specs.declared.errors.ErrorName.TheVariants.{VmError, StackOverflow}
use Rattle.ps_step_outcome.specs.declared.world_operators.WorldOperator.{WorldOperator}
use Rattle.ps_step_outcome.specs.declared.world_operators.WorldOperator.TheVariants.{CurrentContext, Fork, Join, Detach, Lock, Monitor}
use Rattle.ps_step_outcome.specs.declared.world_operators.WorldOperator.TheVariants.{Condition, Wait, Notify, Yield, VmStatus}
use Rattle.ps_step_outcome.specs.declared.world_operators.WorldOperator.TheVariants.{VmReclaim}
use Rattle.ps_language.specs.Contexts.{with_context, with_operands_of, doing_operands, memory_shown, vmstatus_row}
use Rattle.ps_language.specs.Contexts.{vmreclaim_row, new_row, fork_row, join_row, detach_row}
use Rattle.ps_language.specs.Effect.{Call, Note, nothing, turn_ends, shows_memory, Deed, does, waits, Calling}
use Rattle.ps_language.specs.Locks.{monitor_row, wait_row, notify_row}
use Rattle.ps_language.specs.Outcome.{Outcome, leaves, fails, given_that}
use Rattle.ps_language.specs.Readers.{room_for}
use Rattle.ps_language.specs.Step.{deed_given_room, after_deed, called}
use Rattle.ps_language.specs.Value.{Value, Object, lock_object, condition_object}
use Rattle.ps_language.specs.World.{Context, World}
use Rattle.ps_language.proofs.Leaving.{Leaves, left_with, left_none, and_then-leaves, given_that-leaves, each-leaves}
use Rattle.ps_language.proofs.Leaving.{leaving}
use Rattle.ps_ops_state.proofs.Meeting.{lacks_for_same}
use Rattle.ps_step_outcome.specs.Turns.{calling_of}
use Rattle.ps_ctx.specs.Calls.{call_by}
use Rattle.ps_ctx.specs.Notes.{IsNoStatus}

-- of what such an operator does
abbrev pub DeedIsNoStatus : Deed → Type 0
DeedIsNoStatus (does note world) = IsNoStatus note
DeedIsNoStatus waits = ⊤

-- ---- rows

nothing-no : IsNoStatus nothing
nothing-no is = cc

turn_ends-no : IsNoStatus turn_ends
turn_ends-no is = cc

-- none of its outcomes is a vmstatus
abbrev IsOther : (List Value → Call → Outcome Deed) → Type 0
IsOther deed = (operands : List Value) (call : Call) → Leaves DeedIsNoStatus (deed operands call)

doing-other : (note : Note) (call : Call) (outcome : Outcome (List Value)) → IsNoStatus note
    → Leaves DeedIsNoStatus (doing_operands note call outcome)
doing-other note call outcome other =
    and_then-leaves _ (λ operands. ⊤) outcome _ (each-leaves _ outcome (λ operands. tt))
    λ operands any. left_with other

wishes-other : (number : ℤ) (call : Call) (outcome : Outcome (List Value))
    → Leaves DeedIsNoStatus (doing_operands (Note.wishes number) call outcome)
wishes-other number call outcome = doing-other (Note.wishes number) call outcome (λ is. cc)

vmreclaim-other : IsOther vmreclaim_row
vmreclaim-other [] call = left_none
vmreclaim-other (x ∷ rest) call = search (leaving, wishes-other)

new-other : (object : Object) → IsOther (new_row object)
new-other object operands call =
    and_then-leaves _ (λ pushed. ⊤) _ _ (each-leaves _ _ (λ pushed. tt)) λ pushed any.
    left_with nothing-no

fork-other : IsOther fork_row
fork-other [] call = left_none
fork-other (p ∷ rest) call = search (leaving, nothing-no) depth 9

join-other : IsOther join_row
join-other [] call = left_none
join-other (x ∷ rest) call = search (leaving, nothing-no) depth 9

detach-other : IsOther detach_row
detach-other [] call = left_none
detach-other (x ∷ rest) call = search (leaving, nothing-no)

monitor-other : IsOther monitor_row
monitor-other [] call = left_none
monitor-other (p ∷ []) call = left_none
monitor-other (p ∷ l ∷ rest) call = search (leaving, nothing-no) depth 9

wait-other : IsOther wait_row
wait-other [] call = left_none
wait-other (c ∷ []) call = left_none
wait-other (c ∷ l ∷ rest) call = search (leaving, turn_ends-no) depth 9

notify-other : IsOther notify_row
notify-other [] call = left_none
notify-other (c ∷ rest) call = search (leaving, nothing-no)

-- ---- all operators

-- it is none where a vmstatus is none
pub other_or_status : (operator : WorldOperator) (operands : List Value) (call : Call)
    → (operator ≡ VmStatus → Leaves DeedIsNoStatus (vmstatus_row operands call))
    → Leaves DeedIsNoStatus ((calling_of operator).deed operands call)
other_or_status CurrentContext operands call status = doing-other nothing call _ nothing-no
other_or_status Fork operands call status = fork-other operands call
other_or_status Join operands call status = join-other operands call
other_or_status Detach operands call status = detach-other operands call
other_or_status Lock operands call status = new-other (lock_object None) operands call
other_or_status Monitor operands call status = monitor-other operands call
other_or_status Condition operands call status = new-other condition_object operands call
other_or_status Wait operands call status = wait-other operands call
other_or_status Notify operands call status = notify-other operands call
other_or_status Yield operands call status = left_with turn_ends-no
other_or_status VmStatus operands call status = status refl
other_or_status VmReclaim operands call status = vmreclaim-other operands call

-- ---- a vmstatus that is an error

module _ (refused : Bool) (w : World) (context : Context) (caller : ℕ)
    (shown : Option (ℤ × ℤ)) (error : ErrorName) where
  -- with room it is none
  full_no : (room : Bool)
      → deed_given_room refused w (doing_operands shows_memory (call_by caller shown w context)
      (given_that room StackOverflow (leaves (memory_shown shown ++ context.operands))))
      ≡ fails error
      → Leaves DeedIsNoStatus (doing_operands shows_memory (call_by caller shown w context)
      (given_that room StackOverflow (leaves (memory_shown shown ++ context.operands))))
  unfolding with_context
  full_no false is = left_none
  full_no true is =
      let left : Outcome Deed = leaves (does shows_memory (with_operands_of
      (call_by caller shown w context) (memory_shown shown ++ context.operands))) in
      let bad : left ≡ fails error = sym (ap (λ b. given_that (not b) VmError left)
      (lacks_for_same refused w.store)) ∙ is in absurd (cc)

  pub failed_no : deed_given_room refused w
      (vmstatus_row context.operands (call_by caller shown w context)) ≡ fails error
      → Leaves DeedIsNoStatus (vmstatus_row context.operands (call_by caller shown w context))
  failed_no = full_no (room_for (memory_shown shown ++ context.operands))

-- ---- the call

with_room-no : (refused : Bool) (w : World) (outcome : Outcome Deed)
    → Leaves DeedIsNoStatus outcome → Leaves DeedIsNoStatus (deed_given_room refused w outcome)
with_room-no refused w (leaves (does note next)) none = given_that-leaves _ _ _ _ none
with_room-no refused w (leaves waits) none = none
with_room-no refused w (fails error) none = none

after-no : (calling : Calling) (caller : ℕ) (w : World) (outcome : Outcome Deed)
    → Leaves DeedIsNoStatus outcome → IsNoStatus (after_deed calling caller w outcome).note
after-no calling caller w (leaves (does note next)) (left_with other) = other
after-no calling caller w (leaves waits) none = λ is. cc
after-no calling caller w (fails error) none = nothing-no

pub called_no : (calling : Calling) (caller : ℕ) (refused : Bool) (shown : Option (ℤ × ℤ))
    (w : World) (context : Context)
    → Leaves DeedIsNoStatus (calling.deed context.operands (call_by caller shown w context))
    → IsNoStatus (called calling caller refused shown w context).note
called_no calling caller refused shown w context none =
    after-no calling caller w _ (with_room-no refused w _ none)
