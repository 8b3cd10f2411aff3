-- When what an operator that is left to the world does was done, and its caller has not settled yet
-- (PLRM2, 7.1).
use Rattle.std.specs.Prelude.{◌≡◌, ◌≢◌, ℕ, ℤ, Bool, Option, Some, Result, Ok, Err, OnErr}
use Rattle.ps_step_outcome.specs.declared.world_operators.WorldOperator.{WorldOperator}
use Rattle.ps_step_outcome.specs.declared.world_operators.WorldOperator.TheVariants.{VmStatus}
use Rattle.ps_language.specs.Contexts.{context_at}
use Rattle.ps_language.specs.Effect.{Deed, does, waits}
use Rattle.ps_language.specs.Outcome.{Outcome, leaves, fails}
use Rattle.ps_language.specs.Step.{deed_given_room}
use Rattle.ps_language.specs.World.{Context, World}
use Rattle.ps_mem.specs.Keeps.{Keeps}
use Rattle.ps_ops_operands.specs.declared.failure.NotMade.{NotMade as Reason}
use Rattle.ps_ops_operands.specs.Changes.{KeepsLogsWithin, most_records, spent}
use Rattle.ps_ops_state.specs.declared.breaks.Break.{Break}
use Rattle.ps_ops_state.specs.declared.breaks.Break.TheVariants.{Unwinds, Raises, NotMade}
use Rattle.ps_ops_state.specs.declared.lent.Attempt.{Attempt}
use Rattle.ps_step_outcome.specs.declared.turned.Turned.{Turned}
use Rattle.ps_step_outcome.specs.declared.turned.Turned.TheVariants.{Goes, Calls as TurnedCalls}
use Rattle.ps_step_outcome.specs.Turns.{calling_of}
use Rattle.ps_ctx_table.specs.Desks.{Desk, IsWorld, IsSteady}
use Rattle.ps_ctx.specs.declared.notes.Note.{Note}
use Rattle.ps_ctx.specs.declared.notes.Note.TheVariants.{ShowsMemory}
use Rattle.ps_ctx.specs.Notes.{note_of}
use Rattle.ps_ctx.specs.Calls.{RunsAt, AreFramedBut, IsSameDesk, IsHeldUpAs, call_by, call_wants}

-- the world that is left, and the note
abbrev pub IsLeftAs : (note : Note) → Outcome Deed → (new : Desk) → Type 0
IsLeftAs note (leaves (does told next)) new = IsWorld new next × (note_of note ≡ told)
IsLeftAs note (leaves waits) new = ⊥
IsLeftAs note (fails error) new = ⊥

-- It comes to the world that the definitions leave, or to their error, whatever is shown, with the
-- world as it was; or it is not made, and the world is as it was
abbrev pub ComesTo : Result Note Break → (shown : Option (ℤ × ℤ))
    → (outcome : Option (ℤ × ℤ) → Outcome Deed) → (before : World) → (new : Desk) → Type 0
ComesTo (Ok note) shown outcome before new = IsLeftAs note (outcome shown) new
ComesTo (Err (Raises error)) shown outcome before new =
    ((any : Option (ℤ × ℤ)) → outcome any ≡ fails error) × IsWorld new before
ComesTo (Err (NotMade reason)) shown outcome before new = IsWorld new before
ComesTo (Err (Unwinds cause)) shown outcome before new = ⊥

-- what an operator of a caller comes to
abbrev pub outcome_of : WorldOperator → (caller : ℕ) → (refused : Bool) → World → Context
    → (shown : Option (ℤ × ℤ)) → Outcome Deed
outcome_of operator caller refused w context shown =
    deed_given_room refused w ((calling_of operator).deed context.operands
    (call_by caller shown w context))

-- For every world that the desk is of; the caller is still there, and runs. A vmstatus is always
-- made, and one that acts leaves the memory as it was
pub record DoesBy (operator : WorldOperator) (caller : ℕ) (attempt : Attempt)
    (shown : Option (ℤ × ℤ)) (result : Result Note Break) (old new : Desk) : Type 0 where
  pub meets : (w : World) (context : Context) → IsWorld old w
      → context_at w caller ≡ Some context
      → ComesTo result shown (outcome_of operator caller attempt.refused w context) w new
  pub steady : IsSteady new
  pub runs : RunsAt caller new.members
  pub keeps : Keeps old.heap new.heap
  pub program : new.program ≡ old.program
  pub most : new.most ≡ old.most
  pub framed : AreFramedBut caller old.members → AreFramedBut caller new.members
  pub same : (w : World) → IsWorld old w → OnErr result (IsSameDesk old new)
  pub held_up : (reason : Reason) → result ≡ Err (NotMade reason) → (w : World)
      (context : Context) → IsWorld old w → context_at w caller ≡ Some context
      → IsHeldUpAs (call_wants (calling_of operator) caller attempt.refused w context) attempt.slot
      new.heap new.grants reason
  pub logs : KeepsLogsWithin (spent result most_records) old.grants new.grants attempt.slot
  pub made : operator ≡ VmStatus → (reason : Reason) → result ≢ Err (NotMade reason)
  pub leaves : result ≡ Ok ShowsMemory → new.heap ≡ old.heap

-- with this note, where it acted
abbrev pub noted : Note → Result Unit Break → Result Note Break
noted note (Ok _) = Ok note
noted note (Err why) = Err why

-- an error leaves nothing to the world
abbrev pub own_of : Turned → Turned
own_of (TurnedCalls operator) = Goes
own_of turned = turned
