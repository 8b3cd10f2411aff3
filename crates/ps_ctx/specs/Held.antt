-- When contexts over a memory are at a world of the definitions (PLRM2, 7.1).
use Rattle.std.specs.Prelude.{◌≡◌, ℕ, Bool, true, Option, Some, None, List}
use Rattle.ps_language.specs.Contexts.{context_at}
use Rattle.ps_language.specs.Machines.{may_end, leaves_to_world, own_step}
use Rattle.ps_language.specs.Step.{machine_of, with_machine}
use Rattle.ps_language.specs.World.{Context, Machine, World}
use Rattle.ps_step_outcome.specs.Turns.{calling_of}
use Rattle.ps_ops_control.specs.declared.frames.Cause.{Cause}
use Rattle.ps_ctx_table.specs.declared.members.Course.{Course}
use Rattle.ps_ctx_table.specs.declared.members.Course.TheVariants.{Running, Unwinding}
use Rattle.ps_ctx_table.specs.declared.members.Member.{Member}
use Rattle.ps_ctx_table.specs.Seats.{item_at}
use Rattle.ps_ctx_table.specs.Desks.{Desk, IsWorld, IsSteady, AreFramed}
use Rattle.ps_ctx.specs.declared.worlds.Calling.{Calling}
use Rattle.ps_ctx.specs.Calls.{RunsAt, AreFramedBut}

-- all contexts, and the call of one whose element is taken, if there is one
pub record Held : Type 0 where
  pub desk : Desk
  pub calling : Option Calling

abbrev pub held : Desk → Option Calling → Held
held desk calling = record { desk = desk; calling = calling }

-- The own step of the caller leaves the operator to the world, refused or not, and the desk is that
-- of the world with what it leaves
pub record IsCalling (calling : Calling) (d : Desk) (w : World) : Type 0 where
  pub context : Context
  pub found : context_at w calling.caller ≡ Some context
  pub goes_on : may_end context.status ≡ true
  pub left : Machine
  pub runs : may_end left.context.status ≡ true
  pub leaves : (refused : Bool) → own_step w.program refused (machine_of w context)
      ≡ leaves_to_world (calling_of calling.operator) left
  pub world : IsWorld d (with_machine calling.caller w left)

abbrev pub IsAtBy : Option Calling → Desk → World → Type 0
IsAtBy None d w = IsWorld d w
IsAtBy (Some calling) d w = IsCalling calling d w

abbrev pub IsAt : Held → World → Type 0
IsAt h w = IsAtBy h.calling h.desk w

-- ---- what holds in every memory

-- what runs or is unwinding has a frame; of a caller that isn't known
abbrev pub AreFramedBy : Option Calling → Desk → Type 0
AreFramedBy None d = AreFramed d.members
AreFramedBy (Some calling) d = AreFramedBut calling.caller d.members
    × RunsAt calling.caller d.members

pub record IsSteadyHeld (h : Held) : Type 0 where
  pub steady : IsSteady h.desk
  pub framed : AreFramedBy h.calling h.desk

-- how far the context of an identifier is
pub record CourseAt (identifier : ℕ) (course : Course) (members : List (Option Member)) : Type 0
  where
    pub member : Member
    pub found : item_at members identifier ≡ Some member
    pub is : member.course ≡ course

-- of one that runs, or is unwinding for a cause
abbrev pub course_in : (unwinding : Option Cause) → Course
course_in None = Running
course_in (Some cause) = Unwinding cause

-- no other context is calling
abbrev pub MayStep : Option Calling → (identifier : ℕ) → Type 0
MayStep None identifier = Unit {0}
MayStep (Some calling) identifier = calling.caller ≡ identifier
