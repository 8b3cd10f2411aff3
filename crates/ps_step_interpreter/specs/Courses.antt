-- When a context over a memory is at a machine of the definitions (PLRM2, 3.4, 3.10).
use Rattle.std.specs.Prelude.{◌≡◌, ℕ, Bool, true, false, Option, Some, None, List, [], ◌∷◌}
use Rattle.ps_language.specs.Machines as machines
use Rattle.ps_language.specs.Machines.{may_end, leaves_to_world, own_step}
use Rattle.ps_step_outcome.specs.declared.world_operators.WorldOperator.{WorldOperator}
use Rattle.ps_language.specs.World.{Status, running, unwinding, finished, Machine}
use Rattle.ps_mem.specs.Heap.{birth_at}
use Rattle.ps_ops_control.specs.declared.frames.Frame.{Frame}
use Rattle.ps_ops_control.specs.declared.frames.Cause.{Cause}
use Rattle.ps_ops_control.specs.Turns.{cause_of}
use Rattle.ps_ops_state.specs.Lent.{Lent, scene_of, IsShown, IsGood}
use Rattle.ps_step_outcome.specs.declared.turned.Turned.{Turned}
use Rattle.ps_step_outcome.specs.declared.turned.Turned.TheVariants.{Goes, Calls, Breaks, Ends}
use Rattle.ps_step_outcome.specs.Turns.{calling_of}
use Rattle.ps_step_interpreter.specs.declared.courses.AloneCourse.{AloneCourse}
use Rattle.ps_step_interpreter.specs.declared.courses.AloneCourse.TheVariants.{Running, Unwinding, Calling}
use Rattle.ps_step_interpreter.specs.declared.courses.AloneCourse.TheVariants.{Finished}

-- what is lent, how far the context is, and how many lines of errors were printed
pub record Held : Type 0 where
  pub lent : Lent
  pub course : AloneCourse
  pub error_lines : ℕ

abbrev pub held : Lent → AloneCourse → ℕ → Held
held l course lines = record { lent = l; course = course; error_lines = lines }

-- ---- how far it is

-- whether there is another step
abbrev pub has_steps : AloneCourse → Bool
has_steps Finished = false
has_steps course = true

-- of a context that runs, or is unwinding for a cause
abbrev pub course_in : (unwinding : Option Cause) → AloneCourse
course_in None = Running
course_in (Some cause) = Unwinding cause

-- after a turn that left these frames
abbrev pub course_after : Turned → List Frame → AloneCourse
course_after Goes [] = Finished
course_after Goes (frame ∷ frames) = Running
course_after (Calls operator) frames = Calling operator
course_after (Breaks cause) frames = Unwinding cause
course_after (Ends told) frames = Finished

-- what goes on where a frame is left, and has ended where none is
abbrev pub going : Lent → Held
going l = held l (course_after Goes l.frames) 0

-- ---- what it stands for

-- what is lent is that of a machine in this status
pub record IsLentBy (l : Lent) (status : Status) (lines : ℕ) (machine : Machine) : Type 0 where
  pub shown : IsShown l machine.store
  pub scene : scene_of l machine.store ≡ machines.scene_of machine
  pub is_so : machine.context.status ≡ status
  pub error_dictionary : machine.context.error_dictionary ≡ birth_at l.heap l.error_dictionary
  pub printed : machine.printed ≡ l.printed
  pub error_lines : machine.error_lines ≡ lines

-- the step of a machine leaves this operator to the world, refused or not, and what is lent is that
-- of the machine that it leaves
pub record IsCalling (l : Lent) (operator : WorldOperator) (lines : ℕ) (machine : Machine)
    : Type 0 where
  pub left : Machine
  pub lent : IsLentBy l running lines left
  pub goes_on : may_end machine.context.status ≡ true
  pub leaves : (refused : Bool)
      → own_step l.program refused machine ≡ leaves_to_world (calling_of operator) left

-- by how far it is
abbrev pub IsAtBy : AloneCourse → Lent → (lines : ℕ) → Machine → Type 0
IsAtBy Running l lines machine = IsLentBy l running lines machine
IsAtBy (Unwinding cause) l lines machine = IsLentBy l (unwinding (cause_of cause)) lines machine
IsAtBy (Calling operator) l lines machine = IsCalling l operator lines machine
IsAtBy Finished l lines machine = IsLentBy l finished lines machine

abbrev pub IsAt : Held → Machine → Type 0
IsAt h machine = IsAtBy h.course h.lent h.error_lines machine

-- ---- what holds of it in every memory

-- what runs or is unwinding has a frame
abbrev pub HasFrame : AloneCourse → List Frame → Type 0
HasFrame Running [] = ⊥
HasFrame (Unwinding cause) [] = ⊥
HasFrame course frames = Unit {0}

-- what is lent is good, and no line of an error was printed before the end
pub record IsSteady (h : Held) : Type 0 where
  pub good : IsGood h.lent
  pub framed : HasFrame h.course h.lent.frames
  pub counted : has_steps h.course ≡ true → h.error_lines ≡ 0
