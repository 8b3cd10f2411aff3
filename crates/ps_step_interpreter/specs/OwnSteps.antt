-- Ordinary steps of a running context, none of which leaves an operator to the world (PLRM2, 3.5).
use Rattle.std.specs.Prelude.{◌≡◌, ℕ, zero, suc, false, Option, Some, None, option_and_then, List}
use Rattle.std.specs.Prelude.{[], ◌∷◌, if◌then◌else◌}
use Rattle.ps_language.specs.Machines.{may_end, Reached, reaches, leaves_to_world, own_step}
use Rattle.ps_language.specs.World.{Status, running, finished, Machine}
use Rattle.ps_mem.specs.Keeps.{Keeps}
use Rattle.ps_ops_control.specs.declared.frames.Frame.{Frame}
use Rattle.ps_ops_state.specs.Acts.{Lasts, Stays}
use Rattle.ps_ops_state.specs.Lent.{Lent, IsGood}
use Rattle.ps_step_interpreter.specs.Courses.{IsLentBy}

-- the machine that was reached, where no operator is left to the world
abbrev pub machine_in : Reached → Option Machine
machine_in (reaches machine) = Some machine
machine_in (leaves_to_world calling machine) = None

-- after an ordinary step of a context that isn't over
abbrev pub own_next : (program : List ℕ) → Machine → Option Machine
own_next program machine =
    if may_end machine.context.status then machine_in (own_step program false machine) else None

-- after so many
unfoldable pub own_after : (program : List ℕ) → (made : ℕ) → Machine → Option Machine
own_after program zero machine = Some machine
own_after program (suc made) machine =
    option_and_then (own_next program) (own_after program made machine)

-- a context goes on where a frame is left, and is finished where none is
abbrev pub status_with : List Frame → Status
status_with [] = finished
status_with (frame ∷ frames) = running

-- what a machine came to by so many own steps: what is lent is that of the next machine, which is
-- in
-- this status, and whose context is detached as it was; no string is shorter, and no line of an
-- error
-- was printed
pub record ComesAs (program : List ℕ) (made : ℕ) (machine : Machine) (status : Status) (new : Lent)
    : Type 0 where
  pub next : Machine
  pub steps : own_after program made machine ≡ Some next
  pub lent : IsLentBy new status machine.error_lines next
  pub lasts : Lasts machine.store next.store
  pub detached : next.context.is_detached ≡ machine.context.is_detached

-- so many own steps were made, behind which the status is this, from every machine whose is what
-- was
-- lent
pub record HasCome (made : ℕ) (status : Status) (old new : Lent) : Type 0 where
  pub comes : (machine : Machine)
      → IsLentBy old (status_with old.frames) machine.error_lines machine
      → ComesAs old.program made machine status new
  pub good : IsGood new
  pub keeps : Keeps old.heap new.heap
  pub stays : Stays old new

-- and the context goes on
abbrev pub ComesTo : (program : List ℕ) → (made : ℕ) → Machine → (new : Lent) → Type 0
ComesTo program made machine new = ComesAs program made machine (status_with new.frames) new

abbrev pub HasRun : (made : ℕ) → (old new : Lent) → Type 0
HasRun made old new = HasCome made (status_with new.frames) old new
