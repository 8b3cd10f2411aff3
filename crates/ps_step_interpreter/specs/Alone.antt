-- A context by itself, for which operators on contexts, locks and the shown memory are not there
-- (PLRM2, 3.5, 3.10, 7.1).
use Rattle.std.specs.Prelude.{ℕ, ◌&&◌, ◌==◌, Bool, true, IsTrue, List, [], ◌∷◌, if◌then◌else◌}
use Rattle.ps_language.specs.declared.errors.ErrorName.TheVariants.{Undefined}
use Rattle.ps_language.specs.declared.schedules.Entry.{Entry}
use Rattle.ps_language.specs.Machines.{failed, may_end, settled, Reached, reaches, leaves_to_world}
use Rattle.ps_language.specs.Machines.{own_step}
use Rattle.ps_language.specs.Schedules.{Move, moves}
use Rattle.ps_language.specs.StepValues.{command_of}
use Rattle.ps_language.specs.World.{Machine}
use Rattle.ps_ctx_start.specs.Starts.{first_machine}

-- ---- a step

-- an operator that is left to the world is undefined
abbrev pub alone_reached : Reached → Machine
alone_reached (reaches machine) = machine
alone_reached (leaves_to_world calling machine) =
    settled (failed Undefined (command_of calling.operator) machine)

unfoldable pub alone_step : (program : List ℕ) → (refused : Bool) → Machine → Machine
alone_step program refused machine = alone_reached (own_step program refused machine)

-- ---- schedules

-- the one context is number 1, and ready until it is finished
unfoldable pub is_alone_ready : Machine → (context : ℕ) → Bool
is_alone_ready machine context = (context == 1) && may_end machine.context.status

-- a step of a context that isn't ready changes nothing
unfoldable pub after_alone_move : (program : List ℕ) → Machine → Move → Machine
after_alone_move program machine move =
    if is_alone_ready machine move.context then alone_step program move.refused machine
    else machine

-- step after step
unfoldable pub after_alone_moves : (program : List ℕ) → Machine → List Move → Machine
after_alone_moves program machine [] = machine
after_alone_moves program machine (move ∷ rest) =
    after_alone_moves program (after_alone_move program machine move) rest

-- the context of a program after a schedule
unfoldable pub alone_machine : (program : List ℕ) → (schedule : List Entry) → Machine
alone_machine program schedule = after_alone_moves program (first_machine program) (moves schedule)

-- the bytes that it printed
unfoldable pub alone_printed : (program : List ℕ) → (schedule : List Entry) → List ℕ
alone_printed program schedule = (alone_machine program schedule).printed

-- whether each step is one of a context that is ready just before it
abbrev pub all_alone_ready : (program : List ℕ) → Machine → List Move → Bool
all_alone_ready program machine [] = true
all_alone_ready program machine (move ∷ rest) =
    is_alone_ready machine move.context
    && all_alone_ready program (after_alone_move program machine move) rest

-- a schedule all of whose steps are made
unfoldable pub IsAloneProper : (program : List ℕ) → (schedule : List Entry) → Type 0
IsAloneProper program schedule =
    IsTrue (all_alone_ready program (first_machine program) (moves schedule))
