-- A run that is made again step by step.
use Rattle.std.specs.Prelude.{take, ◌≡◌, ℕ, None, IfSome, List, [], ◌∷◌, if◌then◌else◌}
use Rattle.ps_language.specs.Locks.{is_ready}
use Rattle.ps_language.specs.declared.schedules.Entry.{Entry}
use Rattle.ps_language.specs.Schedules.{Move, moves}
use Rattle.ps_language.specs.World.{World}
use Rattle.ps_language.specs.Worlds.{after_move, starting_world}
use Rattle.ps_mem.specs.Heap.{Heap, Grants}
use Rattle.ps_language.specs.declared.kinds.Kind.TheVariants.{Dictionary}
use Rattle.ps_mem.specs.References.{StandsAs}
use Rattle.ps_ops_control.specs.Frames.{IsFrame}
use Rattle.ps_ops_state.specs.declared.lent.Runtime.{Runtime}
use Rattle.ps_walks.specs.declared.before.Before.{Before}
use Rattle.ps_ctx_table.specs.Desks.{Desk, IsWorld}
use Rattle.ps_ctx.specs.Calls.{over_of}
use Rattle.ps_ctx.specs.Held.{held, IsSteadyHeld}
use Rattle.ps_ctx.specs.declared.worlds.World.{World as Contexts}

-- the world in which no line of an error was printed yet
abbrev pub without_lines : World → World
without_lines now = record now { error_lines = 0 }

-- the world behind a step, where the context is ready: its error lines are those of that step
abbrev pub walked : World → Move → World
walked now move =
    let fresh : World = without_lines now in
    if is_ready fresh move.context then after_move fresh move else fresh

-- step after step
unfoldable pub walked_all : World → List Move → World
walked_all now [] = now
walked_all now (move ∷ rest) = walked_all (walked now move) rest

-- all contexts, with what they share
abbrev pub desk_in : {M : Type 0} → (M → Heap) → (M → Grants) → Runtime M → Contexts → Desk
desk_in heap grants runtime world = over_of heap grants runtime world.contexts

-- they stand at a world, and no call waits
pub record Stands {M : Type 0} (heap : M → Heap) (grants : M → Grants) (runtime : Runtime M)
    (world : Contexts) : Type 0 where
  pub steady : IsSteadyHeld (held (desk_in heap grants runtime world) None)
  pub calling : world.calling ≡ None
  pub at : (w : World) × IsWorld (desk_in heap grants runtime world) w

-- what is known of a context refers to what stands
pub record IsBefore (h : Heap) (before : Before) : Type 0 where
  pub frame : IfSome before.frame (λ frame. (size : ℕ) × IsFrame h size frame)
  pub error : IfSome before.error_dictionary (λ address. StandsAs h Dictionary address 4)

-- the world behind so many steps of a program's schedule
abbrev pub world_behind : (program : List ℕ) → (schedule : List Entry) → (steps : ℕ) → World
world_behind program schedule steps =
    walked_all (starting_world program) (take steps (moves schedule))
