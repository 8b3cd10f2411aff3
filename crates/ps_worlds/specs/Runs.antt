-- A program's runs, as a search by worlds makes them.
use Rattle.std.specs.Prelude.{◌≡◌, ◌<◌, ◌≤◌, ℕ, suc, Bool, true, false, None, List, get_or, length}
use Rattle.ps_language.specs.Locks.{is_ready}
use Rattle.ps_language.specs.Schedules.{moves}
use Rattle.ps_language.specs.World.{World}
use Rattle.ps_language.specs.Worlds.{after_moves, starting_world}
use Rattle.ps_mem.specs.Heap.{Heap, Grants}
use Rattle.ps_ctx.specs.Calls.{over_of}
use Rattle.ps_ctx.specs.Held.{Held, held}
use Rattle.ps_ctx_table.specs.Desks.{Desk, IsWorld}
use Rattle.ps_cuts.specs.Cuts.{AllPlain, steps_by}
use Rattle.ps_run_schedules.specs.Keeping.{Kept}
use Rattle.ps_vault.specs.Stories.{Keeps}
use Rattle.ps_worlds.specs.declared.images.Image.{Image}
use Rattle.ps_worlds.specs.declared.runs.WorldRun.{WorldRun}
use Rattle.ps_worlds.specs.Images.{IsImageOf}

-- all contexts of a run over its memory, its own steps so far, and which contexts it says are ready
pub record Standing : Type 0 where
  pub held : Held
  pub path : Kept
  pub ready : List Bool  -- by identifiers

abbrev pub standing : {M S D : Type 0} → (M → Heap) → (M → Grants) → WorldRun M S D → Standing
standing heap grants run = record {
  held = held (over_of heap grants run.runtime run.world.contexts) run.world.calling;
  path = run.path;
  ready = run.ready.items;
}

-- ---- which contexts are ready

-- of the identifiers above another the least is at this place
pub record IsFirstTrue (ready : List Bool) (after next : ℕ) : Type 0 where
  pub place : ℕ
  pub is : next ≡ suc place
  pub above : after ≤ place
  pub here : get_or ready place false ≡ true
  pub first : (k : ℕ) → after ≤ k → k < place → get_or ready k false ≡ false

-- there is none
abbrev pub IsNoneTrue : (ready : List Bool) → (after : ℕ) → Type 0
IsNoneTrue ready after = (k : ℕ) → after ≤ k → get_or ready k false ≡ false

-- so it is in each world that the run is at
pub record AreReady (run : Standing) : Type 0 where
  pub few : length run.ready ≤ 2147483647
  pub each : (w : World) → IsWorld run.held.desk w → (place : ℕ)
      → get_or run.ready place false ≡ is_ready w (suc place)

-- ---- runs

-- a schedule has ordinary steps of these contexts
abbrev pub MakesPath : Kept → (path : List ℕ) → Type 0
MakesPath schedule path = moves schedule.items ≡ steps_by path

-- the world behind ordinary steps of these contexts
abbrev pub world_by : (program path : List ℕ) → World
world_by program path = after_moves (starting_world program) (steps_by path)

-- all of a run under way: its contexts are steady and at the world of its steps, each of which was
-- one that could be made; no call waits, and its steps are ordinary ones
pub record IsMade (run : Standing) : Type 0 where
  pub keeps : Keeps run.held run.path.items
  pub calling : run.held.calling ≡ None
  pub plain : AllPlain (moves run.path.items)

-- and that, of this program; it says which contexts are ready
pub record IsRun (program : List ℕ) (run : Standing) : Type 0 where
  pub same : run.held.desk.program ≡ program
  pub made : IsMade run
  pub ready : AreReady run

-- a run is where ordinary steps of these contexts lead, which may be others than its own
abbrev pub IsAt : (program : List ℕ) → Standing → (path : List ℕ) → Type 0
IsAt program run path = IsWorld run.held.desk (world_by program path)

-- an image is of where they lead: of contexts that are there
pub record IsImage (program first : List ℕ) (image : Image) (path : List ℕ) : Type 0 where
  pub desk : Desk
  pub same : desk.program ≡ program
  pub of : IsImageOf first desk image
  pub at : IsWorld desk (world_by program path)
