-- When a turn of a loop, or an operator of control, that raises no error did what the definitions
-- say. The frame of the procedure that is entered is still to be pushed.
use Rattle.std.specs.Prelude.{ℕ, ◌+◌, ◌≤◌, ◌==◌, Bool, List, ◌∷◌, length, Ok, if◌then◌else◌}
use Rattle.ps_language.specs.declared.operators.Operator.{Operator}
use Rattle.ps_language.specs.Effect.{Scene}
use Rattle.ps_language.specs.Outcome.{Outcome}
use Rattle.ps_language.specs.Value.{Value}
use Rattle.ps_word.specs.declared.values.Part.{Part}
use Rattle.ps_mem.specs.Heap.{Heap}
use Rattle.ps_ops_control.specs.declared.ahead.Ahead.{Ahead}
use Rattle.ps_ops_control.specs.declared.ahead.Ahead.TheVariants.{Enters, Goes, Left}
use Rattle.ps_ops_control.specs.declared.frames.Frame.{Frame}
use Rattle.ps_ops_control.specs.declared.frames.Frame.TheVariants.{Procedure}
use Rattle.ps_ops_control.specs.Controls.{Stacks, stacks, Controls}
use Rattle.ps_ops_control.specs.Turns.{Turns}

-- ---- by what it came to

-- what enters no procedure, where it is done
abbrev pub done_ahead : Bool → Ahead
done_ahead done = if done then Goes else Left

-- entering a procedure; an empty one needs no frame
abbrev pub entered_ahead : (body : Part) → Ahead
entered_ahead body = if body.length == 0 then Goes else Enters body

-- the frames, with that of the procedure
abbrev pub frames_ahead : Ahead → List Frame → List Frame
frames_ahead (Enters body) frames = Procedure body ∷ frames
frames_ahead Goes frames = frames
frames_ahead Left frames = frames

-- so many frames have room above these, its own among them
abbrev pub HasRoom : (count : ℕ) → Ahead → List Frame → Type 0
HasRoom count (Enters body) frames = count + length frames ≤ 250
HasRoom count Goes frames = Unit {0}
HasRoom count Left frames = Unit {0}

-- a fact where nothing has changed, and one where something was done
abbrev pub OnLeft : Ahead → Type 0 → Type 0
OnLeft (Enters body) P = Unit {0}
OnLeft Goes P = Unit {0}
OnLeft Left P = P

abbrev pub OnDone : Ahead → Type 0 → Type 0
OnDone (Enters body) P = P
OnDone Goes P = P
OnDone Left P = Unit {0}

-- ---- what was done

abbrev pub with_entered : Ahead → Stacks → Stacks
with_entered ahead after = stacks after.operands (frames_ahead ahead after.frames)

-- a turn of the topmost frame; operator: whose frame it is
abbrev pub TurnsAhead : (operator : Operator) → Ahead → Heap → (size : ℕ) → (before after : Stacks)
    → Type 0
TurnsAhead operator ahead h size before after =
    OnDone ahead (Turns operator (Ok tt) h size before (with_entered ahead after))

-- an operator, by its row
abbrev pub ControlsAhead : (row : List Value → Scene → Outcome Scene) → Ahead → Heap → (size : ℕ)
    → (before after : Stacks) → Type 0
ControlsAhead row ahead h size before after =
    OnDone ahead (Controls row (Ok tt) h size before (with_entered ahead after))
