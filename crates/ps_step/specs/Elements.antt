-- Elements of a procedure that operands alone do (PLRM2, 3.5).
use Rattle.std.specs.Prelude.{◌≡◌, ℕ, ◌+◌, ◌≤◌, ◌<◌, Option, Some, None, Result, List, ◌∷◌, length}
use Rattle.ps_language.specs.Effect.{Around, Scene}
use Rattle.ps_language.specs.World.{Status}
use Rattle.ps_word.specs.declared.values.Part.{Part}
use Rattle.ps_word.specs.declared.words.Word.{Word}
use Rattle.ps_mem.specs.Heap.{Heap}
use Rattle.ps_ops_control.specs.declared.frames.Frame.{Frame}
use Rattle.ps_ops_control.specs.declared.frames.Frame.TheVariants.{Procedure}
use Rattle.ps_ops_state.specs.Acts.{Asked}
use Rattle.ps_ops_state.specs.Lent.{Lent, IsGood}
use Rattle.ps_step_frames.specs.declared.elements.Element.{Element}
use Rattle.ps_step_frames.specs.Steps.{above, frames_after, rest_frames, with_frames, IsElement}
use Rattle.ps_step_execute.specs.declared.quick.Fast.{Fast}
use Rattle.ps_step_execute.specs.declared.quick.Fast.TheVariants as fast
use Rattle.ps_step_execute.specs.Values.{Asks}
use Rattle.ps_step_outcome.specs.declared.turned.Turned.{Turned}
use Rattle.ps_ops_operands.specs.declared.failure.NotMade.{NotMade as Reason}
use Rattle.ps_step_interpreter.specs.Makes.{TurnsBehind}
use Rattle.ps_step_interpreter.specs.OwnSteps.{HasRun}
use Rattle.ps_step.specs.declared.runs.Begin.{Begin}
use Rattle.ps_step.specs.declared.runs.Begin.TheVariants.{Enters, Goes, Left}

-- what is lent over a heap, with these stacks
abbrev pub stacked : Heap → (dictionaries operands : List Word) → (frames : List Frame) → Lent
    → Lent
stacked heap dictionaries operands frames l =
    record l { heap = heap; dictionaries = dictionaries; operands = operands; frames = frames }

-- whatever else is lent, the first elements of a procedure, so many, are a step each, and change
-- operands alone
abbrev pub DoesTo : Heap → (dictionaries : List Word) → Part → (count : ℕ)
    → (old new : List Word) → Type 0
DoesTo heap dictionaries rest count old new =
    (l : Lent) (below : List Frame)
    → IsGood (stacked heap dictionaries old (frames_after 0 rest below) l)
    → HasRun count (stacked heap dictionaries old (frames_after 0 rest below) l)
    (stacked heap dictionaries new (frames_after count rest below) l)

-- and the one behind them enters this procedure, if its frame and that of what is left have room
abbrev pub DoesInto : Heap → (dictionaries : List Word) → Part → (count : ℕ) → (body : Part)
    → (old new : List Word) → Type 0
DoesInto heap dictionaries rest count body old new =
    (l : Lent) (below : List Frame) → 2 + length below ≤ 250
    → IsGood (stacked heap dictionaries old (frames_after 0 rest below) l)
    → HasRun (count + 1) (stacked heap dictionaries old (frames_after 0 rest below) l)
    (stacked heap dictionaries new (Procedure body ∷ frames_after (count + 1) rest below) l)

-- as many are done as may be, or the one behind them is within those
abbrev pub IsBehind : (most done : ℕ) → Fast Element → Type 0
IsBehind most done fast.Done = done ≡ most
IsBehind most done (fast.Enters body) = done < most
IsBehind most done (fast.Treats element) = done < most
IsBehind most done fast.Slow = done < most

-- so many are done, and the one behind them came to that
abbrev pub DoesFirst : Asks → Heap → (dictionaries : List Word) → Part → (done : ℕ) → Fast Element
    → (old new : List Word) → Type 0
DoesFirst asks heap dictionaries rest done fast.Done old new =
    DoesTo heap dictionaries rest done old new
DoesFirst asks heap dictionaries rest done (fast.Enters body) old new =
    DoesInto heap dictionaries rest done body old new
DoesFirst asks heap dictionaries rest done (fast.Treats element) old new =
    DoesTo heap dictionaries rest done old new
    × IsElement asks heap dictionaries rest done element
DoesFirst asks heap dictionaries rest done fast.Slow old new =
    DoesTo heap dictionaries rest done old new

-- so many steps were made, one at most, and the frame of the procedure that is above the frames has
-- room, with one above it
pub record BeginsWith (rest : Part) (made : ℕ) (old new : Lent) : Type 0 where
  pub few : made ≤ 1
  pub room : 2 + length new.frames ≤ 250
  pub makes : HasRun made old (above rest new)

-- how steps of the topmost frame begin
abbrev pub Begins : Begin → (old new : Lent) → Type 0
Begins (Enters rest made) old new = BeginsWith rest made old new
Begins Goes old new = HasRun 1 old new
Begins Left old new = new ≡ old

-- what a procedure's first element came to that is known: a step, behind which what is left of the
-- procedure is above the frames; or a turn that is told
abbrev pub ComesBy : (asks : Status → Around → Scene → Asked) → (slot : ℕ)
    → Option (Result Turned Reason) → Part → (old new : Lent) → Type 0
ComesBy asks slot None rest old new =
    (new.frames ≡ old.frames)
    × HasRun 1 (above rest old) (with_frames (rest_frames rest new.frames) new)
ComesBy asks slot (Some turn) rest old new = TurnsBehind asks slot 0 turn (above rest old) new
