-- A step by the topmost frame, and one of an unwinding, over what is lent (PLRM2, 3.4, 3.5, 3.10).
use Rattle.std.specs.Prelude.{◌≡◌, ℕ, ◌+◌, ◌-◌, Bool, true, false, List, [], ◌∷◌, drop, nat_lt, slice_get, Option, Some, None, Result, Ok, Err, if◌then◌else◌}
use Rattle.ps_language.specs.declared.errors.ErrorName.{ErrorName}
use Rattle.ps_language.specs.declared.operators.Operator.{Operator}
use Rattle.ps_language.specs.Access.{elements, part_elements}
use Rattle.ps_language.specs.Control as control
use Rattle.ps_language.specs.Value.{Part as PartValue, Dictionary, Store}
use Rattle.ps_language.specs.World as world
use Rattle.ps_language.specs.World.{for_stop, running, unwinding}
use Rattle.ps_language.specs.Effect.{Around, Scene}
use Rattle.ps_language.specs.StepValues.{Turn, breaks, errs, leads, command_of, looked_up}
use Rattle.ps_language.specs.StepFrames as language
use Rattle.ps_language.specs.StepFrames.{element_at, freed, stopped_turn}
use Rattle.ps_language.specs.Machines.{turn_as}
use Rattle.ps_word.specs.declared.values.Part.{Part}
use Rattle.ps_word.specs.declared.words.Word.{Word}
use Rattle.ps_mem.specs.Heap.{Heap, birth_at}
use Rattle.ps_mem.specs.Meaning.{part_of, value_of}
use Rattle.ps_mem.specs.Shows.{IsValue, IsWithin, Shows}
use Rattle.ps_ops_control.specs.declared.frames.Cause.{Cause}
use Rattle.ps_ops_control.specs.declared.frames.Frame.{Frame}
use Rattle.ps_ops_control.specs.declared.frames.Frame.TheVariants.{Text, Procedure}
use Rattle.ps_ops_control.specs.declared.ahead.Ahead.{Ahead}
use Rattle.ps_ops_control.specs.Ahead.{OnDone, frames_ahead}
use Rattle.ps_ops_control.specs.Controls.{Stacks}
use Rattle.ps_ops_control.specs.Turns.{cause_of}
use Rattle.ps_ops_state.specs.declared.lent.Attempt.{Attempt}
use Rattle.ps_ops_state.specs.Acts.{Asked, no_rooms}
use Rattle.ps_ops_state.specs.Lent.{Lent, scene_of, around_of, IsGood}
use Rattle.ps_ops_state.specs.Attempts.{ordinary}
use Rattle.ps_ops_state.specs.Unframed.{IsUndone}
use Rattle.ps_step_outcome.specs.declared.turned.Turned.{Turned}
use Rattle.ps_step_outcome.specs.declared.turned.Turned.TheVariants.{Goes, Breaks, Ends}
use Rattle.ps_step_outcome.specs.Turns.{is_told, none_asked, break_turn, Turns, TurnsWith}
use Rattle.ps_step_execute.specs.declared.under.Under.{Under}
use Rattle.ps_step_execute.specs.declared.under.Under.TheVariants as under
use Rattle.ps_step_execute.specs.Quick.{TreatsAs}
use Rattle.ps_step_execute.specs.Values.{Asks, done_asks, treated_asks, treated_turn}
use Rattle.ps_step_frames.specs.declared.elements.Element.{Element}
use Rattle.ps_step_frames.specs.Binds.{replaces}

-- ---- turns

-- a step of a running context
abbrev pub running_turn : Lent → Store → Turn
running_turn l s = turn_as (around_of l) running (scene_of l s).frames (scene_of l s)

-- one of an unwinding
abbrev pub unwinding_turn : Cause → Lent → Store → Turn
unwinding_turn cause l s =
    turn_as (around_of l) (unwinding (cause_of cause)) (scene_of l s).frames (scene_of l s)

-- what operands and frames alone came to: they stand as they are to, or an error is to be raised
abbrev pub settled_turn : Operator → Result Unit ErrorName → Scene → Turn
settled_turn operator (Ok _) scene = leads scene
settled_turn operator (Err error) scene = errs error (command_of operator) scene

-- the same of what is lent
abbrev pub outcome_turn : Operator → Result Unit ErrorName → Lent → Store → Turn
outcome_turn operator outcome l s = settled_turn operator outcome (scene_of l s)

-- the boolean that stopped leaves
abbrev pub truth_turn : Bool → Lent → Store → Turn
truth_turn truth l s = stopped_turn truth (scene_of l s).frames (scene_of l s)

-- an unwinding once the frame has gone: it ends at a loop or at the frame of stopped, or goes on
abbrev pub gone_turn : (loop stopped : Bool) → Cause → Lent → Store → Turn
gone_turn true stopped cause l s = leads (scene_of l s)
gone_turn false true cause l s = truth_turn true l s
gone_turn false false cause l s = break_turn (cause_of cause) l s

-- an unwinding once the frame of a monitor has gone, whose lock is freed
abbrev pub releasing_turn : Cause → (lock : ℕ) → Lent → Store → Turn
releasing_turn cause lock l s =
    breaks (cause_of cause) (freed (birth_at l.heap lock) (scene_of l s).frames (scene_of l s))

-- whether an unwinding tells the error of its context's end
abbrev pub tells : world.Cause → List world.Frame → Dictionary → Bool
tells for_stop frames d = is_told frames d
tells cause frames d = false

-- what one comes to that tells none
abbrev pub untold : Cause → List Frame → Turned
untold cause [] = Ends false
untold cause (frame ∷ frames) = Breaks cause

-- ---- frames

-- what is left of a procedure behind so many elements
abbrev pub part_behind : (count : ℕ) → Part → Part
part_behind count rest =
    record rest { offset = rest.offset + count; length = rest.length - count }

-- once so many elements of a procedure were taken: the last takes the frame with it
abbrev pub frames_after : (count : ℕ) → Part → (below : List Frame) → List Frame
frames_after count rest below =
    if nat_lt count rest.length then Procedure (part_behind count rest) ∷ below else below

-- once the first was
abbrev pub rest_frames : Part → (below : List Frame) → List Frame
rest_frames rest below = frames_after 1 rest below

-- what is left of a procedure, where that is the frame
abbrev pub procedure_in : Option Frame → Option Part
procedure_in (Some (Procedure rest)) = Some rest
procedure_in _ = None

-- the element at a place of what is left of a procedure: its word, and the value as which it is
-- treated over this heap and by this dictionary stack
pub record IsElement (asks : Asks) (heap : Heap) (dictionaries : List Word) (rest : Part)
    (place : ℕ) (element : Element) : Type 0 where
  pub held : IsValue heap element.word
  pub reads : (names : List (List ℕ)) (s : Store) → Shows heap names s
      → slice_get (elements s (birth_at heap rest.address)) (rest.offset + place)
      ≡ Some (value_of (birth_at heap) names element.word)
  pub within : (names : List (List ℕ)) (s : Store) → Shows heap names s
      → IsWithin (birth_at heap) names s element.word
  pub value_held : IsValue heap element.value
  pub treats : TreatsAs asks heap dictionaries element.word element.value

-- those by which steps are made here
abbrev pub is_stepped : Frame → Bool
is_stepped (Text source at) = false
is_stepped frame = true

-- other frames
abbrev pub with_frames : List Frame → Lent → Lent
with_frames frames l = record l { frames = frames }

-- ---- what is asked for beside, in a scene and what surrounds it

-- of bind: a record where an element is replaced, and room for the words of those that are left
abbrev pub bound_asks : (over : PartValue) → (at : ℕ) → Scene → Asked
bound_asks over at scene = record {
  records = if replaces (λ name. looked_up name scene.dictionaries scene.store)
      (drop at (part_elements scene.store over)) then 1 else 0;
  scratch = record no_rooms { words = over.count - at };
}

-- of a lock that is freed: its record
abbrev pub freeing_asked : Asked
freeing_asked = record { records = 1; scratch = no_rooms }

abbrev pub lock_asks : Lent → Store → Asked
lock_asks l s = freeing_asked

module _ (asks : Asks) where
  -- by the frames, the topmost first
  abbrev pub top_asks : List world.Frame → Around → Scene → Asked
  top_asks (world.procedure_frame rest ∷ below) around scene =
      done_asks asks (element_at scene.store rest 0) around
      (control.with_frames (language.rest_frames rest below) scene)
  top_asks (world.pending_frame value ∷ below) around scene =
      done_asks asks value around (control.with_frames below scene)
  top_asks (world.bind_frame over at depth ∷ below) around scene = bound_asks over at scene
  top_asks (world.monitor_frame lock ∷ below) around scene = freeing_asked
  top_asks frames around scene = none_asked

  -- of a step of a running context, as it is lent
  abbrev pub frame_asks : Lent → Store → Asked
  frame_asks l s = top_asks (scene_of l s).frames (around_of l) (scene_of l s)

-- once the frame is pushed of the procedure that is entered
abbrev pub with_entered : Ahead → Lent → Lent
with_entered came l = with_frames (frames_ahead came l.frames) l

-- a procedure above the frames
abbrev pub above : Part → Lent → Lent
above rest l = with_frames (Procedure rest ∷ l.frames) l

-- the turn of the topmost frame goes on, however it is tried, once the frame is pushed of the
-- procedure that it enters
abbrev pub GoesAhead : Asks → Ahead → (old new : Lent) → Type 0
GoesAhead asks came old new = OnDone came ((attempt : Attempt)
    → Turns (frame_asks asks) running_turn attempt (Ok Goes) old (with_entered came new))

-- the ordinary turn of a procedure above the frames goes on, of which what is left is above them;
-- or
-- nothing was done; or nothing has changed
abbrev pub DoesUnder : Asks → Part → (slot : ℕ) → Under → (old new : Lent) → Type 0
DoesUnder asks rest slot under.Done old new =
    Turns (frame_asks asks) running_turn (ordinary slot) (Ok Goes) (above rest old)
    (with_frames (rest_frames rest new.frames) new)
DoesUnder asks rest slot under.Fails old new = IsUndone slot old new
DoesUnder asks rest slot under.Left old new = new ≡ old

-- whatever is lent beside these stacks and however it is tried, treating a value goes on by them
-- alone
abbrev pub TreatsTo : (value : Word) → (old new : Stacks) → Type 0
TreatsTo value old new =
    (asks : Asks) (command : Word) (l : Lent) (attempt : Attempt)
    → IsGood (record l { operands = old.operands; frames = old.frames })
    → TurnsWith (value ∷ command ∷ []) [] (treated_asks asks value) (treated_turn command value)
    attempt (Ok Goes) (record l { operands = old.operands; frames = old.frames })
    (record l { operands = new.operands; frames = new.frames })

-- of bind, in what is lent
abbrev pub bind_asks : (over : Part) → (at : ℕ) → Lent → Store → Asked
bind_asks over at l s = bound_asks (part_of (birth_at l.heap) over) at (scene_of l s)

-- of one frame of an unwinding
abbrev pub unwound_asks : List world.Frame → Asked
unwound_asks (world.monitor_frame lock ∷ below) = freeing_asked
unwound_asks frames = none_asked

-- of an unwinding, as it is lent
abbrev pub unwinding_asks : Lent → Store → Asked
unwinding_asks l s = unwound_asks (scene_of l s).frames
