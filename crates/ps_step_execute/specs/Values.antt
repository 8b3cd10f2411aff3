-- Executing a value, and doing an element of a procedure, over what is lent (PLRM2, 3.5).
use Rattle.std.specs.Prelude.{◌≡◌, ℕ, Bool, List, [], Ok, if◌then◌else◌}
use Rattle.ps_language.specs.declared.errors.ErrorName.TheVariants.{InvalidAccess}
use Rattle.ps_language.specs.declared.operators.Operator.{Operator}
use Rattle.ps_language.specs.Access.{is_executable}
use Rattle.ps_language.specs.Control.{with_frame, entered}
use Rattle.ps_language.specs.Effect.{Around, Scene}
use Rattle.ps_language.specs.Outcome.{given_that}
use Rattle.ps_language.specs.StepValues.{Turn, LookedUp, known, turned, operated, looked_up, pushed}
use Rattle.ps_language.specs.StepValues.{executed_what, treated, is_executable_name, executed, done}
use Rattle.ps_language.specs.Value.{What, operator_value, Value, Store}
use Rattle.ps_word.specs.declared.values.Part.{Part}
use Rattle.ps_word.specs.declared.words.Word.{Word}
use Rattle.ps_mem.specs.Heap.{Heap, birth_at}
use Rattle.ps_mem.specs.Meaning.{value_of, part_of}
use Rattle.ps_mem.specs.Shows.{IsValue, AreValues, IsWithin}
use Rattle.ps_ops_control.specs.declared.ahead.Ahead.{Ahead}
use Rattle.ps_ops_control.specs.declared.frames.Frame.{Frame}
use Rattle.ps_ops_control.specs.declared.frames.Frame.TheVariants.{Text}
use Rattle.ps_ops_control.specs.declared.frames.Source.TheVariants.{Text as TextOf}
use Rattle.ps_ops_control.specs.Ahead.{HasRoom, OnDone, OnLeft, done_ahead, frames_ahead}
use Rattle.ps_ops_control.specs.Frames.{frame_of}
use Rattle.ps_ops_state.specs.declared.lent.Attempt.{Attempt}
use Rattle.ps_ops_state.specs.Acts.{Asked}
use Rattle.ps_ops_state.specs.Lent.{Lent, scene_of, around_of, IsShown, IsGood}
use Rattle.ps_ops_state.specs.Attempts.{ordinary}
use Rattle.ps_ops_state.specs.Unframed.{under, IsUndone}
use Rattle.ps_step_outcome.specs.declared.turned.Turned.TheVariants.{Goes}
use Rattle.ps_step_execute.specs.declared.under.Under.{Under}
use Rattle.ps_step_execute.specs.declared.under.Under.TheVariants.{Done, Fails, Left}
use Rattle.ps_step_outcome.specs.Turns.{TurnsWith, none_asked}

-- ---- what is held

-- a value that stands, and is within each store that is shown
pub record IsLent (l : Lent) (word : Word) : Type 0 where
  pub held : IsValue l.heap word
  pub within : (s : Store) → IsShown l s → IsWithin (birth_at l.heap) l.names s word

-- ---- turns

-- the value of a word
abbrev pub meaning : Lent → Word → Value
meaning l word = value_of (birth_at l.heap) l.names word

-- a value becomes an operand
abbrev pub pushed_turn : (command word : Word) → Lent → Store → Turn
pushed_turn command word l s = pushed (meaning l command) (meaning l word) (scene_of l s)

-- one frame more
abbrev pub framed_turn : (command : Word) → Frame → Lent → Store → Turn
framed_turn command frame l s =
    turned (meaning l command) (scene_of l s)
    (with_frame (frame_of (birth_at l.heap) l.names frame) (scene_of l s))

-- a procedure is entered
abbrev pub entered_turn : (command : Word) → Part → Lent → Store → Turn
entered_turn command part l s =
    turned (meaning l command) (scene_of l s)
    (given_that (is_executable part.access) InvalidAccess
    (entered (part_of (birth_at l.heap) part) (scene_of l s)))

-- the frame of a string, from its begin on
abbrev pub string_frame : Part → Frame
string_frame part = Text (TextOf part) 0

-- a string is scanned
abbrev pub scanned_turn : (command : Word) → Part → Lent → Store → Turn
scanned_turn command part l s =
    turned (meaning l command) (scene_of l s)
    (given_that (is_executable part.access) InvalidAccess
    (with_frame (frame_of (birth_at l.heap) l.names (string_frame part)) (scene_of l s)))

-- an operator acts
abbrev pub operated_turn : Operator → Lent → Store → Turn
operated_turn operator l s = operated operator (around_of l) (scene_of l s)

-- an executable value, which is not looked up
abbrev pub executed_what_turn : (command word : Word) → Lent → Store → Turn
executed_what_turn command word l s =
    executed_what (meaning l command) (meaning l word) (meaning l word).what (around_of l)
    (scene_of l s)

-- a value as a name gives it
abbrev pub treated_turn : (command word : Word) → Lent → Store → Turn
treated_turn command word l s =
    treated (meaning l command) (meaning l word) (around_of l) (scene_of l s)

-- a value is executed
abbrev pub executed_turn : (command word : Word) → Lent → Store → Turn
executed_turn command word l s =
    executed (meaning l command) (meaning l word) (around_of l) (scene_of l s)

-- an element is done
abbrev pub done_turn : (command word : Word) → Lent → Store → Turn
done_turn command word l s =
    done (meaning l command) (meaning l word) (around_of l) (scene_of l s)

-- ---- what is asked for beside

-- by each operator, in a scene and what surrounds it
abbrev pub Asks : Type 0
Asks = Operator → Around → Scene → Asked

module _ (asks : Asks) where
  -- by an operator, and by nothing else
  abbrev pub what_asks : What → Around → Scene → Asked
  what_asks (operator_value operator) around scene = asks operator around scene
  what_asks what around scene = none_asked

  -- by an executable value
  abbrev pub value_asks : Value → Around → Scene → Asked
  value_asks value around scene =
      if value.executable then what_asks value.what around scene else none_asked

  -- by the value of a name
  abbrev pub found_asks : LookedUp → Around → Scene → Asked
  found_asks (known value) around scene = value_asks value around scene
  found_asks found around scene = none_asked

  -- by a value that is executed or done as an element
  abbrev pub done_asks : Value → Around → Scene → Asked
  done_asks value around scene =
      if is_executable_name value then
      found_asks (looked_up value scene.dictionaries scene.store) around scene
      else value_asks value around scene

  -- of what is lent: an operator
  abbrev pub operated_asks : Operator → Lent → Store → Asked
  operated_asks operator l s = asks operator (around_of l) (scene_of l s)

  -- a word by its content
  abbrev pub word_asks : Word → Lent → Store → Asked
  word_asks word l s = what_asks (meaning l word).what (around_of l) (scene_of l s)

  -- one that isn't looked up
  abbrev pub treated_asks : Word → Lent → Store → Asked
  treated_asks word l s = value_asks (meaning l word) (around_of l) (scene_of l s)

  -- one that is executed
  abbrev pub executed_asks : Word → Lent → Store → Asked
  executed_asks word l s = done_asks (meaning l word) (around_of l) (scene_of l s)

-- ---- by operands and frames alone

-- With these values in hand the turn goes on by operands and frames alone, whatever else is lent in
-- this setting and however it is tried, once the frame is pushed of the procedure that it enters,
-- if
-- that has room; or nothing has changed
abbrev pub EntersIn : (setting : Lent → Lent) → (words : List Word) → (asked : Lent → Store → Asked)
    → (turn : Lent → Store → Turn) → Ahead → (old new : List Word) → Type 0
EntersIn setting words asked turn came old new = OnLeft came (new ≡ old)
    × OnDone came ((l : Lent) (attempt : Attempt) → IsGood (record (setting l) { operands = old })
    → AreValues (setting l).heap words → HasRoom 1 came (setting l).frames
    → TurnsWith words [] asked turn attempt (Ok Goes) (record (setting l) { operands = old })
    (record (setting l) { operands = new; frames = frames_ahead came (setting l).frames }))

-- in every setting
abbrev pub EntersAlone : (words : List Word) → (asked : Lent → Store → Asked)
    → (turn : Lent → Store → Turn) → Ahead → (old new : List Word) → Type 0
EntersAlone words asked turn came old new = EntersIn (λ l. l) words asked turn came old new

-- by operands alone: it goes on, or nothing has changed
abbrev pub GoesAlone : (words : List Word) → (asked : Lent → Store → Asked)
    → (turn : Lent → Store → Turn) → (goes : Bool) → (old new : List Word) → Type 0
GoesAlone words asked turn goes old new =
    EntersAlone words asked turn (done_ahead goes) old new

-- ---- whatever frames are above

-- With these values in hand the ordinary turn goes on, and would under any more frames; or nothing
-- was done; or nothing has changed
abbrev pub GoesUnder : (words : List Word) → (asked : Lent → Store → Asked)
    → (turn : Lent → Store → Turn) → (slot : ℕ) → Under → (old new : Lent) → Type 0
GoesUnder words asked turn slot Done old new =
    (above : List Frame) → IsGood (under above old) → AreValues old.heap words
    → TurnsWith words [] asked turn (ordinary slot) (Ok Goes) (under above old) (under above new)
GoesUnder words asked turn slot Fails old new = IsUndone slot old new
GoesUnder words asked turn slot Left old new = new ≡ old

-- over this heap
abbrev pub over_heap : Heap → Lent → Lent
over_heap heap l = record l { heap = heap }

-- over this heap and by this dictionary stack
abbrev pub among : Heap → (dictionaries : List Word) → Lent → Lent
among heap dictionaries l = record l { heap = heap; dictionaries = dictionaries }
