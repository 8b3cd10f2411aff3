-- A turn of a loop that raises no error goes on, as does a procedure that waits; after any other
-- nothing has changed.
use Rattle.std.proofs.Common.{◌≡◌, ◌+◌, ◌≤◌, List, [], ◌∷◌, drop, Some, Ok, length, true, refl, sym}
use Rattle.ps_language.specs.declared.operators.Operator.{Operator}
use Rattle.ps_language.specs.Access.{is_executable}
use Rattle.ps_language.specs.Value.{Store}
use Rattle.ps_word.specs.declared.values.Content.TheVariants.{Array}
use Rattle.ps_word.specs.declared.values.Part.{Part}
use Rattle.ps_word.specs.Format.{content_in, executable_in}
use Rattle.ps_mem.specs.Shows.{IsValue}
use Rattle.ps_word.specs.declared.words.Word.{Word}
use Rattle.ps_stacks.specs.Tops.{first_of}
use Rattle.ps_ops_control.specs.declared.ahead.Ahead.{Ahead}
use Rattle.ps_ops_control.specs.declared.ahead.Ahead.TheVariants as variants
use Rattle.ps_ops_control.specs.declared.frames.Frame.{Frame}
use Rattle.ps_ops_control.specs.declared.frames.Frame.TheVariants.{Pending, Procedure}
use Rattle.ps_ops_control.specs.Ahead.{OnLeft, TurnsAhead, entered_ahead}
use Rattle.ps_ops_control.specs.Controls as controls
use Rattle.ps_ops_control.specs.Turns as control
use Rattle.ps_ops_state.specs.declared.lent.Attempt.{Attempt}
use Rattle.ps_ops_state.specs.Lent.{Lent, IsGood}
use Rattle.ps_step_outcome.specs.declared.turned.Turned.TheVariants.{Goes}
use Rattle.ps_step_outcome.specs.Turns.{IsShownWith, Turns, TurnsWith, nothing_more}
use Rattle.ps_step_outcome.proofs.Composing.{composes, restacked, restacked_good}
use Rattle.ps_step_execute.specs.Values.{Asks, EntersAlone, executed_asks, executed_turn, treated_asks, treated_turn}
use Rattle.ps_step_execute.proofs.Entering.{procedure_enters}
use Rattle.ps_step_execute.proofs.Executing.{executed_treated, unnamed}
use Rattle.ps_step_frames.specs.Steps.{running_turn, frame_asks, with_frames, GoesAhead}
use Rattle.ps_step_frames.proofs.Framing.{below_good}
use Rattle.ps_step_frames.proofs.Joining.{framed_asks, joined}
use Rattle.ps_step_frames.proofs.Settling.{went}
use Rattle.ps_step_frames.proofs.Taking.{waiting_asks, waiting_held, waiting_is, waiting_shown}

module _ (l : Lent) (good : IsGood l) (operator : Operator) (top frame : Frame)
    (same : top ≡ frame) (is : first_of l.frames ≡ Some top)
    (nothing : (asks : Asks) (s : Store)
    → framed_asks asks l (frame ∷ drop 1 l.frames) s ≡ nothing_more l s) where
  abbrev Comes : (operands : List Word) → (frames : List Frame) → Type 0
  Comes operands frames = control.Turns operator (Ok tt) l.heap (length l.program)
      (controls.stacks l.operands l.frames) (controls.stacks operands frames)

  pub goes_so : (operands : List Word) (frames : List Frame) → Comes operands frames
      → (asks : Asks) (attempt : Attempt)
      → Turns (frame_asks asks) running_turn attempt (Ok Goes) l (restacked l operands frames)
  goes_so operands frames did asks attempt =
      joined asks l (restacked l operands frames) attempt (Ok Goes) top frame same is (nothing asks)
      (went l good attempt operator operands frames did)

  pub ahead : (came : Ahead) (operands : List Word) (frames : List Frame)
      → TurnsAhead operator came l.heap (length l.program) (controls.stacks l.operands l.frames)
      (controls.stacks operands frames)
      → (asks : Asks) → GoesAhead asks came l (restacked l operands frames)
  ahead (variants.Enters body) operands frames did asks =
      goes_so operands (Procedure body ∷ frames) did asks
  ahead variants.Goes operands frames did asks = goes_so operands frames did asks
  ahead variants.Left operands frames did asks = tt

-- ---- a procedure that waits

module _ (l : Lent) (good : IsGood l) (word : Word)
    (top : l.frames ≡ Pending word ∷ drop 1 l.frames) (flag : executable_in word.0 ≡ true)
    (part : Part) (content : content_in word.0 ≡ Array part)
    (may : is_executable part.access ≡ true) (asks : Asks) where
  abbrev below : Lent
  below = with_frames (drop 1 l.frames) l

  below_is : IsGood below
  below_is = restacked_good l l.operands (drop 1 l.frames) (below_good l good) good

  -- it is treated over the frames below its own
  over : (new : Lent) (attempt : Attempt)
      → TurnsWith (word ∷ word ∷ []) [] (treated_asks asks word) (treated_turn word word) attempt
      (Ok Goes) below new
      → Turns (frame_asks asks) running_turn attempt (Ok Goes) l new
  over new attempt turns =
      composes l l.operands (drop 1 l.frames) (frame_asks asks) (executed_asks asks word)
      running_turn (executed_turn word word) attempt (IsShownWith (word ∷ word ∷ []) [])
      (waiting_shown l word (drop 1 l.frames) top) (waiting_is l word (drop 1 l.frames) top)
      (waiting_asks l word (drop 1 l.frames) top asks) Goes new
      (executed_treated asks word word below attempt (Ok Goes) new
      (unnamed _ _ word (Array part) (sym content) flag (λ x is. cc)) turns)

  pub waits_ahead : (came : Ahead) → came ≡ entered_ahead part
      → 1 + length (drop 1 l.frames) ≤ 250 → GoesAhead asks came l below
  waits_ahead came is room =
      by came (procedure_enters asks word word flag part content may l.operands came is)
    where
      held : IsValue l.heap word
      held = waiting_held l word (drop 1 l.frames) top good

      by : (came : Ahead)
          → EntersAlone (word ∷ word ∷ []) (treated_asks asks word) (treated_turn word word) came
          l.operands l.operands
          → GoesAhead asks came l below
      by (variants.Enters body) enters = λ attempt.
          over _ attempt
          (enters.1 below attempt below_is (held, (held, tt)) room)
      by variants.Goes enters = λ attempt.
          over _ attempt (enters.1 below attempt below_is (held, (held, tt)) tt)
      by variants.Left enters = tt

-- ---- nothing has changed

pub same_left : {A : Type 0} (x : A) (came : Ahead) → OnLeft came (x ≡ x)
same_left x (variants.Enters body) = tt
same_left x variants.Goes = tt
same_left x variants.Left = refl

pub left_so : (l : Lent) (came : Ahead) (operands : List Word) (frames : List Frame)
    → OnLeft came (operands ≡ l.operands) → OnLeft came (frames ≡ l.frames)
    → OnLeft came (restacked l operands frames ≡ l)
left_so l (variants.Enters body) operands frames operands_same frames_same = tt
left_so l variants.Goes operands frames operands_same frames_same = tt
left_so l variants.Left operands frames operands_same frames_same =
    λ i. record l { operands = operands_same i; frames = frames_same i }
