-- When what a turn of a frame did to operands and frames is what the definitions say.
use Rattle.std.specs.Prelude.{◌≡◌, ℕ, suc, Bool, true, false, if◌then◌else◌, nat_le, List, [], ◌∷◌}
use Rattle.std.specs.Prelude.{drop, Option, Some, None, option_map, IfSome, Result, Ok, Err}
use Rattle.ps_language.specs.declared.errors.ErrorName.{ErrorName}
use Rattle.ps_language.specs.declared.operators.Operator.{Operator}
use Rattle.ps_language.specs.Value.{Value, Store}
use Rattle.ps_language.specs.World as world
use Rattle.ps_language.specs.Effect.{Around}
use Rattle.ps_language.specs.StepValues.{Turn, goes, errs, command_of}
use Rattle.ps_language.specs.StepFrames.{loop_turn, forall_operands}
use Rattle.ps_language.specs.Machines.{turn_as}
use Rattle.ps_word.specs.declared.words.Word.{Word}
use Rattle.ps_word.specs.declared.values.Part.{Part}
use Rattle.ps_mem.specs.Heap.{Heap, birth_at}
use Rattle.ps_mem.specs.Meaning.{value_of, part_of}
use Rattle.ps_mem.specs.Shows.{AreValues, IsWithin, AreWithin, Shows}
use Rattle.ps_ops_operands.specs.Changes.{values_in}
use Rattle.ps_ops_control.specs.declared.frames.Frame.{Frame}
use Rattle.ps_ops_control.specs.declared.frames.Frame.TheVariants.{Procedure, Repeat, Loop, For, Forall}
use Rattle.ps_ops_control.specs.declared.frames.Frame.TheVariants.{Stopped, Monitor}
use Rattle.ps_ops_control.specs.declared.frames.Cause.{Cause}
use Rattle.ps_ops_control.specs.declared.frames.Cause.TheVariants.{Stop, Exit, Quit}
use Rattle.ps_ops_control.specs.declared.turns.TurnOperands.{TurnOperands}
use Rattle.ps_ops_control.specs.declared.turns.TurnOperands.TheVariants.{Nothing, One, Pair}
use Rattle.ps_ops_control.specs.Frames.{frame_of, frames_in, IsFrame, IsHeld, IsFrameWithin}
use Rattle.ps_ops_control.specs.Controls.{Stacks, scene_of, IsReadyFor, IsWithinBoth}

-- goes on with the scene of the stacks, without output; an error has this command and keeps the
-- scene of the stacks
abbrev pub TurnsAs : (operator : Operator) → Result Unit ErrorName → Turn → Heap
    → (names : List (List ℕ)) → Store → (dictionaries : List Value) → (after : Stacks) → Type 0
TurnsAs operator (Ok _) (goes scene output) h names store dictionaries after =
    (scene_of h names store dictionaries after ≡ scene) × (output ≡ [])
TurnsAs operator (Err error) (errs raised command kept) h names store dictionaries after =
    (error ≡ raised) × (command ≡ command_of operator)
    × (kept ≡ scene_of h names store dictionaries after)
TurnsAs operator result turn h names store dictionaries after = ⊥

-- for every store that the memory shows, a step of the topmost frame of a running context;
-- operator: whose frame it is
pub record Turns (operator : Operator) (result : Result Unit ErrorName) (h : Heap) (size : ℕ)
    (before after : Stacks) : Type 0 where
  pub meets : (around : Around) (names : List (List ℕ)) (store : Store) (dictionaries : List Value)
      → Shows h names store → IsWithinBoth h names store before →
      TurnsAs operator result (turn_as around world.running
      (scene_of h names store dictionaries before).frames
      (scene_of h names store dictionaries before)) h names store dictionaries after
  pub within : (names : List (List ℕ)) (store : Store) → Shows h names store
      → IsWithinBoth h names store before → IsWithinBoth h names store after
  pub ready : IsReadyFor h size after

-- ---- unwinding

abbrev pub cause_of : Cause → world.Cause
cause_of Stop = world.for_stop
cause_of Exit = world.for_exit
cause_of Quit = world.for_quit

-- exit ends at a loop, and stop at the frame of stopped
abbrev pub ends_at_loop : Cause → Frame → Bool
ends_at_loop Exit (Repeat count body) = true
ends_at_loop Exit (Loop body) = true
ends_at_loop Exit (For control increment limit body) = true
ends_at_loop Exit (Forall over at body) = true
ends_at_loop cause frame = false

abbrev pub ends_at_stopped : Cause → Frame → Bool
ends_at_stopped Stop Stopped = true
ends_at_stopped cause frame = false

-- how many frames an exit takes off, where procedures alone stand above a loop
abbrev pub frames_to_loop : List Frame → Option ℕ
frames_to_loop [] = None
frames_to_loop (Procedure rest ∷ frames) = option_map suc (frames_to_loop frames)
frames_to_loop (frame ∷ frames) = if ends_at_loop Exit frame then Some 1 else None

-- so many, where they are no more than may be
abbrev pub no_more_than : (most : ℕ) → Option ℕ → Option ℕ
no_more_than most None = None
no_more_than most (Some count) = if nat_le count most then Some count else None

-- a frame that holds a lock
abbrev pub is_monitor : Frame → Bool
is_monitor (Monitor lock) = true
is_monitor frame = false

-- ---- loops

-- the words that a turn pushes, the topmost first
abbrev pub words_of : TurnOperands → List Word
words_of Nothing = []
words_of (One word) = word ∷ []
words_of (Pair key value) = value ∷ key ∷ []

-- a turn of the topmost frame that pushes these words, the topmost first, leaves this frame in its
-- place and enters this procedure
pub record IsTurn (operator : Operator) (words : List Word) (left : Frame) (body : Part) (h : Heap)
    (before : Stacks) : Type 0 where
  pub is : (around : Around) (names : List (List ℕ)) (store : Store) (dictionaries : List Value)
      → Shows h names store → IsWithinBoth h names store before →
      turn_as around world.running (scene_of h names store dictionaries before).frames
      (scene_of h names store dictionaries before)
      ≡ loop_turn operator (frame_of (birth_at h) names left
      ∷ frames_in h names (drop 1 before.frames)) (values_in h names words)
      (part_of (birth_at h) body) (scene_of h names store dictionaries before)

-- what a turn of a loop refers to stands and is within
pub record IsTurnHeld (h : Heap) (size : ℕ) (pushed : List Word) (left : Frame) (body : Part)
    (before : Stacks) : Type 0 where
  pub values : AreValues h pushed
  pub frame : IsFrame h size left
  pub stands : IsHeld h body
  pub values_within : (names : List (List ℕ)) (store : Store) → Shows h names store
      → IsWithinBoth h names store before → AreWithin h names store pushed
  pub frame_within : (names : List (List ℕ)) (store : Store) → Shows h names store
      → IsWithinBoth h names store before → IsFrameWithin (birth_at h) names store left

-- what a turn of forall pushes at a place, or nothing past the end
pub record IsPushed (h : Heap) (over : Word) (at : ℕ) (pushed : Option TurnOperands) : Type 0 where
  pub values : (names : List (List ℕ)) (store : Store) → Shows h names store
      → IsWithin (birth_at h) names store over →
      option_map (λ (p : TurnOperands). values_in h names (words_of p)) pushed ≡ forall_operands
      store (value_of (birth_at h) names over).what at
  pub held : IfSome pushed (λ p. AreValues h (words_of p))
  pub within : (names : List (List ℕ)) (store : Store) → Shows h names store
      → IsWithin (birth_at h) names store over
      → IfSome pushed (λ p. AreWithin h names store (words_of p))
