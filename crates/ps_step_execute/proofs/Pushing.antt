-- What a push comes to, where a stack has room and where it is full.
use Rattle.std.proofs.Common.{◌≡◌, ◌<◌, ◌≤◌, arith, [], ◌∷◌, length, Ok, refl, sym}
use Rattle.std.specs.Prelude.{Result}
use Rattle.ps_language.specs.declared.errors.ErrorName.{ErrorName}
use Rattle.ps_language.specs.declared.errors.ErrorName.TheVariants.{StackOverflow, ExecStackOverflow}
use Rattle.ps_language.specs.Value.{Store}
use Rattle.ps_language.specs.StepValues.{Turn, leads}
use Rattle.ps_word.specs.declared.words.Word.{Word}
use Rattle.ps_ops_operands.proofs.StackRows.{not_full as free_operands, full as full_operands}
use Rattle.ps_mem.specs.Heap.{birth_at}
use Rattle.ps_mem.specs.Shows.{IsValue}
use Rattle.ps_ops_operands.specs.declared.failure.NotMade.{NotMade as Reason}
use Rattle.ps_ops_control.specs.declared.frames.Frame.{Frame}
use Rattle.ps_ops_control.specs.Frames.{frame_of, IsFrame}
use Rattle.ps_ops_control.proofs.Rooms.{fits, full}
use Rattle.ps_ops_state.specs.declared.lent.Attempt.{Attempt}
use Rattle.ps_ops_state.specs.Lent.{Lent, scene_of, IsShown, IsGood}
use Rattle.ps_step_outcome.specs.declared.turned.Turned.{Turned}
use Rattle.ps_step_outcome.specs.declared.turned.Turned.TheVariants.{Goes}
use Rattle.ps_step_outcome.specs.Turns.{IsShownWith, TurnsOver, TurnsWith, error_turn, nothing_more}
use Rattle.ps_step_outcome.proofs.Composing.{held_good, turns_over, goes_over}
use Rattle.ps_step_execute.specs.Values.{pushed_turn, framed_turn}

-- ---- what is in hand

pub behind_first : (l : Lent) (word command : Word) (s : Store)
    → IsShownWith (word ∷ command ∷ []) [] l s → IsShownWith (command ∷ []) [] l s
behind_first l word command s held = record {
  shown = held.shown;
  words_within = held.words_within.1;
  frames_within = tt;
}

-- ---- operands

module _ (command : Word) (l : Lent) (attempt : Attempt) where
  -- nothing is done
  pub goes_as : (stores : Lent → Store → Type 0) (turn : Lent → Store → Turn)
      → ((s : Store) → stores l s → IsShown l s) → IsGood l
      → ((s : Store) → stores l s → turn l s ≡ leads (scene_of l s))
      → TurnsOver stores nothing_more turn attempt (Ok Goes) l l
  goes_as stores turn shows good is =
      goes_over l l.operands l.frames stores nothing_more turn attempt shows is good

  -- ---- where there is room

  pub pushed_goes : (word : Word) → IsGood l → IsValue l.heap word → length l.operands < 500
      → TurnsWith (word ∷ command ∷ []) [] nothing_more (pushed_turn command word) attempt (Ok Goes) l
      (record l { operands = word ∷ l.operands })
  pushed_goes word good value few =
      goes_over l (word ∷ l.operands) l.frames (IsShownWith (word ∷ command ∷ []) []) nothing_more
      (pushed_turn command word) attempt
      (λ s held. record {
        shows = held.shown.shows;
        operands = (held.words_within.0, held.shown.operands);
        dictionaries = held.shown.dictionaries;
        frames = held.shown.frames;
      })
      (λ s held. rw (free_operands l.operands (birth_at l.heap) l.names few) refl)
      (held_good l (word ∷ l.operands) l.frames (value, good.operands) good.frames good)

  pub framed_goes : (frame : Frame) → IsGood l → IsFrame l.heap (length l.program) frame
      → length l.frames < 250
      → TurnsWith (command ∷ []) (frame ∷ []) nothing_more (framed_turn command frame) attempt
      (Ok Goes) l (record l { frames = frame ∷ l.frames })
  framed_goes frame good value few =
      goes_over l l.operands (frame ∷ l.frames) (IsShownWith (command ∷ []) (frame ∷ []))
      nothing_more (framed_turn command frame) attempt
      (λ s held. record {
        shows = held.shown.shows;
        operands = held.shown.operands;
        dictionaries = held.shown.dictionaries;
        frames = (held.frames_within.0, held.shown.frames);
      })
      (λ s held. rw (fits (frame_of (birth_at l.heap) l.names) l.frames 1 (omega (arith, few)))
      refl)
      (held_good l l.operands (frame ∷ l.frames) good.operands (value, good.frames) good)

  module _ (result : Result Turned Reason) (new : Lent) where
    -- ---- errors

    -- by the command, with whatever else in hand
    abbrev Raises : ErrorName → Type 0
    Raises error =
        TurnsWith (command ∷ []) [] nothing_more (error_turn error command) attempt result l new

    pub pushed_full : (word : Word) → 500 ≤ length l.operands → Raises StackOverflow
        → TurnsWith (word ∷ command ∷ []) [] nothing_more (pushed_turn command word) attempt result l
        new
    pushed_full word many =
        turns_over (IsShownWith (command ∷ []) []) (IsShownWith (word ∷ command ∷ []) [])
        nothing_more nothing_more (error_turn StackOverflow command) (pushed_turn command word)
        attempt result l new (λ s held. behind_first l word command s held)
        (λ s held. sym (rw (full_operands l.operands (birth_at l.heap) l.names many) refl))
        (λ s held. refl)

    pub framed_full : (frame : Frame) → 250 ≤ length l.frames → Raises ExecStackOverflow
        → TurnsWith (command ∷ []) (frame ∷ []) nothing_more (framed_turn command frame) attempt
        result l new
    framed_full frame many =
        turns_over (IsShownWith (command ∷ []) []) (IsShownWith (command ∷ []) (frame ∷ []))
        nothing_more nothing_more (error_turn ExecStackOverflow command)
        (framed_turn command frame) attempt result l new (λ s held. record {
          shown = held.shown;
          words_within = held.words_within;
          frames_within = tt;
        })
        (λ s held. sym (rw
        (full (frame_of (birth_at l.heap) l.names) l.frames 1 (omega (arith, many))) refl))
        (λ s held. refl)
