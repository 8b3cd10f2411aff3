-- When operands and frames show what a row of control left.
use Rattle.std.proofs.Common.{◌≡◌, ℕ, ◌<◌, ◌≤◌, ◌==◌, false, List, ◌∷◌, drop, length, Ok, Err, refl, ◌∙◌, arith}
use Rattle.std.proofs.lemmas.List.{drop-map}
use Rattle.ps_language.specs.declared.errors.ErrorName.{ErrorName}
use Rattle.ps_language.specs.declared.errors.ErrorName.TheVariants.{ExecStackOverflow}
use Rattle.ps_language.specs.Value.{Value, Store}
use Rattle.ps_language.specs.Effect.{Scene}
use Rattle.ps_language.specs.Control.{with_operands}
use Rattle.ps_language.specs.Outcome.{Outcome, leaves, fails}
use Rattle.std.proofs.lemmas.Bool.Decides.{nat_tests}
use Rattle.ps_word.specs.declared.words.Word.{Word}
use Rattle.ps_word.specs.declared.values.Part.{Part}
use Rattle.ps_mem.specs.Heap.{Heap, birth_at}
use Rattle.ps_mem.specs.Meaning.{value_of}
use Rattle.ps_mem.specs.Shows.{IsWithin}
use Rattle.ps_ops_operands.specs.Changes.{values_in}
use Rattle.ps_ops_operands.proofs.Held.{rest_held}
use Rattle.ps_ops_operands.proofs.Ready.{ready_drop}
use Rattle.ps_ops_control.specs.declared.frames.Frame.{Frame}
use Rattle.ps_ops_control.specs.declared.frames.Frame.TheVariants.{Procedure}
use Rattle.ps_ops_control.specs.Frames.{frame_of, IsFrame}
use Rattle.ps_ops_control.specs.Controls.{Stacks, stacks, scene_of, IsReadyFor, IsWithinBoth, IsFrameHeld, Begins, Enters}
use Rattle.ps_ops_control.specs.Controls.{Controls}
use Rattle.ps_ops_control.proofs.Rooms.{fits, full}

module _ (row : List Value → Scene → Outcome Scene) (h : Heap) (size : ℕ) (before : Stacks)
    (ready : IsReadyFor h size before) where
  -- the row fails over every store
  pub controls_failed : (error : ErrorName)
      → ((names : List (List ℕ)) (store : Store) (dictionaries : List Value)
      → row (scene_of h names store dictionaries before).operands (scene_of h names store dictionaries before)
      ≡ fails error)
      → Controls row (Err error) h size before before
  controls_failed error is =
      record {
        meets = λ names store dictionaries shows within. rw (is names store dictionaries) (refl, refl);
        ready = ready;
      }

  -- the row leaves what is shown after it
  pub controls_left : (after : Stacks)
      → ((names : List (List ℕ)) (store : Store) (dictionaries : List Value)
      → row (scene_of h names store dictionaries before).operands (scene_of h names store dictionaries before)
      ≡ leaves (scene_of h names store dictionaries after))
      → IsReadyFor h size after
      → ((names : List (List ℕ)) (store : Store) → IsWithinBoth h names store before → IsWithinBoth h names store after)
      → Controls row (Ok tt) h size before after
  controls_left after is now within_after = record {
    meets = λ names store dictionaries shows within. rw (is names store dictionaries) (
      refl,
      within_after names store within,
    );
    ready = now;
  }

-- a row that takes operands and pushes a frame
module _ (row : List Value → Scene → Outcome Scene) (h : Heap) (size : ℕ) (operands : List Word) (frames : List Frame)
    (ready : IsReadyFor h size (stacks operands frames)) (count : ℕ) where
  module _ (frame : Frame) (begins : Begins row h operands count frame) where
    pub controls_full : 250 ≤ length frames
        → Controls row (Err ExecStackOverflow) h size (stacks operands frames) (stacks operands frames)
    controls_full many =
        controls_failed row h size (stacks operands frames) ready ExecStackOverflow (λ names store dictionaries.
        begins.is names (scene_of h names store dictionaries (stacks operands frames))
        ∙ rw (full (frame_of (birth_at h) names) frames 1 (omega (arith, many))) refl)

    pub controls_pushed : length frames < 250 → IsFrame h size frame → IsFrameHeld h operands frames frame
        → Controls row (Ok tt) h size (stacks operands frames) (stacks (drop count operands) (frame ∷ frames))
    controls_pushed room held within =
        controls_left row h size (stacks operands frames) ready (stacks (drop count operands) (frame ∷ frames))
        (λ names store dictionaries. begins.is names (scene_of h names store dictionaries (stacks operands frames))
        ∙ rw (
          fits (frame_of (birth_at h) names) frames 1 (omega (arith, room)),
          drop-map (value_of (birth_at h) names) count operands,
        ) refl)
        (record { operands = ready_drop h operands count ready.operands; frames = (held, ready.frames) })
        (λ names store both. record {
          operands = rest_held (IsWithin (birth_at h) names store) operands both.operands count;
          frames = (within.within names store both, both.frames);
        })

  -- a row that takes so many operands, and no more
  pub controls_taken : ((names : List (List ℕ)) (scene : Scene)
      → row (values_in h names operands) (with_operands (values_in h names operands) scene)
      ≡ leaves (with_operands (drop count (values_in h names operands)) scene))
      → Controls row (Ok tt) h size (stacks operands frames) (stacks (drop count operands) frames)
  controls_taken takes =
      controls_left row h size (stacks operands frames) ready (stacks (drop count operands) frames)
      (λ names store dictionaries.
      takes names (scene_of h names store dictionaries (stacks operands frames))
      ∙ rw (drop-map (value_of (birth_at h) names) count operands) refl)
      (record {
        operands = ready_drop h operands count ready.operands;
        frames = ready.frames;
      })
      (λ names store both. record {
        operands = rest_held (IsWithin (birth_at h) names store) operands both.operands count;
        frames = both.frames;
      })

  module _ (body : Part) where
    -- an empty procedure is entered by taking the operands
    pub controls_entered : body.length ≡ 0 → Enters row h operands count body
        → Controls row (Ok tt) h size (stacks operands frames) (stacks (drop count operands) frames)
    controls_entered none enters =
        controls_taken (λ names scene. enters.is names scene ∙ rw none refl)

    -- one with elements by a frame
    pub begins_entered : 1 ≤ body.length → Enters row h operands count body
        → Begins row h operands count (Procedure body)
    begins_entered some enters = record { is = λ names scene. enters.is names scene ∙ rw (positive) refl }
      where
        positive : (body.length == 0) ≡ false
        positive = grind (arith, nat_tests)

pub within_procedure : (h : Heap) (operands : List Word) (frames : List Frame) (body : Part)
    → IsFrameHeld h operands frames (Procedure body)
within_procedure h operands frames body = record { within = λ names store both. tt }
