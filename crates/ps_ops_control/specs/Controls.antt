-- When what an operator of control did to operands and frames is its row.
use Rattle.std.specs.Prelude.{◌≡◌, ◌==◌, ℕ, List, ◌∷◌, drop, Option, Some, Result, if◌then◌else◌}
use Rattle.ps_language.specs.declared.errors.ErrorName.{ErrorName}
use Rattle.ps_language.specs.Value.{Value, Store}
use Rattle.ps_language.specs.declared.access.Access.{Access}
use Rattle.ps_language.specs.Access.{access_of}
use Rattle.ps_language.specs.Effect.{Scene}
use Rattle.ps_language.specs.Outcome.{Outcome}
use Rattle.ps_language.specs.Control.{with_operands, with_frame, entered}
use Rattle.ps_stacks.specs.Tops.{first_two_of}
use Rattle.ps_word.specs.declared.words.Word.{Word}
use Rattle.ps_word.specs.declared.values.Part.{Part}
use Rattle.ps_mem.specs.Heap.{Heap, birth_at}
use Rattle.ps_mem.specs.Meaning.{value_of, part_of}
use Rattle.ps_ops_operands.specs.Does.{AgreesMade}
use Rattle.ps_ops_operands.specs.Changes.{values_in}
use Rattle.ps_mem.specs.Shows.{IsReady, AreWithin, Shows}
use Rattle.ps_ops_control.specs.declared.frames.Frame.{Frame}
use Rattle.ps_ops_control.specs.declared.frames.Frame.TheVariants.{Procedure}
use Rattle.ps_ops_control.specs.Frames.{frame_of, scene_in, AreFrames, IsFrameWithin, AreFramesWithin}

-- operands and frames, the topmost first
pub record Stacks : Type 0 where
  pub operands : List Word
  pub frames : List Frame

abbrev pub stacks : List Word → List Frame → Stacks
stacks operands frames = record { operands = operands; frames = frames }

-- both refer to what stands; size: the bytes of the program
pub record IsReadyFor (h : Heap) (size : ℕ) (stacks : Stacks) : Type 0 where
  pub operands : IsReady h stacks.operands
  pub frames : AreFrames h size stacks.frames

-- both are within the names met and the store
pub record IsWithinBoth (h : Heap) (names : List (List ℕ)) (store : Store)
    (stacks : Stacks) : Type 0 where
  pub operands : AreWithin h names store stacks.operands
  pub frames : AreFramesWithin h names store stacks.frames

abbrev pub scene_of : Heap → (names : List (List ℕ)) → Store → (dictionaries : List Value) → Stacks
    → Scene
scene_of h names store dictionaries stacks =
    scene_in h names store dictionaries stacks.operands stacks.frames

-- the scene that the row leaves, or its error with the stacks as they were
abbrev pub ControlsAs : Result Unit ErrorName → Outcome Scene → Heap → (names : List (List ℕ))
    → Store → (dictionaries : List Value) → (before after : Stacks) → Type 0
ControlsAs result outcome h names store dictionaries before after =
    AgreesMade (λ scene. (scene_of h names store dictionaries after ≡ scene)
    × IsWithinBoth h names store after) (after ≡ before) result outcome

-- for every store that the memory shows and every dictionary stack, the operator did what its row
-- says, and what was held is held
pub record Controls (row : List Value → Scene → Outcome Scene)
    (result : Result Unit ErrorName) (h : Heap) (size : ℕ) (before after : Stacks) : Type 0 where
  pub meets : (names : List (List ℕ)) (store : Store) (dictionaries : List Value)
      → Shows h names store → IsWithinBoth h names store before →
      ControlsAs result
      (row (scene_of h names store dictionaries before).operands
      (scene_of h names store dictionaries before)) h names store dictionaries before after
  pub ready : IsReadyFor h size after

-- a row that takes so many operands and pushes a frame
pub record Begins (row : List Value → Scene → Outcome Scene) (h : Heap)
    (operands : List Word) (count : ℕ) (frame : Frame) : Type 0 where
  pub is : (names : List (List ℕ)) (scene : Scene)
      → row (values_in h names operands) (with_operands (values_in h names operands) scene)
      ≡ with_frame (frame_of (birth_at h) names frame)
      (with_operands (drop count (values_in h names operands)) scene)

-- one that takes so many operands and enters a procedure
pub record Enters (row : List Value → Scene → Outcome Scene) (h : Heap)
    (operands : List Word) (count : ℕ) (body : Part) : Type 0 where
  pub is : (names : List (List ℕ)) (scene : Scene)
      → row (values_in h names operands) (with_operands (values_in h names operands) scene)
      ≡ entered (part_of (birth_at h) body)
      (with_operands (drop count (values_in h names operands)) scene)

-- what a frame holds is within the names met and each store, where operands and frames are
pub record IsFrameHeld (h : Heap) (operands : List Word) (frames : List Frame)
    (frame : Frame) : Type 0 where
  pub within : (names : List (List ℕ)) (store : Store)
      → IsWithinBoth h names store (stacks operands frames)
      → IsFrameWithin (birth_at h) names store frame

-- a procedure is entered above other frames; an empty one needs no frame
abbrev pub entered_above : (body : Part) → List Frame → List Frame
entered_above body frames = if body.length == 0 then frames else Procedure body ∷ frames

-- the access of the second operand, for every store that the memory shows
pub record IsSecondAccess (h : Heap) (operands : List Word) (access : Option Access) : Type 0 where
  pub meets : (names : List (List ℕ)) (store : Store) → Shows h names store → (first second : Word)
      → Some (first, second) ≡ first_two_of operands →
      access_of store (value_of (birth_at h) names second) ≡ access
