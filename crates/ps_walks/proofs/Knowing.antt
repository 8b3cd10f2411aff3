-- What is known of a context just before its step.
use Rattle.std.proofs.Common.{ℕ, List, [], ◌∷◌, Option, Some, None}
use Rattle.std.specs.Prelude.{IfSome, slice_get}
use Rattle.ps_language.specs.declared.kinds.Kind.TheVariants.{Dictionary}
use Rattle.ps_mem.specs.Heap.{Heap}
use Rattle.ps_mem.specs.Keeps.{Keeps}
use Rattle.ps_mem.specs.References.{StandsAs}
use Rattle.ps_mem.proofs.KeepsLemmas.{stands-kept}
use Rattle.ps_ops_control.specs.declared.frames.Frame.{Frame}
use Rattle.ps_ops_control.specs.Frames.{AreFrames, IsFrame}
use Rattle.ps_ops_state.proofs.Kept.{frames-good}
use Rattle.ps_walks.specs.declared.before.Before.{Before}
use Rattle.ps_walks.specs.Walks.{IsBefore}

-- what a frame refers to stands, if there is one
abbrev IsFramed : Heap → Option Frame → Type 0
IsFramed h found = IfSome found (λ frame. (size : ℕ) × IsFrame h size frame)

-- so does $error
abbrev IsNoted : Heap → Option ℕ → Type 0
IsNoted h found = IfSome found (λ address. StandsAs h Dictionary address 4)

-- of the topmost frame
pub top_framed : (h : Heap) (size : ℕ) (frames : List Frame) → AreFrames h size frames
    → IsFramed h (slice_get frames 0)
top_framed h size [] are = tt
top_framed h size (frame ∷ frames) are = (size, are.0)

module _ (g h : Heap) (keeps : Keeps g h) where
  frame_kept : (found : Option Frame) → IsFramed g found → IsFramed h found
  frame_kept None is = tt
  frame_kept (Some frame) is =
      (is.0, (frames-good g h keeps is.0 (frame ∷ []) (is.1, tt)).0)

  error_kept : (found : Option ℕ) → IsNoted g found → IsNoted h found
  error_kept None is = tt
  error_kept (Some address) is = stands-kept g h keeps Dictionary address 4 is

  pub before_kept : (before : Before) → IsBefore g before → IsBefore h before
  before_kept before is = record {
    frame = frame_kept before.frame is.frame;
    error = error_kept before.error_dictionary is.error;
  }
