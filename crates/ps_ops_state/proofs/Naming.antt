-- What is lent under more names.
use Rattle.std.proofs.Common.{◌≡◌, ℕ, List, [], ◌∷◌, ◌++◌, refl, ap}
use Rattle.ps_language.specs.Value.{Store}
use Rattle.ps_language.specs.World as world
use Rattle.ps_mem.specs.Heap.{Heap, birth_at}
use Rattle.ps_mem.specs.Meaning.{part_of}
use Rattle.ps_mem.proofs.NameLemmas.{value_of-named, values_of-named, IsWithin-named, AreWithin-named, Shows-named}
use Rattle.ps_ops_control.specs.declared.frames.Frame.{Frame}
use Rattle.ps_ops_control.specs.declared.frames.Frame.TheVariants.{Text, Procedure, Pending, Repeat, Loop, For, Forall}
use Rattle.ps_ops_control.specs.declared.frames.Frame.TheVariants.{Stopped, Monitor, Bind}
use Rattle.ps_ops_control.specs.Frames.{frame_of, frames_in, IsFrameWithin, AreFramesWithin}
use Rattle.ps_ops_state.specs.Lent.{Lent, scene_of, IsShown}
use Rattle.ps_ops_state.specs.Acts.{IsLeft}
use Rattle.ps_ops_state.proofs.Meeting.{lasts-same}

module _ (h : Heap) (names more : List (List ℕ)) (s : Store) where
  frame_same : (frame : Frame) → IsFrameWithin (birth_at h) names s frame
      → frame_of (birth_at h) (names ++ more) frame ≡ frame_of (birth_at h) names frame
  frame_same (Text source at) within = refl
  frame_same (Procedure rest) within = refl
  frame_same (Pending word) within =
      ap world.pending_frame (value_of-named names more (birth_at h) s word within)
  frame_same (Repeat count body) within = refl
  frame_same (Loop body) within = refl
  frame_same (For control increment limit body) within = refl
  frame_same (Forall over at body) within =
      ap (λ v. world.forall_frame v at (part_of (birth_at h) body))
      (value_of-named names more (birth_at h) s over within)
  frame_same Stopped within = refl
  frame_same (Monitor lock) within = refl
  frame_same (Bind over at depth) within = refl

  pub frames_same : (frames : List Frame) → AreFramesWithin h names s frames
      → frames_in h (names ++ more) frames ≡ frames_in h names frames
  frames_same [] within = refl
  frames_same (frame ∷ frames) within =
      λ i. frame_same frame within.0 i ∷ frames_same frames within.1 i

  frame_within : (frame : Frame) → IsFrameWithin (birth_at h) names s frame
      → IsFrameWithin (birth_at h) (names ++ more) s frame
  frame_within (Text source at) within = within
  frame_within (Procedure rest) within = tt
  frame_within (Pending word) within = IsWithin-named names more (birth_at h) s word within
  frame_within (Repeat count body) within = tt
  frame_within (Loop body) within = tt
  frame_within (For control increment limit body) within = tt
  frame_within (Forall over at body) within = IsWithin-named names more (birth_at h) s over within
  frame_within Stopped within = tt
  frame_within (Monitor lock) within = tt
  frame_within (Bind over at depth) within = tt

  pub frames_within : (frames : List Frame) → AreFramesWithin h names s frames
      → AreFramesWithin h (names ++ more) s frames
  frames_within [] within = tt
  frames_within (frame ∷ frames) within =
      (frame_within frame within.0, frames_within frames within.1)

-- the same scene under more names
pub named_left : (l : Lent) (more : List (List ℕ)) (store : Store) → IsShown l store
    → IsLeft store (record l { names = l.names ++ more })
    (record (scene_of l store) { names = l.names ++ more })
named_left l more store shown =
    let births = birth_at l.heap in
    record {
      is = λ i. record {
        operands = values_of-named l.names more births store l.operands shown.operands i;
        dictionaries =
            values_of-named l.names more births store l.dictionaries shown.dictionaries i;
        frames = frames_same l.heap l.names more store l.frames shown.frames i;
        store = store;
        names = l.names ++ more;
      };
      shown = record {
        shows = Shows-named l.heap l.names more store shown.shows;
        operands = AreWithin-named l.names more births store l.operands shown.operands;
        dictionaries = AreWithin-named l.names more births store l.dictionaries shown.dictionaries;
        frames = frames_within l.heap l.names more store l.frames shown.frames;
      };
      lasts = lasts-same store;
    }
