-- Turns of loops over operands and frames.
use Rattle.std.proofs.Common.{◌≡◌, ℕ, ◌+◌, ◌<◌, ◌≤◌, ◌==◌, true, false, List, [], ◌∷◌, ◌++◌, drop, length, Ok, Err}
use Rattle.std.proofs.Common.{refl, arith}
use Rattle.std.proofs.lemmas.Bool.Decides.{nat_tests}
use Rattle.std.proofs.lemmas.List.{length-map, length-append, map-append}
use Rattle.ps_language.specs.declared.errors.ErrorName.TheVariants.{StackOverflow, ExecStackOverflow}
use Rattle.ps_language.specs.declared.operators.Operator.{Operator}
use Rattle.ps_language.specs.Value.{Value, Store}
use Rattle.ps_language.specs.Effect.{Scene}
use Rattle.ps_language.specs.Outcome.{leaves, fails}
use Rattle.ps_language.specs.Readers.{room_for}
use Rattle.ps_language.specs.Control.{with_operands, with_frames}
use Rattle.ps_language.specs.StepFrames.{with_turn_operands}
use Rattle.ps_word.specs.declared.words.Word.{Word}
use Rattle.ps_word.specs.declared.values.Part.{Part}
use Rattle.ps_mem.specs.Heap.{Heap, birth_at}
use Rattle.ps_mem.specs.Meaning.{value_of}
use Rattle.ps_mem.specs.Shows.{IsValue, IsWithin, Shows}
use Rattle.ps_ops_operands.specs.Changes.{values_in}
use Rattle.ps_ops_operands.proofs.Held.{all_append, rest_held}
use Rattle.ps_ops_control.specs.declared.frames.Frame.{Frame}
use Rattle.ps_ops_control.specs.declared.frames.Frame.TheVariants.{Procedure}
use Rattle.ps_ops_control.specs.Frames.{frame_of, frames_in, IsFrame, IsFrameWithin}
use Rattle.ps_ops_control.specs.Controls.{stacks, scene_of, IsReadyFor, IsWithinBoth}
use Rattle.ps_ops_control.specs.Turns.{IsTurn, IsTurnHeld, Turns}
use Rattle.ps_ops_control.proofs.Rooms.{fits, full}

operands_made : (values : List Value) (scene : Scene) → room_for (values ++ scene.operands) ≡ true
    → with_turn_operands values scene ≡ leaves (with_operands (values ++ scene.operands) scene)
operands_made [] scene room = refl
operands_made (value ∷ values) scene room = rw room refl

operands_full : (values : List Value) (scene : Scene) → 1 ≤ length values
    → room_for (values ++ scene.operands) ≡ false
    → with_turn_operands values scene ≡ fails StackOverflow
operands_full [] scene some full = absurd (omega (arith, some))
operands_full (value ∷ values) scene some full = rw full refl

module _ (h : Heap) (names : List (List ℕ)) (words operands : List Word) where
  room : length words + length operands ≤ 500
      → room_for (values_in h names words ++ values_in h names operands) ≡ true
  room few = rw (
    length-append (values_in h names words) (values_in h names operands),
    length-map
        words (value_of (birth_at h) names),
    length-map operands (value_of (birth_at h) names),
  )
      (grind (arith, nat_tests))

  no_room : 500 < length words + length operands
      → room_for (values_in h names words ++ values_in h names operands) ≡ false
  no_room many = rw (
    length-append (values_in h names words) (values_in h names operands),
    length-map words (value_of (birth_at h) names),
    length-map operands
        (value_of (birth_at h) names),
  ) (grind (arith, nat_tests))

above : (frames : List Frame) (left : Frame) → 1 ≤ length frames
    → length (left ∷ drop 1 frames) ≡ length frames
above [] left some = omega (arith, some)
above (frame ∷ frames) left some = refl

module _ (operator : Operator) (h : Heap) (size : ℕ) (operands : List Word) (frames : List Frame)
    (ready : IsReadyFor h size (stacks operands frames)) (some : 1 ≤ length frames)
    (words : List Word) (left : Frame) (body : Part)
    (held : IsTurnHeld h size words left body (stacks operands frames))
    (turn : IsTurn operator words left body h (stacks operands frames)) where
  within_operands : (names : List (List ℕ)) (store : Store) → Shows h names store
      → IsWithinBoth h names store (stacks operands frames)
      → IsWithinBoth h names store (stacks (words ++ operands) (left ∷ drop 1 frames))
  within_operands names store shows both = record {
    operands = all_append (IsWithin (birth_at h) names store) words operands
        (held.values_within names store shows both) both.operands;
    frames = (
      held.frame_within names store shows both,
      rest_held
          (IsFrameWithin (birth_at h) names store) frames both.frames 1,
    );
  }

  ready_operands : IsReadyFor h size (stacks (words ++ operands) (left ∷ drop 1 frames))
  ready_operands = record {
    operands = record {
      sound = ready.operands.sound;
      values =
          all_append (IsValue h) words operands held.values ready.operands.values;
    };
    frames = (held.frame, rest_held (IsFrame h size) frames ready.frames 1);
  }

  -- an empty procedure
  pub turns_empty : length words + length operands ≤ 500 → body.length ≡ 0
      → Turns operator (Ok tt) h size (stacks operands frames)
      (stacks (words ++ operands) (left ∷ drop 1 frames))
  turns_empty few none = record {
    meets = λ around names store dictionaries shows within. rw (
      turn.is around names store dictionaries shows within,
      operands_made (values_in h names words)
          (with_frames (frame_of (birth_at h) names left ∷ frames_in h names (drop 1 frames))
          (scene_of h names store dictionaries (stacks operands frames)))
          (room h names words operands few),
      none,
      map-append (value_of (birth_at h) names) words operands,
    ) (refl, refl);
    within = within_operands;
    ready = ready_operands;
  }

  -- one with elements
  pub turns_entered : length words + length operands ≤ 500 → 1 ≤ body.length → length frames < 250
      → Turns operator (Ok tt) h size (stacks operands frames)
      (stacks (words ++ operands) (Procedure body ∷ left ∷ drop 1 frames))
  turns_entered few elements space = record {
    meets = λ around names store dictionaries shows within. rw (
      turn.is around names store dictionaries shows within,
      operands_made (values_in h names words)
          (with_frames (frame_of (birth_at h) names left ∷ frames_in h names (drop 1 frames))
          (scene_of h names store dictionaries (stacks operands frames)))
          (room h names words operands few),
      positive,
      fits (frame_of (birth_at h) names) (left ∷ drop 1 frames) 1
          (omega (arith, above frames left some, space)),
      map-append (value_of (birth_at h) names) words operands,
    ) (refl, refl);
    within = λ names store shows both. let w = within_operands names store shows both in
        record { operands = w.operands; frames = (tt, w.frames) };
    ready = record {
      operands = ready_operands.operands;
      frames =
          ((held.stands, elements), ready_operands.frames);
    };
  }
    where
      positive : (body.length == 0) ≡ false
      positive = grind (arith, nat_tests)

  pub turns_full : length words + length operands ≤ 500 → 1 ≤ body.length → 250 ≤ length frames
      → Turns operator (Err ExecStackOverflow) h size (stacks operands frames)
      (stacks operands frames)
  turns_full few elements many = record {
    meets = λ around names store dictionaries shows within. rw (
      turn.is around names store dictionaries shows within,
      operands_made (values_in h names words)
          (with_frames (frame_of (birth_at h) names left ∷ frames_in h names (drop 1 frames))
          (scene_of h names store dictionaries (stacks operands frames)))
          (room h names words operands few),
      positive,
      full (frame_of (birth_at h) names) (left ∷ drop 1 frames) 1
          (omega (arith, above frames left some, many)),
    ) (refl, refl, refl);
    within = λ names store shows both. both;
    ready = ready;
  }
    where
      positive : (body.length == 0) ≡ false
      positive = grind (arith, nat_tests)

  pub turns_over : 500 < length words + length operands → 1 ≤ length words
      → Turns operator (Err StackOverflow) h size (stacks operands frames) (stacks operands frames)
  turns_over many pushed = record {
    meets = λ around names store dictionaries shows within. rw (
      turn.is around names store dictionaries shows within,
      operands_full (values_in h names words)
          (with_frames (frame_of (birth_at h) names left ∷ frames_in h names (drop 1 frames))
          (scene_of h names store dictionaries (stacks operands frames)))
          (rw (length-map words (value_of (birth_at h) names)) pushed)
          (no_room h names words operands many),
    ) (refl, refl, refl);
    within = λ names store shows both. both;
    ready = ready;
  }
