-- The turns of the loops by their frames.
use Rattle.std.proofs.Common.{◌≡◌, ℕ, zero, suc, ◌+◌, ◌-◌, ◌≤◌, ℤ, ◌+ℤ◌, true, false, List, [], ◌∷◌, drop, Some, None}
use Rattle.std.proofs.Common.{Ok, refl, sym, arith}
use Rattle.ps_language.specs.declared.operators.Operator.{Operator}
use Rattle.ps_language.specs.declared.operators.Operator.TheVariants.{Loop as LoopOperator, Repeat as RepeatOperator}
use Rattle.ps_language.specs.declared.operators.Operator.TheVariants.{For as ForOperator, Forall as ForallOperator}
use Rattle.ps_language.specs.Value.{Value, Store}
use Rattle.ps_language.specs.World as world
use Rattle.ps_language.specs.Effect.{Around}
use Rattle.ps_language.specs.Readers.{integer}
use Rattle.ps_language.specs.Control.{with_frames}
use Rattle.ps_language.specs.StepValues.{leads}
use Rattle.ps_language.specs.StepFrames.{is_past, frame_turn}
use Rattle.ps_language.specs.Machines.{turn_as}
use Rattle.ps_stacks.specs.Tops.{first_of}
use Rattle.ps_word.specs.declared.words.Word.{Word}
use Rattle.ps_word.specs.declared.values.Part.{Part}
use Rattle.ps_mem.specs.Heap.{Heap, birth_at}
use Rattle.ps_mem.specs.Meaning.{value_of}
use Rattle.ps_mem.specs.Shows.{IsValue, IsWithin, Shows}
use Rattle.ps_ops_operands.proofs.Operands.{first_split}
use Rattle.ps_ops_operands.proofs.Held.{first_held, rest_held}
use Rattle.ps_ops_control.specs.declared.frames.Frame.{Frame}
use Rattle.ps_ops_control.specs.declared.frames.Frame.TheVariants.{Loop, Repeat, For, Forall}
use Rattle.ps_ops_control.specs.declared.turns.TurnOperands.{TurnOperands}
use Rattle.ps_ops_control.specs.Frames.{frames_in, IsFrame, IsHeld, IsCourse, IsFrameWithin}
use Rattle.ps_ops_control.specs.Controls.{stacks, scene_of, IsReadyFor, IsWithinBoth}
use Rattle.ps_ops_control.specs.Turns.{words_of, IsTurn, IsTurnHeld, IsPushed, Turns}

module _ (h : Heap) (size : ℕ) (operands : List Word) (frames : List Frame)
    (ready : IsReadyFor h size (stacks operands frames)) where
  -- a frame that goes
  pub turns_left : (operator : Operator)
      → ((around : Around) (names : List (List ℕ)) (store : Store) (dictionaries : List Value)
      → Shows h names store → IsWithinBoth h names store (stacks operands frames)
      → turn_as around world.running
      (scene_of h names store dictionaries (stacks operands frames)).frames
      (scene_of h names store dictionaries (stacks operands frames))
      ≡ leads (with_frames (frames_in h names (drop 1 frames))
      (scene_of h names store dictionaries (stacks operands frames))))
      → Turns operator (Ok tt) h size (stacks operands frames) (stacks operands (drop 1 frames))
  turns_left operator is = record {
    meets = λ around names store dictionaries shows within.
        rw (is around names store dictionaries shows within) (refl, refl);
    within = λ names store shows both. record {
      operands = both.operands;
      frames =
          rest_held (IsFrameWithin (birth_at h) names store) frames both.frames 1;
    };
    ready = record {
      operands = ready.operands;
      frames =
          rest_held (IsFrame h size) frames ready.frames 1;
    };
  }

  -- loop
  module _ (body : Part) (top : Some (Loop body) ≡ first_of frames) where
    pub loop_is : IsTurn LoopOperator [] (Loop body) body h (stacks operands frames)
    unfolding frame_turn
    loop_is = record {
      is = λ around names store dictionaries shows within.
          rw (first_split frames (Loop body) top) refl;
    }

    pub loop_held : IsTurnHeld h size [] (Loop body) body (stacks operands frames)
    loop_held = let held : IsHeld h body =
        first_held (IsFrame h size) frames ready.frames (Loop body) top in
        record {
          values = tt;
          frame = held;
          stands = held;
          values_within =
              λ names store shows both. tt;
          frame_within = λ names store shows both. tt;
        }

  -- repeat
  module _ (body : Part) where
    pub repeat_is : (count : ℕ) → 1 ≤ count → Some (Repeat count body) ≡ first_of frames
        → IsTurn RepeatOperator [] (Repeat (count - 1) body) body h (stacks operands frames)
    unfolding frame_turn
    repeat_is zero some top = absurd (omega (arith, some))
    repeat_is (suc count) some top =
        record {
          is = λ around names store dictionaries shows within.
              rw (first_split frames (Repeat (suc count) body) top, less) refl;
        }
      where
        less : suc count - 1 ≡ count
        less = omega arith

    pub repeat_held : (count left : ℕ) → Some (Repeat count body) ≡ first_of frames
        → IsTurnHeld h size [] (Repeat left body) body (stacks operands frames)
    repeat_held count left top = let held : IsHeld h body =
        first_held (IsFrame h size) frames ready.frames (Repeat count body) top in
        record {
          values = tt;
          frame = held;
          stands = held;
          values_within =
              λ names store shows both. tt;
          frame_within = λ names store shows both. tt;
        }

    pub repeat_ends : (count : ℕ) → count ≡ 0 → Some (Repeat count body) ≡ first_of frames
        → Turns RepeatOperator (Ok tt) h size (stacks operands frames)
        (stacks operands (drop 1 frames))
    unfolding frame_turn
    repeat_ends zero none top =
        turns_left RepeatOperator
        (λ around names store dictionaries shows within. rw (first_split frames (Repeat 0 body) top)
        refl)
    repeat_ends (suc count) none top = absurd (omega (arith, none))

  -- for
  module _ (control increment limit : ℤ) (body : Part)
      (top : Some (For control increment limit body) ≡ first_of frames) where
    pub for_is : (w : Word) →
        ((births : ℕ → ℕ) (names : List (List ℕ)) → value_of births names w ≡ integer control)
        → is_past control increment limit ≡ false
        → IsTurn ForOperator (w ∷ []) (For (control +ℤ increment) increment limit body) body h
        (stacks operands frames)
    unfolding frame_turn
    for_is w means going = record {
      is = λ around names store dictionaries shows within.
          rw (
            first_split frames (For control increment limit body) top,
            going,
            means (birth_at h)
                names,
          ) refl;
    }

    pub for_held : (w : Word) → IsValue h w
        → ((names : List (List ℕ)) (store : Store) → IsWithin (birth_at h) names store w)
        → IsCourse (control +ℤ increment) increment
        → IsTurnHeld h size (w ∷ []) (For (control +ℤ increment) increment limit body) body
        (stacks operands frames)
    for_held w value within course = let held : IsHeld h body × IsCourse control increment =
        first_held (IsFrame h size) frames ready.frames (For control increment limit body) top in
        record {
          values = (value, tt);
          frame = (held.0, course);
          stands = held.0;
          values_within =
              λ names store shows both. (within names store, tt);
          frame_within =
              λ names store shows both. tt;
        }

    pub for_ends : is_past control increment limit ≡ true
        → Turns ForOperator (Ok tt) h size (stacks operands frames)
        (stacks operands (drop 1 frames))
    unfolding frame_turn
    for_ends past = turns_left ForOperator
        (λ around names store dictionaries shows within.
        rw (first_split frames (For control increment limit body) top, past) refl)

  -- forall
  module _ (over : Word) (at : ℕ) (body : Part) (top : Some (Forall over at body) ≡ first_of frames)
    where
      over_within : (names : List (List ℕ)) (store : Store)
          → IsWithinBoth h names store (stacks operands frames)
          → IsWithin (birth_at h) names store over
      over_within names store both =
          first_held (IsFrameWithin (birth_at h) names store) frames both.frames (Forall over at body)
          top

      pub forall_is : (pushed : TurnOperands) → IsPushed h over at (Some pushed)
          → IsTurn ForallOperator (words_of pushed) (Forall over (at + 1) body) body h
          (stacks operands frames)
      unfolding frame_turn
      forall_is pushed is = record {
        is = λ around names store dictionaries shows within.
            rw (
              first_split frames (Forall over at body) top,
              sym (is.values names store shows (over_within names store within)),
            ) refl;
      }

      pub forall_held : (pushed : TurnOperands) → IsPushed h over at (Some pushed)
          → IsTurnHeld h size (words_of pushed) (Forall over (at + 1) body) body
          (stacks operands frames)
      forall_held pushed is = let held : IsValue h over × IsHeld h body =
          first_held (IsFrame h size) frames ready.frames (Forall over at body) top in
          record {
            values = is.held;
            frame = held;
            stands = held.1;
            values_within = λ names store shows both. is.within names store shows
                (over_within names store both);
            frame_within = λ names store shows both. over_within names store both;
          }

      pub forall_ends : IsPushed h over at None
          → Turns ForallOperator (Ok tt) h size (stacks operands frames)
          (stacks operands (drop 1 frames))
      unfolding frame_turn
      forall_ends is = turns_left ForallOperator (λ around names store dictionaries shows within.
          rw (
            first_split frames (Forall over at body) top,
            sym (is.values names store shows (over_within names store within)),
          ) refl)
