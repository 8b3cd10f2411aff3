-- Unwinding by frames.
use Rattle.std.proofs.Common.{◌≡◌, ℕ, zero, suc, ◌+◌, ◌≤◌, true, false, List, [], ◌∷◌, drop, length, Some, refl, arith}
use Rattle.std.proofs.Common.{sym, ◌∙◌, true≢false}
use Rattle.std.specs.Prelude.{slice_get}
use Rattle.ps_language.specs.World as world
use Rattle.ps_language.specs.Effect.{Scene}
use Rattle.ps_language.specs.Control.{with_frames, is_in_loop}
use Rattle.ps_language.specs.StepValues.{leads, breaks}
use Rattle.ps_language.specs.StepFrames.{unwound_turn, stopped_turn}
use Rattle.ps_mem.specs.Heap.{Heap}
use Rattle.ps_ops_control.specs.declared.frames.Frame.{Frame}
use Rattle.ps_ops_control.specs.declared.frames.Frame.TheVariants.{Text, Procedure, Pending, Repeat, Loop, For, Forall}
use Rattle.ps_ops_control.specs.declared.frames.Frame.TheVariants.{Stopped, Monitor, Bind}
use Rattle.ps_ops_control.specs.declared.frames.Cause.{Cause}
use Rattle.ps_ops_control.specs.declared.frames.Cause.TheVariants.{Stop, Exit, Quit}
use Rattle.ps_ops_control.specs.Frames.{frame_of, frames_in}
use Rattle.ps_ops_control.specs.Turns.{cause_of, ends_at_loop, ends_at_stopped, is_monitor}

-- ---- loops among the frames

pub drop_at : {A : Type 0} (xs : List A) (n : ℕ) (x : A) → Some x ≡ slice_get xs n → drop n xs ≡ x
    ∷ drop (n + 1) xs
drop_at [] n x at = cc
drop_at (y ∷ xs) zero x at = let same : x ≡ y = cc in rw same refl
drop_at (y ∷ xs) (suc n) x at = rw (drop-suc n) (drop_at xs n x at)
  where
    drop-suc : (m : ℕ) → suc m + 1 ≡ suc (m + 1)
    drop-suc m = omega arith

pub drop_all : {A : Type 0} (xs : List A) (n : ℕ) → length xs ≤ n → drop n xs ≡ []
drop_all [] zero many = refl
drop_all [] (suc n) many = refl
drop_all (y ∷ xs) zero many = absurd (omega (arith, many))
drop_all (y ∷ xs) (suc n) many = drop_all xs n (omega (arith, many))

module _ (h : Heap) (names : List (List ℕ)) (rest : List Frame) where
  pub loop_found : (frame : Frame) → ends_at_loop Exit frame ≡ true
      → is_in_loop (frames_in h names (frame ∷ rest)) ≡ true
  loop_found (Text source at) is = cc
  loop_found (Procedure part) is = cc
  loop_found (Pending word) is = cc
  loop_found (Repeat count body) is = refl
  loop_found (Loop body) is = refl
  loop_found (For control increment limit body) is = refl
  loop_found (Forall over at body) is = refl
  loop_found Stopped is = cc
  loop_found (Monitor lock) is = cc
  loop_found (Bind over at depth) is = cc

  pub stopped_found : (frame : Frame) → ends_at_stopped Stop frame ≡ true
      → is_in_loop (frames_in h names (frame ∷ rest)) ≡ false
  stopped_found (Text source at) is = cc
  stopped_found (Procedure part) is = cc
  stopped_found (Pending word) is = cc
  stopped_found (Repeat count body) is = cc
  stopped_found (Loop body) is = cc
  stopped_found (For control increment limit body) is = cc
  stopped_found (Forall over at body) is = cc
  stopped_found Stopped is = refl
  stopped_found (Monitor lock) is = cc
  stopped_found (Bind over at depth) is = cc

  pub neither_found : (frame : Frame) → ends_at_stopped Stop frame ≡ false
      → ends_at_loop Exit frame ≡ false
      → is_in_loop (frames_in h names (frame ∷ rest)) ≡ is_in_loop (frames_in h names rest)
  neither_found (Text source at) stopped loop = refl
  neither_found (Procedure part) stopped loop = refl
  neither_found (Pending word) stopped loop = refl
  neither_found (Repeat count body) stopped loop = cc
  neither_found (Loop body) stopped loop = cc
  neither_found (For control increment limit body) stopped loop = cc
  neither_found (Forall over at body) stopped loop = cc
  neither_found Stopped stopped loop = cc
  neither_found (Monitor lock) stopped loop = refl
  neither_found (Bind over at depth) stopped loop = refl

-- ---- one frame of an unwinding

module _ (births : ℕ → ℕ) (names : List (List ℕ)) (below : List world.Frame) (scene : Scene) where
  left_stop : (frame : Frame) → is_monitor frame ≡ false → ends_at_stopped Stop frame ≡ false
      → unwound_turn world.for_stop (frame_of births names frame) below scene ≡ breaks
      world.for_stop (with_frames below scene)
  unfolding unwound_turn
  left_stop (Text source at) free stopped = refl
  left_stop (Procedure part) free stopped = refl
  left_stop (Pending word) free stopped = refl
  left_stop (Repeat count body) free stopped = refl
  left_stop (Loop body) free stopped = refl
  left_stop (For control increment limit body) free stopped = refl
  left_stop (Forall over at body) free stopped = refl
  left_stop Stopped free stopped = cc
  left_stop (Monitor lock) free stopped = cc
  left_stop (Bind over at depth) free stopped = refl

  left_exit : (frame : Frame) → is_monitor frame ≡ false → ends_at_loop Exit frame ≡ false
      → unwound_turn world.for_exit (frame_of births names frame) below scene ≡ breaks
      world.for_exit (with_frames below scene)
  unfolding unwound_turn
  left_exit (Text source at) free loop = refl
  left_exit (Procedure part) free loop = refl
  left_exit (Pending word) free loop = refl
  left_exit (Repeat count body) free loop = cc
  left_exit (Loop body) free loop = cc
  left_exit (For control increment limit body) free loop = cc
  left_exit (Forall over at body) free loop = cc
  left_exit Stopped free loop = refl
  left_exit (Monitor lock) free loop = cc
  left_exit (Bind over at depth) free loop = refl

  left_quit : (frame : Frame) → is_monitor frame ≡ false
      → unwound_turn world.for_quit (frame_of births names frame) below scene ≡ breaks
      world.for_quit (with_frames below scene)
  unfolding unwound_turn
  left_quit (Text source at) free = refl
  left_quit (Procedure part) free = refl
  left_quit (Pending word) free = refl
  left_quit (Repeat count body) free = refl
  left_quit (Loop body) free = refl
  left_quit (For control increment limit body) free = refl
  left_quit (Forall over at body) free = refl
  left_quit Stopped free = refl
  left_quit (Monitor lock) free = cc
  left_quit (Bind over at depth) free = refl

  pub left : (cause : Cause) (frame : Frame) → is_monitor frame ≡ false
      → ends_at_loop cause frame ≡ false → ends_at_stopped cause frame ≡ false
      → unwound_turn (cause_of cause) (frame_of births names frame) below scene ≡ breaks
      (cause_of cause) (with_frames below scene)
  left Stop frame free loop stopped = left_stop frame free stopped
  left Exit frame free loop stopped = left_exit frame free loop
  left Quit frame free loop stopped = left_quit frame free

  ended_exit : (frame : Frame) → ends_at_loop Exit frame ≡ true
      → unwound_turn world.for_exit (frame_of births names frame) below scene ≡ leads
      (with_frames below scene)
  unfolding unwound_turn
  ended_exit (Text source at) loop = cc
  ended_exit (Procedure part) loop = cc
  ended_exit (Pending word) loop = cc
  ended_exit (Repeat count body) loop = refl
  ended_exit (Loop body) loop = refl
  ended_exit (For control increment limit body) loop = refl
  ended_exit (Forall over at body) loop = refl
  ended_exit Stopped loop = cc
  ended_exit (Monitor lock) loop = cc
  ended_exit (Bind over at depth) loop = cc

  pub ended : (cause : Cause) (frame : Frame) → ends_at_loop cause frame ≡ true
      → unwound_turn (cause_of cause) (frame_of births names frame) below scene ≡ leads
      (with_frames below scene)
  ended Exit frame loop = ended_exit frame loop
  ended Stop frame loop = absurd (true≢false (sym loop ∙ never frame))
    where
      never : (f : Frame) → ends_at_loop Stop f ≡ false
      never f = refl
  ended Quit frame loop = cc

  pub stopped_ended : (cause : Cause) (frame : Frame) → ends_at_stopped cause frame ≡ true
      → unwound_turn (cause_of cause) (frame_of births names frame) below scene ≡ stopped_turn true
      below scene
  unfolding unwound_turn
  stopped_ended Stop Stopped is = refl
  stopped_ended cause frame is = cc
