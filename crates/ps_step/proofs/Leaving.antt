-- A loop is left by exit, with the procedures above it (PLRM2, 8 'Operators': exit).
use Rattle.std.proofs.Common.{◌≡◌, ℕ, suc, ◌+◌, true, false, List, [], ◌∷◌, drop, Option, Some, None, Ok, refl, subst}
use Rattle.std.proofs.Common.{arith}
use Rattle.std.specs.Prelude.{option_map, Result}
use Rattle.ps_ops_operands.specs.declared.failure.NotMade.{NotMade as Reason}
use Rattle.ps_language.specs.World.{unwinding, for_exit}
use Rattle.ps_ops_control.specs.declared.frames.Frame.{Frame}
use Rattle.ps_ops_control.specs.declared.frames.Frame.TheVariants.{Text, Procedure, Pending, Repeat, Loop, For, Forall}
use Rattle.ps_ops_control.specs.declared.frames.Frame.TheVariants.{Stopped, Monitor, Bind}
use Rattle.ps_ops_control.specs.declared.frames.Cause.TheVariants.{Exit}
use Rattle.ps_ops_control.specs.Turns.{ends_at_loop, is_monitor, frames_to_loop}
use Rattle.ps_ops_state.specs.Lent.{Lent}
use Rattle.ps_ops_state.specs.Attempts.{ordinary}
use Rattle.ps_step_outcome.specs.declared.turned.Turned.{Turned}
use Rattle.ps_step_outcome.specs.declared.turned.Turned.TheVariants.{Goes, Breaks}
use Rattle.ps_step_outcome.specs.Turns.{IsUnderWay}
use Rattle.ps_step_execute.specs.Values.{Asks}
use Rattle.ps_step_frames.proofs.Going.{frame_ends, frame_left}
use Rattle.ps_step_interpreter.specs.Makes.{TurnsBehind}
use Rattle.ps_step_interpreter.specs.OwnSteps.{HasCome, HasRun}
use Rattle.ps_step_interpreter.proofs.Running.{come_more, running_come}
use Rattle.ps_step.specs.Steps.{own_asks}

some_left : (frames : List Frame) (count : ℕ) → frames_to_loop frames ≡ Some count
    → IsUnderWay (Breaks Exit) frames
some_left [] count found = absurd (cc)
some_left (frame ∷ frames) count found = tt

module _ (asks : Asks) (slot : ℕ) where
  -- a loop goes, and the context goes on
  loop_goes : (made : ℕ) (old l : Lent) (top : Frame) (below : List Frame)
      → l.frames ≡ top ∷ below → HasCome made (unwinding for_exit) old l
      → is_monitor top ≡ false → ends_at_loop Exit top ≡ true → (count : ℕ) → Some 1 ≡ Some count
      → HasRun (made + count) old (record l { frames = drop count (top ∷ below) })
  loop_goes made old l top below is come free loop count found =
      let one : 1 ≡ count = cc in
      subst (λ k. HasRun (made + k) old (record l { frames = drop k (top ∷ below) })) one
      (come_more (own_asks asks) slot made (Some Exit) Goes tt old l (record l { frames = below })
      come (frame_ends l come.good (ordinary slot) Exit top below is free loop))

  -- the frames up to it go
  unwound : (made : ℕ) (old l : Lent) (frames : List Frame) → l.frames ≡ frames
      → HasCome made (unwinding for_exit) old l → (count : ℕ)
      → frames_to_loop frames ≡ Some count
      → HasRun (made + count) old (record l { frames = drop count frames })
  unwound made old l [] is come count found = absurd (cc)
  unwound made old l (Procedure rest ∷ below) is come count found =
      by (frames_to_loop below) refl found
      (λ under same further n inside. unwound (made + 1) old under below same further n inside)
    where
      by : (inner : Option ℕ) → frames_to_loop below ≡ inner → option_map suc inner ≡ Some count
          → ((under : Lent) → under.frames ≡ below
          → HasCome (made + 1) (unwinding for_exit) old under → (n : ℕ)
          → frames_to_loop below ≡ Some n
          → HasRun (made + 1 + n) old (record under { frames = drop n below }))
          → HasRun (made + count) old (record l { frames = drop count (Procedure rest ∷ below) })
      by None inside same further = absurd (cc)
      by (Some n) inside same further =
          let one : suc n ≡ count = cc in
          let under : Lent = record l { frames = below } in
          let steps : made + 1 + n ≡ made + suc n = omega arith in
          subst (λ k. HasRun (made + k) old
          (record l { frames = drop k (Procedure rest ∷ below) })) one
          (subst (λ m. HasRun m old (record l { frames = drop n below })) steps
          (further under refl
          (come_more (own_asks asks) slot made (Some Exit) (Breaks Exit) tt old l under come
          (frame_left l come.good (ordinary slot) Exit (Procedure rest) below is refl refl refl
          (some_left below n inside))) n inside))
  unwound made old l (Repeat number body ∷ below) is come count found =
      loop_goes made old l (Repeat number body) below is come refl refl count found
  unwound made old l (Loop body ∷ below) is come count found =
      loop_goes made old l (Loop body) below is come refl refl count found
  unwound made old l (For control increment limit body ∷ below) is come count found =
      loop_goes made old l (For control increment limit body) below is come refl refl count found
  unwound made old l (Forall over at body ∷ below) is come count found =
      loop_goes made old l (Forall over at body) below is come refl refl count found
  unwound made old l (Text source at ∷ below) is come count found = absurd (cc)
  unwound made old l (Pending word ∷ below) is come count found = absurd (cc)
  unwound made old l (Monitor lock ∷ below) is come count found = absurd (cc)
  unwound made old l (Stopped ∷ below) is come count found = absurd (cc)
  unwound made old l (Bind over at depth ∷ below) is come count found = absurd (cc)

  -- behind an exit
  pub exit_behind : (made : ℕ) (old new : Lent)
      → TurnsBehind (own_asks asks) slot made (Ok (Breaks Exit)) old new
      → (count : ℕ) → frames_to_loop new.frames ≡ Some count
      → HasRun (made + 1 + count) old (record new { frames = drop count new.frames })
  exit_behind made old new behind count found =
      unwound (made + 1) old new new.frames refl
      (come_more (own_asks asks) slot made None (Breaks Exit) tt old behind.mid new
      (running_come made old behind.mid behind.makes behind.framed) behind.turns) count found

-- what is behind them is as it was where the frames are
pub still_behind : (asks : Asks) (slot made : ℕ) (turn : Result Turned Reason) (old new : Lent)
    (frames : List Frame) → TurnsBehind (own_asks asks) slot made turn old new
    → new.frames ≡ frames
    → TurnsBehind (own_asks asks) slot made turn old (record new { frames = frames })
still_behind asks slot made turn old new frames behind same =
    subst (λ (fs : List Frame). TurnsBehind (own_asks asks) slot made turn old
    (record new { frames = fs })) same behind
