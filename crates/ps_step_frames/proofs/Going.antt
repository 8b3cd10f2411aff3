-- Unwindings, by the frame that goes.
use Rattle.std.proofs.Common.{◌≡◌, ℕ, Bool, true, false, List, ◌∷◌, drop, Some, Ok, refl, sym, ap, subst, ◌∙◌, arith}
use Rattle.std.specs.Prelude.{Result}
use Rattle.ps_language.specs.Value.{Store}
use Rattle.ps_language.specs.StepValues.{Turn}
use Rattle.ps_language.specs.StepFrames.{unwound_turn}
use Rattle.ps_language.specs.Machines.{with_scene, settled, reaches}
use Rattle.ps_language.specs.World.{unwinding}
use Rattle.ps_stacks.specs.Tops.{first_of}
use Rattle.ps_mem.specs.Heap.{birth_at}
use Rattle.ps_ops_operands.specs.declared.failure.NotMade.{NotMade as Reason}
use Rattle.ps_ops_operands.proofs.Operands.{first_split}
use Rattle.ps_ops_control.specs.declared.frames.Frame.{Frame}
use Rattle.ps_ops_control.specs.declared.frames.Frame.TheVariants.{Text, Procedure, Pending, Repeat, Loop, For, Forall, Stopped, Monitor, Bind}
use Rattle.ps_ops_control.specs.declared.frames.Cause.{Cause}
use Rattle.ps_ops_control.specs.Frames.{frame_of, frames_in}
use Rattle.ps_ops_control.specs.Turns.{cause_of, ends_at_loop, ends_at_stopped, is_monitor}
use Rattle.ps_ops_control.proofs.FramesLeft.{left, ended, stopped_ended}
use Rattle.ps_ops_state.specs.declared.lent.Attempt.{Attempt}
use Rattle.ps_ops_state.specs.Lent.{Lent, scene_of, IsShown, IsGood}
use Rattle.ps_step_outcome.specs.declared.turned.Turned.{Turned}
use Rattle.ps_step_outcome.specs.declared.turned.Turned.TheVariants.{Goes, Breaks}
use Rattle.ps_step_outcome.specs.Turns.{IsUnderWay, Turns, break_turn, nothing_more}
use Rattle.ps_step_frames.specs.Steps.{unwinding_turn, gone_turn, truth_turn, unwinding_asks, unwound_asks, with_frames}
use Rattle.ps_ops_state.proofs.Meeting.{keeps-same, lasts-same, logs-same, stays_as, at_least-same}
use Rattle.ps_step_outcome.proofs.Composing.{composes, restacked_good, restacked_shown, turns_as}
use Rattle.ps_step_frames.proofs.Framing.{below_good, goes_here}

module _ (l : Lent) (good : IsGood l) (cause : Cause) (top : Frame)
    (is : Some top ≡ first_of l.frames) where
  unwound_is : (s : Store) → unwound_turn (cause_of cause) (frame_of (birth_at l.heap) l.names top)
      (frames_in l.heap l.names (drop 1 l.frames)) (scene_of l s) ≡ unwinding_turn cause l s
  unwound_is s = sym (rw (first_split l.frames top is) refl)

  -- over the frames below
  pub gone_is : is_monitor top ≡ false → (s : Store) → IsShown l s
      → gone_turn (ends_at_loop cause top) (ends_at_stopped cause top) cause
      (with_frames (drop 1 l.frames) l) s ≡ unwinding_turn cause l s
  gone_is free s shown = by (ends_at_loop cause top) (ends_at_stopped cause top) refl refl
    where
      by : (loop stopped : Bool) → ends_at_loop cause top ≡ loop
          → ends_at_stopped cause top ≡ stopped
          → gone_turn loop stopped cause (with_frames (drop 1 l.frames) l) s
          ≡ unwinding_turn cause l s
      by true stopped loop_is stopped_is =
          sym (ended (birth_at l.heap) l.names (frames_in l.heap l.names (drop 1 l.frames))
          (scene_of l s) cause top loop_is) ∙ unwound_is s
      by false true loop_is stopped_is =
          sym (stopped_ended (birth_at l.heap) l.names
          (frames_in l.heap l.names (drop 1 l.frames)) (scene_of l s) cause top stopped_is)
          ∙ unwound_is s
      by false false loop_is stopped_is =
          sym (left (birth_at l.heap) l.names (frames_in l.heap l.names (drop 1 l.frames))
          (scene_of l s) cause top free loop_is stopped_is) ∙ unwound_is s

-- ---- once the frame has gone

module _ (l : Lent) (attempt : Attempt) (cause : Cause) (frame : Frame) where
  abbrev gone : Lent → Store → Turn
  gone = gone_turn (ends_at_loop cause frame) (ends_at_stopped cause frame) cause

  pub gone_ended : IsGood l → ends_at_loop cause frame ≡ true
      → Turns nothing_more gone attempt (Ok Goes) l l
  gone_ended good loop =
      subst (λ (b : Bool). Turns nothing_more
      (gone_turn b (ends_at_stopped cause frame) cause) attempt (Ok Goes) l l) (sym loop)
      (goes_here l good (gone_turn true (ends_at_stopped cause frame) cause) attempt
      (λ s shown. refl))

  module _ (loop : ends_at_loop cause frame ≡ false) (result : Result Turned Reason) (new : Lent)
    where
      gone_on : (stopped : Bool) → ends_at_stopped cause frame ≡ stopped
          → Turns nothing_more (gone_turn false stopped cause) attempt result l new
          → Turns nothing_more gone attempt result l new
      gone_on stopped is turns =
          subst (λ (b : Bool). Turns nothing_more
          (gone_turn b (ends_at_stopped cause frame) cause) attempt result l new) (sym loop)
          (subst (λ (b : Bool). Turns nothing_more (gone_turn false b cause) attempt result l new)
          (sym is) turns)

      pub gone_stopped : ends_at_stopped cause frame ≡ true
          → Turns nothing_more (truth_turn true) attempt result l new
          → Turns nothing_more gone attempt result l new
      gone_stopped is turns = gone_on true is turns

      pub gone_left : ends_at_stopped cause frame ≡ false
          → Turns nothing_more (break_turn (cause_of cause)) attempt result l new
          → Turns nothing_more gone attempt result l new
      gone_left is turns = gone_on false is turns

-- ---- frames that hold no lock

pub no_monitor : (top : Frame) → ((lock : ℕ) → top ≡ Monitor lock → ⊥) → is_monitor top ≡ false
no_monitor (Monitor lock) other = absurd (other lock refl)
no_monitor (Text source at) other = refl
no_monitor (Procedure rest) other = refl
no_monitor (Pending word) other = refl
no_monitor (Repeat count body) other = refl
no_monitor (Loop body) other = refl
no_monitor (For control increment limit body) other = refl
no_monitor (Forall over at body) other = refl
no_monitor Stopped other = refl
no_monitor (Bind over at depth) other = refl

unlocked_asks : (top : Frame) (below : List Frame) (l : Lent) (s : Store)
    → is_monitor top ≡ false
    → nothing_more l s ≡ unwound_asks (frames_in l.heap l.names (top ∷ below))
unlocked_asks (Monitor lock) below l s free = cc
unlocked_asks (Text source at) below l s free = refl
unlocked_asks (Procedure rest) below l s free = refl
unlocked_asks (Pending word) below l s free = refl
unlocked_asks (Repeat count body) below l s free = refl
unlocked_asks (Loop body) below l s free = refl
unlocked_asks (For control increment limit body) below l s free = refl
unlocked_asks (Forall over at body) below l s free = refl
unlocked_asks Stopped below l s free = refl
unlocked_asks (Bind over at depth) below l s free = refl

pub unlocked : (l new : Lent) (cause : Cause) (attempt : Attempt) (result : Result Turned Reason)
    (top : Frame) → Some top ≡ first_of l.frames → is_monitor top ≡ false
    → Turns nothing_more (unwinding_turn cause) attempt result l new
    → Turns unwinding_asks (unwinding_turn cause) attempt result l new
unlocked l new cause attempt result top is free turns =
    turns_as nothing_more unwinding_asks (unwinding_turn cause) (unwinding_turn cause) attempt result
    l new (λ s shown. refl) (λ s shown. unlocked_asks top (drop 1 l.frames) l s free
    ∙ ap (λ (fs : List Frame). unwound_asks (frames_in l.heap l.names fs))
    (sym (first_split l.frames top is))) turns

-- ---- a frame that goes by itself

-- while frames are left an unwinding goes on
breaks_here : (l : Lent) (attempt : Attempt) (cause : Cause) → IsGood l
    → IsUnderWay (Breaks cause) l.frames
    → Turns nothing_more (break_turn (cause_of cause)) attempt (Ok (Breaks cause)) l l
breaks_here l attempt cause good under_way = record {
  meets = λ s shown. record {
    did = record {
      after = s;
      shown = shown;
      lasts = lasts-same s;
      leaves = tt;
      is = λ machine was address.
          (λ i. reaches (settled
          (record (with_scene (scene_of l s) (unwinding (cause_of cause)) machine)
          { printed = was i })));
    };
    logs = logs-same _ l.grants attempt.slot;
  };
  good = good;
  keeps = keeps-same l.heap;
  stays = stays_as l l refl refl refl refl (omega arith) (at_least-same _);
  logs = logs-same _ l.grants attempt.slot;
  framed = tt;
  under_way = under_way;
}

module _ (l : Lent) (good : IsGood l) (attempt : Attempt) (cause : Cause) (top : Frame)
    (below : List Frame) (is : l.frames ≡ top ∷ below) (free : is_monitor top ≡ false) where
  first_is : Some top ≡ first_of l.frames
  first_is = sym (ap (λ (fs : List Frame). first_of fs) is)

  rest_is : drop 1 l.frames ≡ below
  rest_is = ap (drop 1) is

  abbrev under : Lent
  under = record l { frames = drop 1 l.frames }

  under_good : IsGood under
  under_good = restacked_good l l.operands (drop 1 l.frames) (below_good l good) good

  -- as what is left of it turns
  gone_turns : (turned : Turned)
      → Turns nothing_more (gone_turn (ends_at_loop cause top) (ends_at_stopped cause top) cause)
      attempt (Ok turned) under under
      → Turns unwinding_asks (unwinding_turn cause) attempt (Ok turned) l
      (record l { frames = below })
  gone_turns turned turns =
      subst (λ (fs : List Frame). Turns unwinding_asks (unwinding_turn cause) attempt (Ok turned) l
      (record l { frames = fs })) rest_is
      (unlocked l under cause attempt (Ok turned) top first_is free
      (composes l l.operands (drop 1 l.frames) nothing_more nothing_more (unwinding_turn cause)
      (gone_turn (ends_at_loop cause top) (ends_at_stopped cause top) cause) attempt IsShown
      (restacked_shown l l.operands (drop 1 l.frames) (below_good l good))
      (gone_is l good cause top first_is free) (λ s shown. refl) turned under turns))

  -- it ends there
  pub frame_ends : ends_at_loop cause top ≡ true
      → Turns unwinding_asks (unwinding_turn cause) attempt (Ok Goes) l (record l { frames = below })
  frame_ends loop = gone_turns Goes (gone_ended under attempt cause top under_good loop)

  -- it goes on below
  pub frame_left : ends_at_loop cause top ≡ false → ends_at_stopped cause top ≡ false
      → IsUnderWay (Breaks cause) below
      → Turns unwinding_asks (unwinding_turn cause) attempt (Ok (Breaks cause)) l
      (record l { frames = below })
  frame_left loop stopped some =
      gone_turns (Breaks cause)
      (gone_left under attempt cause top loop (Ok (Breaks cause)) under stopped
      (breaks_here under attempt cause under_good
      (subst (IsUnderWay (Breaks cause)) (sym rest_is) some)))
