-- A turn that was made comes to the machine of the definitions.
use Rattle.std.proofs.Common.{◌≡◌, ℕ, Bool, true, List, [], ◌∷◌, refl, sym, ap, subst, ◌∙◌}
use Rattle.std.proofs.lemmas.Bool.{true≢false}
use Rattle.ps_language.specs.Effect.{Scene}
use Rattle.ps_language.specs.Machines.{with_status, with_scene, may_end, is_empty, settled, after_turn}
use Rattle.ps_language.specs.StepValues.{Turn}
use Rattle.ps_language.specs.World.{Status, running, unwinding, finished, Machine}
use Rattle.ps_mem.specs.Heap.{birth_at}
use Rattle.ps_mem.specs.Keeps.{Keeps}
use Rattle.ps_mem.proofs.KeepsLemmas.{birth_at-kept}
use Rattle.ps_ops_control.specs.declared.frames.Frame.{Frame}
use Rattle.ps_ops_control.specs.Frames.{frames_in}
use Rattle.ps_ops_control.specs.Turns.{cause_of}
use Rattle.ps_ops_state.specs.Acts.{Stays}
use Rattle.ps_ops_state.specs.Lent.{Lent, scene_of, IsGood}
use Rattle.ps_step_outcome.specs.declared.turned.Turned.{Turned}
use Rattle.ps_step_outcome.specs.declared.turned.Turned.TheVariants.{Goes, Calls, Breaks, Ends}
use Rattle.ps_step_outcome.specs.Turns.{IsTurned, IsUnderWay, status_of, lines_after, reached_by}
use Rattle.ps_step_interpreter.specs.Alone.{alone_reached}
use Rattle.ps_step_interpreter.specs.Courses.{held, has_steps, course_after, HasFrame, IsLentBy, IsAtBy, IsSteady}
use Rattle.ps_step_interpreter.proofs.Reached.{IsMade, made_reached, settled_framed, settled_over, settled_ends}

-- ---- a machine that settles

module _ (l : Lent) (lines : ℕ) (machine : Machine) where
  finishes : IsLentBy l running lines machine
      → IsLentBy l finished lines (with_status finished machine)
  finishes lent = record {
    shown = lent.shown;
    scene = lent.scene;
    is_so = refl;
    error_dictionary = lent.error_dictionary;
    printed = lent.printed;
    error_lines = lent.error_lines;
  }

  -- whether it has a frame
  empty_by : (status : Status) (frames : List Frame) → l.frames ≡ frames
      → IsLentBy l status lines machine
      → is_empty machine.context.frames ≡ is_empty (frames_in l.heap l.names frames)
  empty_by status frames same lent =
      ap (λ (scene : Scene). is_empty scene.frames) (sym lent.scene)
      ∙ ap (λ (fs : List Frame). is_empty (frames_in l.heap l.names fs)) same

  goes_at : (frames : List Frame) → l.frames ≡ frames → IsLentBy l running lines machine
      → IsAtBy (course_after Goes frames) l lines (settled machine)
  goes_at [] same lent =
      subst (IsLentBy l finished lines)
      (sym (settled_ends machine lent.is_so (empty_by running [] same lent))) (finishes lent)
  goes_at (frame ∷ frames) same lent =
      subst (IsLentBy l running lines)
      (sym (settled_framed machine (ap may_end lent.is_so)
      (empty_by running (frame ∷ frames) same lent))) lent

  breaks_at : (cause : _) (frames : List Frame) → l.frames ≡ frames
      → IsLentBy l (unwinding (cause_of cause)) lines machine → IsUnderWay (Breaks cause) frames
      → IsLentBy l (unwinding (cause_of cause)) lines (settled machine)
  breaks_at cause [] same lent under_way = absurd under_way
  breaks_at cause (frame ∷ frames) same lent under_way =
      subst (IsLentBy l (unwinding (cause_of cause)) lines)
      (sym (settled_framed machine (ap may_end lent.is_so)
      (empty_by (unwinding (cause_of cause)) (frame ∷ frames) same lent))) lent

  pub settled_at : (turned : Turned) → IsLentBy l (status_of turned) lines machine
      → IsUnderWay turned l.frames → IsMade turned
      → IsAtBy (course_after turned l.frames) l lines (settled machine)
  settled_at Goes lent under_way made = goes_at l.frames refl lent
  settled_at (Calls operator) lent under_way made = absurd made
  settled_at (Breaks cause) lent under_way made = breaks_at cause l.frames refl lent under_way
  settled_at (Ends told) lent under_way made =
      subst (IsLentBy l finished lines) (sym (settled_over machine (ap may_end lent.is_so))) lent

-- ---- a turn of a machine

module _ (refused : Bool) (turn : Turn) (turned : Turned) (old new : Lent) (status : Status)
    (lines : ℕ) (machine : Machine) (lent : IsLentBy old status lines machine)
    (good : IsGood old) (keeps : Keeps old.heap new.heap) (stays : Stays old new)
    (turns : IsTurned refused turn turned machine.store old new) where
  -- the machine that it comes to, before it settles
  abbrev pub next : Machine
  next = record (with_scene (scene_of new turns.after) (status_of turned) machine)
      { printed = new.printed; error_lines = lines_after turned machine.error_lines }

  pub came : after_turn refused machine turn ≡ reached_by turned next
  came = turns.is machine lent.printed lent.error_dictionary

  same_birth : machine.context.error_dictionary ≡ birth_at new.heap new.error_dictionary
  same_birth =
      lent.error_dictionary
      ∙ (sym (birth_at-kept old.heap new.heap keeps old.error_dictionary
      good.error_stands.stands.object good.error_stands.stands.at)
      ∙ ap (birth_at new.heap) (sym stays.error_dictionary))

  pub next_lent : IsLentBy new (status_of turned) (lines_after turned lines) next
  next_lent = record {
    shown = turns.shown;
    scene = refl;
    is_so = refl;
    error_dictionary = same_birth;
    printed = refl;
    error_lines = ap (lines_after turned) lent.error_lines;
  }

  pub made_at : IsUnderWay turned new.frames → IsMade turned
      → IsAtBy (course_after turned new.frames) new (lines_after turned lines)
      (alone_reached (after_turn refused machine turn))
  made_at under_way made =
      subst (IsAtBy (course_after turned new.frames) new (lines_after turned lines))
      (sym (ap alone_reached came ∙ made_reached turned next made))
      (settled_at new (lines_after turned lines) next turned next_lent under_way made)

-- ---- what holds in every memory

frame_after : (turned : Turned) (frames : List Frame) → IsUnderWay turned frames
    → HasFrame (course_after turned frames) frames
frame_after Goes [] under_way = tt
frame_after Goes (frame ∷ frames) under_way = tt
frame_after (Calls operator) frames under_way = tt
frame_after (Breaks cause) [] under_way = under_way
frame_after (Breaks cause) (frame ∷ frames) under_way = tt
frame_after (Ends told) frames under_way = tt

counted_after : (turned : Turned) (frames : List Frame) (lines : ℕ) → lines ≡ 0
    → has_steps (course_after turned frames) ≡ true → lines_after turned lines ≡ 0
counted_after Goes frames lines none steps = none
counted_after (Calls operator) frames lines none steps = none
counted_after (Breaks cause) frames lines none steps = none
counted_after (Ends told) frames lines none steps = absurd (true≢false (sym steps))

pub steady_after : (turned : Turned) (l : Lent) (lines : ℕ) → IsGood l
    → IsUnderWay turned l.frames → lines ≡ 0
    → IsSteady (held l (course_after turned l.frames) (lines_after turned lines))
steady_after turned l lines good under_way none = record {
  good = good;
  framed = frame_after turned l.frames under_way;
  counted = counted_after turned l.frames lines none;
}
