-- What settles: a running or unwinding context without frames is finished.
use Rattle.std.proofs.Common.{◌≡◌, ℕ, Bool, true, false, List, [], ◌∷◌, refl, sym, ap, ◌∙◌}
use Rattle.ps_language.specs.Effect.{Scene}
use Rattle.ps_language.specs.Machines.{with_status, told_by, may_end, is_empty, settled}
use Rattle.ps_language.specs.World.{Status, running, unwinding, finished, Machine}
use Rattle.ps_mem.specs.Heap.{birth_at}
use Rattle.ps_ops_control.specs.declared.frames.Frame.{Frame}
use Rattle.ps_ops_control.specs.Frames.{frames_in}
use Rattle.ps_ops_control.specs.Turns.{cause_of}
use Rattle.ps_ops_state.specs.Lent.{Lent}
use Rattle.ps_step_outcome.specs.declared.turned.Turned.{Turned}
use Rattle.ps_step_outcome.specs.declared.turned.Turned.TheVariants.{Goes, Calls, Breaks, Ends}
use Rattle.ps_step_outcome.specs.Turns.{IsUnderWay, reached_by}
use Rattle.ps_step_outcome.specs.Turns as turns
use Rattle.ps_ctx_table.specs.Worlds.{status_of}
use Rattle.ps_ctx_table.specs.Desks.{IsLentBy, machine_reached, course_after}

-- a frame is left
pub settled_framed : (machine : Machine) → may_end machine.context.status ≡ true
    → is_empty machine.context.frames ≡ false → settled machine ≡ machine
unfolding settled
settled_framed machine may framed = rw (may, framed) refl

-- it is over
pub settled_over : (machine : Machine) → may_end machine.context.status ≡ false
    → settled machine ≡ machine
unfolding settled
settled_over machine over = rw over refl

-- it ran, and no frame is left
pub settled_ends : (machine : Machine) → machine.context.status ≡ running
    → is_empty machine.context.frames ≡ true → settled machine ≡ with_status finished machine
unfolding settled
settled_ends machine runs empty =
    rw (ap may_end runs, empty)
    (ap (λ s. with_status finished (told_by s machine)) runs)

-- it is in this status
as_it_is : (machine : Machine) (status : Status) → machine.context.status ≡ status
    → machine ≡ with_status status machine
as_it_is machine status is =
    λ i. record machine { context = record machine.context { status = is i } }

module _ (l : Lent) (is_detached : Bool) (lines : ℕ) (machine : Machine) where
  -- with another status
  pub status_lent : (before after : Status) → IsLentBy l is_detached before lines machine
      → IsLentBy l is_detached after lines (with_status after machine)
  status_lent before after lent = record {
    shown = lent.shown;
    scene = lent.scene;
    error_dictionary = lent.error_dictionary;
    detached = lent.detached;
    is_so = refl;
    printed = lent.printed;
    error_lines = lent.error_lines;
  }

  -- whether it has a frame
  empty_by : (status : Status) (frames : List Frame) → l.frames ≡ frames
      → IsLentBy l is_detached status lines machine
      → is_empty machine.context.frames ≡ is_empty (frames_in l.heap l.names frames)
  empty_by status frames same lent =
      ap (λ (scene : Scene). is_empty scene.frames) (sym lent.scene)
      ∙ ap (λ (fs : List Frame). is_empty (frames_in l.heap l.names fs)) same

  goes_on : (frames : List Frame) → l.frames ≡ frames
      → IsLentBy l is_detached running lines machine
      → settled machine
      ≡ with_status (status_of (birth_at l.heap) (course_after Goes frames)) machine
  goes_on [] same lent = settled_ends machine lent.is_so (empty_by running [] same lent)
  goes_on (frame ∷ frames) same lent =
      settled_framed machine (ap may_end lent.is_so) (empty_by running (frame ∷ frames) same lent)
      ∙ as_it_is machine running lent.is_so

  breaks_on : (cause : _) (frames : List Frame) → l.frames ≡ frames
      → IsLentBy l is_detached (unwinding (cause_of cause)) lines machine
      → IsUnderWay (Breaks cause) frames
      → settled machine ≡ with_status (unwinding (cause_of cause)) machine
  breaks_on cause [] same lent under_way = absurd under_way
  breaks_on cause (frame ∷ frames) same lent under_way =
      settled_framed machine (ap may_end lent.is_so)
      (empty_by (unwinding (cause_of cause)) (frame ∷ frames) same lent)
      ∙ as_it_is machine (unwinding (cause_of cause)) lent.is_so

  -- the machine that a turn comes to has the status of its course
  pub settled_is : (turned : Turned)
      → IsLentBy l is_detached (turns.status_of turned) lines machine
      → IsUnderWay turned l.frames
      → machine_reached (reached_by turned machine)
      ≡ with_status (status_of (birth_at l.heap) (course_after turned l.frames)) machine
  settled_is Goes lent under_way = goes_on l.frames refl lent
  settled_is (Calls operator) lent under_way = as_it_is machine running lent.is_so
  settled_is (Breaks cause) lent under_way = breaks_on cause l.frames refl lent under_way
  settled_is (Ends told) lent under_way =
      settled_over machine (ap may_end lent.is_so) ∙ as_it_is machine finished lent.is_so
