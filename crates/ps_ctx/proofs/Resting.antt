-- Steps of contexts that wait: a lock is taken again, and others make none.
use Rattle.std.proofs.Common.{◌≡◌, ℕ, ℤ, Bool, true, false, Option, None, Ok, Err, refl, sym, ap, subst, ◌∙◌, arith}
use Rattle.std.proofs.lemmas.Bool.{true≢false}
use Rattle.std.specs.Prelude.{if◌then◌else◌}
use Rattle.std.specs.Option.{option_map_or}
use Rattle.ps_language.specs.Contexts.{context_at}
use Rattle.ps_language.specs.Effect.{Around, Scene}
use Rattle.ps_language.specs.Locks.{is_ready_as, is_ready}
use Rattle.ps_language.specs.Step.{Stepped, plainly, moved_as, stepped}
use Rattle.ps_language.specs.World.{Status, Context, World}
use Rattle.ps_mem.specs.Heap.{birth_at}
use Rattle.ps_ops_operands.specs.declared.failure.NotMade.{NotMade as Reason}
use Rattle.ps_ops_operands.specs.Changes.{most_records}
use Rattle.ps_ops_state.specs.declared.lent.Attempt.{Attempt}
use Rattle.ps_ops_state.specs.Acts.{Asked}
use Rattle.ps_ops_state.proofs.Meeting.{keeps-same, logs-same, logs_more}
use Rattle.ps_ctx_table.specs.declared.members.Course.{Course}
use Rattle.ps_ctx_table.specs.declared.members.Course.TheVariants.{Running, Unwinding, Again, Waiting, Retaking}
use Rattle.ps_ctx_table.specs.declared.members.Course.TheVariants.{Finished}
use Rattle.ps_ctx_table.specs.Worlds.{status_of, context_of}
use Rattle.ps_ctx_table.specs.Desks.{Desk, AreFramed, IsWorld}
use Rattle.ps_ctx_table.proofs.Stepping.{context_there}
use Rattle.ps_ctx.specs.declared.notes.Note.TheVariants.{Nothing}
use Rattle.ps_ctx.specs.Calls.{Retakes}
use Rattle.ps_ctx.specs.Held.{held, CourseAt, IsSteadyHeld}
use Rattle.ps_ctx.specs.Needs.{step_wants}
use Rattle.ps_ctx.specs.Steps.{Steps}
use Rattle.ps_ctx.proofs.Called.{same_members}
use Rattle.ps_ctx.proofs.Starving.{unlogged_held}
use Rattle.ps_ctx.proofs.Turned.{failed_with, same_reason}

-- in a course that makes no step
abbrev pub IsResting : Course → Type 0
IsResting (Waiting lock condition) = Unit {0}
IsResting Finished = Unit {0}
IsResting course = ⊥

module _ (asks : Status → Around → Scene → Asked) (d : Desk)
    (steady : IsSteadyHeld (held d None)) (identifier : ℕ) (attempt : Attempt)
    (shown : Option (ℤ × ℤ)) where
  module _ (course : Course) (here : CourseAt identifier course d.members) where
    abbrev context : Context
    context = context_of d.heap d.names here.member

    status_is : context.status ≡ status_of (birth_at d.heap) course
    status_is = ap (status_of (birth_at d.heap)) here.is

    module _ (w : World) (at : IsWorld d w) where
      ready_is : is_ready w identifier
          ≡ is_ready_as (status_of (birth_at d.heap) course) identifier context w
      unfolding is_ready
      ready_is =
          ap (λ (one : Option Context). option_map_or (λ it.
          is_ready_as it.status identifier it w) one false)
          (context_there d w at identifier here.member here.found)
          ∙ ap (λ status. is_ready_as status identifier context w) status_is

      step_is : is_ready w identifier ≡ true
          → stepped w identifier attempt.refused shown
          ≡ moved_as (status_of (birth_at d.heap) course) identifier attempt.refused shown w context
      unfolding stepped
      step_is ready =
          ap (λ (b : Bool). if b then option_map_or (λ one.
          moved_as one.status identifier attempt.refused shown w one) (context_at w identifier)
          (plainly w) else plainly w) ready
          ∙ (ap (λ (one : Option Context). option_map_or (λ it.
          moved_as it.status identifier attempt.refused shown w it) one (plainly w))
          (context_there d w at identifier here.member here.found)
          ∙ ap (λ status. moved_as status identifier attempt.refused shown w context) status_is)

  -- ---- one that waits for a condition, or is finished

  unready : (course : Course) → IsResting course → (one : Context) (w : World)
      → is_ready_as (status_of (birth_at d.heap) course) identifier one w ≡ false
  unready Running resting one w = absurd resting
  unready (Unwinding cause) resting one w = absurd resting
  unready Again resting one w = absurd resting
  unready (Waiting lock condition) resting one w = refl
  unready (Retaking lock) resting one w = absurd resting
  unready Finished resting one w = refl

  pub rests : (course : Course) → CourseAt identifier course d.members → IsResting course
      → Steps asks identifier attempt shown (Ok Nothing) (held d None) (held d None)
  rests course here resting = record {
    meets = λ w at ready. absurd (true≢false (sym ready
        ∙ (ready_is course here w at ∙ unready course resting (context course here) w)));
    held_up = λ why bad. absurd (cc);
    same = λ w at. tt;
    waits = λ some. tt;
    no_status = λ w at. tt;
    leaves = λ w at is. absurd (cc);
    caller = tt;
    logs = λ w at ready. logs-same most_records d.grants attempt.slot;
    keeps = keeps-same d.heap;
    steady = steady;
    program = refl;
    most = refl;
  }

  -- ---- one that takes its lock again

  module _ (lock : ℕ) (here : CourseAt identifier (Retaking lock) d.members) (new : Desk) where
    pub retakes : Retakes identifier attempt (Ok (tt {0})) d new
        → Steps asks identifier attempt shown (Ok Nothing) (held d None) (held new None)
    retakes done = record {
      meets = λ w at ready.
          let to = done.meets w (context (Retaking lock) here) (birth_at d.heap lock) at
          (context_there d w at identifier here.member here.found)
          (status_is (Retaking lock) here) in
          let is = step_is (Retaking lock) here w at ready in (
            subst (λ (s : Stepped). IsWorld new s.world) (sym is) to,
            refl,
            ap (λ (s : Stepped). s.note) (sym is),
          );
      held_up = λ why bad. absurd (cc);
      same = λ w at. tt;
      waits = λ some. tt;
      no_status = λ w at. tt;
      leaves = λ w at is. absurd (cc);
      caller = tt;
      logs = λ w at ready.
          logs_more 1 most_records d.grants new.grants attempt.slot (omega arith) done.logs;
      keeps = done.keeps;
      steady = record { steady = done.steady; framed = done.framed steady.framed };
      program = done.program;
      most = done.most;
    }

    pub unretaken : (reason : Reason) → Retakes identifier attempt (Err reason) d new
        → Steps asks identifier attempt shown (failed_with reason) (held d None) (held new None)
    unretaken reason done = record {
      meets = λ w at ready.
          done.meets w (context (Retaking lock) here) (birth_at d.heap lock) at
          (context_there d w at identifier here.member here.found)
          (status_is (Retaking lock) here);
      held_up = λ why is w at ready.
          unlogged_held (step_wants asks identifier attempt.refused w) attempt.slot new.heap d.grants
          new.grants done.logs.closed why
          (done.held_up why (ap (λ r. Err r) (same_reason reason why is)));
      same = λ w at. λ kept. done.unmade;
      waits = λ some. absurd (cc);
      no_status = λ w at. tt;
      leaves = λ w at is. absurd (cc);
      caller = tt;
      logs = λ w at ready. done.logs;
      keeps = done.keeps;
      steady = record {
        steady = done.steady;
        framed = subst AreFramed (sym (same_members d new done.unmade)) steady.framed;
      };
      program = done.program;
      most = done.most;
    }
