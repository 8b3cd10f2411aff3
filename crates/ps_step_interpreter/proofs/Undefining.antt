-- The error of an operator that is left to the world.
use Rattle.std.proofs.Common.{◌≡◌, ℕ, Bool, arith, refl, sym, ap, subst, ◌∙◌, Ok, Err}
use Rattle.ps_language.specs.declared.errors.ErrorName.TheVariants.{Undefined}
use Rattle.ps_step_outcome.specs.declared.world_operators.WorldOperator.{WorldOperator}
use Rattle.ps_language.specs.Effect.{Around, Scene}
use Rattle.ps_language.specs.Machines as machines
use Rattle.ps_language.specs.Machines.{with_scene, failed, settled, after_turn, own_step}
use Rattle.ps_language.specs.StepValues.{Turn, errs, command_of}
use Rattle.ps_language.specs.World.{Status, running, Machine}
use Rattle.ps_mem.specs.Heap.{birth_at}
use Rattle.ps_ops_operands.specs.declared.failure.NotMade.{NotMade as Reason}
use Rattle.ps_ops_operands.specs.Changes.{KeepsLogsWithin}
use Rattle.ps_ops_state.specs.declared.lent.Attempt.{Attempt}
use Rattle.ps_ops_state.specs.Acts.{Asked, Needs, IsReason, no_rooms}
use Rattle.ps_ops_state.specs.Lent.{Lent, Rooms, scene_of}
use Rattle.ps_ops_state.proofs.Meeting.{AreNeedsWithin, reason_more}
use Rattle.ps_step_outcome.specs.declared.turned.Turned.{Turned}
use Rattle.ps_step_outcome.specs.WorldOperators.{operator_of}
use Rattle.ps_step_outcome.specs.Turns.{Turns, calling_of, error_needs, nothing_more, operator_error, lines_after}
use Rattle.ps_step_interpreter.specs.declared.courses.AloneCourse.TheVariants.{Calling}
use Rattle.ps_step_interpreter.specs.Alone.{alone_reached, alone_step}
use Rattle.ps_step_interpreter.specs.Courses.{held, course_after, IsCalling, IsAtBy, IsSteady}
use Rattle.ps_step_interpreter.specs.Needs.{alone_turn_needs, machine_turn, alone_needs}
use Rattle.ps_step_interpreter.specs.Steps.{StepsFrom, Steps}
use Rattle.ps_language.proofs.LeftTurns.{IsLeft, left_by}
use Rattle.ps_step_interpreter.proofs.Reached.{made_by}
use Rattle.ps_step_interpreter.proofs.Made.{next, came, made_at, steady_after}
use Rattle.ps_step_interpreter.proofs.Unmade.{at_same, held_up}

module _ (asks : Status → Around → Scene → Asked) (l : Lent) (operator : WorldOperator) (lines : ℕ) where
  module _ (refused : Bool) (machine : Machine) (at : IsCalling l operator lines machine) where
    is_left : IsLeft machine (machine_turn l.program machine) (calling_of operator) at.left
    unfolding own_step
    is_left = left_by refused machine (machine_turn l.program machine) (calling_of operator) at.left
        (at.leaves refused)

    kept_same : is_left.kept ≡ scene_of l at.left.store
    kept_same = ap machines.scene_of is_left.is ∙ sym at.lent.scene

    birth_same : machine.context.error_dictionary ≡ birth_at l.heap l.error_dictionary
    birth_same =
        ap (λ (m : Machine). m.context.error_dictionary) is_left.is ∙ at.lent.error_dictionary

    -- what is asked for beside: lists alone
    abbrev listed_needs : Rooms → Needs
    listed_needs rooms =
        error_needs rooms (birth_at l.heap l.error_dictionary) (scene_of l at.left.store)
        Undefined (command_of (operator_of operator)) (scene_of l at.left.store)

    abbrev pub asked_here : Asked
    asked_here =
        asks machine.context.status (machines.around_of l.program machine) (machines.scene_of machine)

    pub needs_same : alone_needs asks l.program refused machine ≡ listed_needs asked_here.scratch
    needs_same =
        ap (alone_turn_needs refused asked_here machine.context.error_dictionary
        (machines.scene_of machine)) is_left.asks
        ∙ (λ i. error_needs asked_here.scratch (birth_same i) (kept_same i) Undefined
        (command_of (operator_of operator)) (kept_same i))

    needs_more : AreNeedsWithin (listed_needs no_rooms) (alone_needs asks l.program refused machine)
    needs_more = subst (AreNeedsWithin (listed_needs no_rooms)) (sym needs_same) (record {
      bytes = omega arith;
      names = omega arith;
      records = omega arith;
      words = refl;
      births = refl;
      scratch = record { text = omega arith; sought = omega arith; words = omega arith };
    })

    left_again : with_scene (scene_of l at.left.store) running at.left ≡ at.left
    left_again = λ i. with_scene (at.lent.scene i) (sym at.lent.is_so i) at.left

    next_same : alone_reached (after_turn refused at.left
        (errs Undefined (command_of (operator_of operator)) (scene_of l at.left.store)))
        ≡ alone_step l.program refused machine
    unfolding alone_step
    next_same =
        ap (λ (m : Machine). settled (failed Undefined (command_of (operator_of operator)) m)) left_again
        ∙ ap alone_reached (sym (at.leaves refused))

  module _ (new : Lent) (attempt : Attempt) (steady : IsSteady (held l (Calling operator) lines)) where
    -- it is noted
    undefined_made : (turned : Turned)
        → Turns nothing_more (operator_error (operator_of operator) Undefined) attempt (Ok turned) l new
        → (machine : Machine) → (at : IsCalling l operator lines machine)
        → StepsFrom (alone_needs asks l.program attempt.refused machine)
        (alone_step l.program attempt.refused machine) attempt (Ok (tt {0})) machine
        (held l (Calling operator) lines)
        (held new (course_after turned new.frames) (lines_after turned lines))
    undefined_made turned turns machine at =
        let by = turns.meets at.left.store at.lent.shown in
        let turn : Turn = operator_error (operator_of operator) Undefined l at.left.store in
        let made = made_by turned _
        (next attempt.refused turn turned l new running lines at.left at.lent steady.good turns.keeps
        turns.stays by.did)
        (came attempt.refused turn turned l new running lines at.left at.lent steady.good turns.keeps
        turns.stays by.did) in
        record {
          did = subst
              (IsAtBy (course_after turned new.frames) new (lines_after turned lines))
              (next_same attempt.refused machine at)
              (made_at attempt.refused turn turned l new running lines at.left at.lent steady.good
              turns.keeps turns.stays by.did turns.under_way made);
          logs = subst
              (λ (n : Needs). KeepsLogsWithin n.records l.grants new.grants attempt.slot)
              (sym (needs_same attempt.refused machine at)) by.logs;
        }

    pub steps_undefined : (turned : Turned)
        → Turns nothing_more (operator_error (operator_of operator) Undefined) attempt (Ok turned) l new
        → Steps asks attempt (Ok (tt {0})) (held l (Calling operator) lines)
        (held new (course_after turned new.frames) (lines_after turned lines))
    steps_undefined turned turns = record {
      meets = undefined_made turned turns;
      steady = steady_after turned new lines turns.good turns.under_way (steady.counted refl);
      keeps = turns.keeps;
      stays = turns.stays;
    }

    -- or waits
    undefined_unmade : (reason : Reason)
        → Turns nothing_more (operator_error (operator_of operator) Undefined) attempt (Err reason) l new
        → (machine : Machine) → (at : IsCalling l operator lines machine)
        → StepsFrom (alone_needs asks l.program attempt.refused machine)
        (alone_step l.program attempt.refused machine) attempt (Err reason) machine
        (held l (Calling operator) lines) (held new (Calling operator) lines)
    undefined_unmade reason turns machine at =
        let by = turns.meets at.left.store at.lent.shown in
        let needs : Needs = alone_needs asks l.program attempt.refused machine in
        let why : IsReason needs attempt.slot l new reason =
        reason_more _ needs (needs_more attempt.refused machine at) attempt.slot l new reason
        by.did.0 in
        record {
          did = (
            at_same l new (Calling operator) lines machine by.did.1 at,
            why,
            held_up needs attempt.slot l new reason by.did.1 turns.logs.closed why,
          );
          logs = by.logs;
        }

    pub steps_waiting : (reason : Reason)
        → Turns nothing_more (operator_error (operator_of operator) Undefined) attempt (Err reason) l new
        → Steps asks attempt (Err reason) (held l (Calling operator) lines)
        (held new (Calling operator) lines)
    steps_waiting reason turns = record {
      meets = undefined_unmade reason turns;
      steady = record { good = turns.good; framed = tt; counted = steady.counted };
      keeps = turns.keeps;
      stays = turns.stays;
    }
