-- A step by the topmost frame's turn.
use Rattle.std.proofs.Common.{◌≡◌, inl, inr, ℕ, ◌≤◌, Bool, true, List, length, refl, sym, ap, subst, ◌∙◌, Ok, Err}
use Rattle.std.proofs.Common.{Option, Some, None, arith}
use Rattle.std.specs.Prelude.{Result}
use Rattle.ps_step_outcome.specs.declared.world_operators.WorldOperator.{WorldOperator}
use Rattle.ps_language.specs.Effect.{Around, Scene}
use Rattle.ps_language.specs.Machines.{turn_as, may_end, leaves_to_world, after_turn, own_step}
use Rattle.ps_language.specs.StepValues.{Turn, goes, tries, breaks, errs, asks as leaves_to}
use Rattle.ps_language.specs.World.{Status, Machine}
use Rattle.ps_mem.specs.Heap.{birth_at}
use Rattle.ps_mem.proofs.KeepsLemmas.{Keeps-then}
use Rattle.ps_ops_operands.specs.declared.failure.NotMade.{NotMade as Reason}
use Rattle.ps_ops_operands.specs.declared.failure.NotMade.TheVariants.{LogFull, LogClosed, NeedSpace, Memory}
use Rattle.ps_ops_operands.specs.Changes.{KeepsLogsWithin}
use Rattle.ps_ops_control.specs.declared.frames.Cause.{Cause}
use Rattle.ps_ops_control.specs.declared.frames.Frame.{Frame}
use Rattle.ps_ops_state.specs.declared.lent.Attempt.{Attempt}
use Rattle.ps_ops_state.specs.Acts.{Asked, Needs, IsAtLeast, IsReason, LacksRooms}
use Rattle.ps_ops_state.specs.Lent.{Lent, Rooms, scene_of, around_of, rooms_of}
use Rattle.ps_ops_state.proofs.Meeting.{logs_more, logs_then, stays_then, AreNeedsWithin, needs_within-same, reason_more}
use Rattle.ps_step_outcome.specs.declared.turned.Turned.{Turned}
use Rattle.ps_step_outcome.specs.declared.turned.Turned.TheVariants.{Calls}
use Rattle.ps_step_outcome.specs.Turns.{Turns, IsTurned, calling_of, turn_needs, needs_in, lines_after}
use Rattle.ps_step_interpreter.specs.declared.courses.AloneCourse.TheVariants.{Calling}
use Rattle.ps_step_interpreter.specs.Alone.{alone_reached, alone_step}
use Rattle.ps_step_interpreter.specs.Courses.{Held, held, course_in, has_steps, course_after, IsLentBy, IsCalling, IsAtBy}
use Rattle.ps_step_interpreter.specs.Courses.{HasFrame, IsSteady}
use Rattle.ps_step_interpreter.specs.Interprets.{status_in, own_turn, asks_in}
use Rattle.ps_step_interpreter.specs.Needs.{alone_turn_needs, machine_turn, alone_needs}
use Rattle.ps_step_interpreter.specs.Steps.{StepsTo, StepsFrom, Steps}
use Rattle.ps_language.proofs.LeftTurns.{IsLeft, left_by, leaves_whatever}
use Rattle.ps_step_interpreter.proofs.Reached.{IsMade}
use Rattle.ps_step_interpreter.proofs.Made.{next, came, next_lent, made_at, steady_after}
use Rattle.ps_step_interpreter.proofs.Unmade.{at_same, held_up}
use Rattle.ps_step_interpreter.proofs.Undefining.{needs_same as undefined_needs_same}

-- ---- by how far the context is

lent_at : (unwinding : Option Cause) (l : Lent) (lines : ℕ) (machine : Machine)
    → IsAtBy (course_in unwinding) l lines machine
    → IsLentBy l (status_in unwinding) lines machine
lent_at None l lines machine at = at
lent_at (Some cause) l lines machine at = at

pub may_in : (unwinding : Option Cause) → may_end (status_in unwinding) ≡ true
may_in None = refl
may_in (Some cause) = refl

pub steps_in : (unwinding : Option Cause) → has_steps (course_in unwinding) ≡ true
steps_in None = refl
steps_in (Some cause) = refl

frame_same : (unwinding : Option Cause) (old new : List Frame) → new ≡ old
    → HasFrame (course_in unwinding) old → HasFrame (course_in unwinding) new
frame_same unwinding old new same framed =
    subst (HasFrame (course_in unwinding)) (sym same) framed

-- ---- what is asked for

-- an operator that is left to the world asks for nothing itself
more : (refused : Bool) (asked : Asked) (birth : ℕ) (before : Scene) (turn : Turn)
    → AreNeedsWithin (turn_needs refused asked birth before turn)
    (alone_turn_needs refused asked birth before turn)
more refused asked birth before (goes scene output) = needs_within-same _
more refused asked birth before (tries command kept scene output) = needs_within-same _
more refused asked birth before (breaks cause scene) = needs_within-same _
more refused asked birth before (errs error command kept) = needs_within-same _
more refused asked birth before (leaves_to calling kept) = record {
  bytes = omega arith;
  names = omega arith;
  records = omega arith;
  words = refl;
  births = refl;
  scratch = record { text = omega arith; sought = omega arith; words = omega arith };
}

fewer_lack : (few many needs : Rooms) → IsAtLeast few many → LacksRooms many needs
    → LacksRooms few needs
fewer_lack few many needs more (inl less) =
    let text = more.text in inl (omega (arith, text, less))
fewer_lack few many needs more (inr (inl less)) =
    let sought = more.sought in inr (inl (omega (arith, sought, less)))
fewer_lack few many needs more (inr (inr less)) =
    let words = more.words in inr (inr (omega (arith, words, less)))

-- a reason by what makes no object is one from before there was more room
reason_before : (needs : Needs) (slot : ℕ) (old mid new : Lent) (reason : Reason)
    → needs.words ≡ 0 → IsAtLeast (rooms_of old.scratch) (rooms_of mid.scratch)
    → mid.grants.closed ≡ old.grants.closed → old.room ≤ mid.room
    → IsReason needs slot mid new reason → IsReason needs slot old new reason
reason_before needs slot old mid new LogFull words lists closed room why =
    (ap (λ (c : ℕ → Bool). c slot) (sym closed) ∙ why.0, why.1)
reason_before needs slot old mid new LogClosed words lists closed room why =
    (why.0, ap (λ (c : ℕ → Bool). c slot) (sym closed) ∙ why.1)
reason_before needs slot old mid new (NeedSpace count) words lists closed room why =
    let is = why.0 in
    let some = why.1 in
    absurd (omega (arith, words, is, some))
reason_before needs slot old mid new Memory words lists closed room (inl less) =
    inl (omega (arith, room, less))
reason_before needs slot old mid new Memory words lists closed room (inr (inl named)) =
    inr (inl named)
reason_before needs slot old mid new Memory words lists closed room (inr (inr (inl grown))) =
    let some = grown.0 in absurd (omega (arith, words, some))
reason_before needs slot old mid new Memory words lists closed room (inr (inr (inr lacks))) =
    inr (inr (inr (fewer_lack (rooms_of old.scratch) (rooms_of mid.scratch) needs.scratch lists
    lacks)))

-- ---- a turn

-- that of the machine is that of what is lent
pub turn_by : (l : Lent) (status : Status) (lines : ℕ) (machine : Machine)
    → IsLentBy l status lines machine
    → machine_turn l.program machine
    ≡ turn_as (around_of l) status (scene_of l machine.store).frames (scene_of l machine.store)
turn_by l status lines machine lent = λ i. turn_as
    (record { program = l.program; error_dictionary = lent.error_dictionary i })
    (lent.is_so i) (sym lent.scene i).frames (sym lent.scene i)

module _ (asks : Status → Around → Scene → Asked) (unwinding : Option Cause) (old : Lent)
    (lines : ℕ) (attempt : Attempt) where
  abbrev needs_of : Machine → Needs
  needs_of machine = alone_needs asks old.program attempt.refused machine

  abbrev here : Held
  here = held old (course_in unwinding) lines

  module _ (machine : Machine) (lent : IsLentBy old (status_in unwinding) lines machine) where
    turn_same : machine_turn old.program machine ≡ own_turn unwinding old machine.store
    turn_same = turn_by old (status_in unwinding) lines machine lent

    step_same : alone_step old.program attempt.refused machine
        ≡ alone_reached (after_turn attempt.refused machine (own_turn unwinding old machine.store))
    unfolding alone_step own_step
    step_same =
        ap (λ (t : Turn). alone_reached (after_turn attempt.refused machine t)) turn_same

    needs_same : needs_of machine
        ≡ alone_turn_needs attempt.refused (asks_in asks unwinding old machine.store)
        (birth_at old.heap old.error_dictionary) (scene_of old machine.store)
        (own_turn unwinding old machine.store)
    needs_same = λ i. alone_turn_needs attempt.refused
        (asks (lent.is_so i)
        (record { program = old.program; error_dictionary = lent.error_dictionary i })
        (sym lent.scene i)) (lent.error_dictionary i) (sym lent.scene i) (turn_same i)

    within : AreNeedsWithin
        (needs_in attempt (asks_in asks unwinding) (own_turn unwinding) old machine.store)
        (needs_of machine)
    within = subst
        (AreNeedsWithin
        (needs_in attempt (asks_in asks unwinding) (own_turn unwinding) old machine.store))
        (sym needs_same)
        (more attempt.refused (asks_in asks unwinding old machine.store)
        (birth_at old.heap old.error_dictionary) (scene_of old machine.store)
        (own_turn unwinding old machine.store))

  module _ (new : Lent) (steady : IsSteady here) where
    abbrev Turned_by : Result Turned Reason → Type 0
    Turned_by result = Turns (asks_in asks unwinding) (own_turn unwinding) attempt result old new

    -- it is made
    turn_made : (turned : Turned) → IsMade turned → Turned_by (Ok turned) → (machine : Machine)
        → IsAtBy (course_in unwinding) old lines machine
        → StepsFrom (needs_of machine) (alone_step old.program attempt.refused machine) attempt
        (Ok (tt {0})) machine here
        (held new (course_after turned new.frames) (lines_after turned lines))
    turn_made turned made turns machine at =
        let lent = lent_at unwinding old lines machine at in
        let by = turns.meets machine.store lent.shown in
        let records = (within machine lent).records in
        record {
          did = subst (IsAtBy (course_after turned new.frames) new (lines_after turned lines))
              (sym (step_same machine lent))
              (made_at attempt.refused (own_turn unwinding old machine.store) turned old new
              (status_in unwinding) lines machine lent steady.good turns.keeps turns.stays by.did
              turns.under_way made);
          logs = logs_more _ _ old.grants new.grants attempt.slot records by.logs;
        }

    pub steps_made : (turned : Turned) → IsMade turned → Turned_by (Ok turned)
        → Steps asks attempt (Ok (tt {0})) here
        (held new (course_after turned new.frames) (lines_after turned lines))
    steps_made turned made turns = record {
      meets = turn_made turned made turns;
      steady = steady_after turned new lines turns.good turns.under_way
          (steady.counted (steps_in unwinding));
      keeps = turns.keeps;
      stays = turns.stays;
    }

    -- it is not
    turn_unmade : (reason : Reason) → Turned_by (Err reason) → (machine : Machine)
        → IsAtBy (course_in unwinding) old lines machine
        → StepsFrom (needs_of machine) (alone_step old.program attempt.refused machine) attempt
        (Err reason) machine here (held new (course_in unwinding) lines)
    turn_unmade reason turns machine at =
        let lent = lent_at unwinding old lines machine at in
        let by = turns.meets machine.store lent.shown in
        let why = reason_more _ (needs_of machine) (within machine lent) attempt.slot old new reason
        by.did.0 in
        record {
          did = (
            at_same old new (course_in unwinding) lines machine by.did.1 at,
            why,
            held_up (needs_of machine) attempt.slot old new reason by.did.1 turns.logs.closed why,
          );
          logs = by.logs;
        }

    pub steps_unmade : (reason : Reason) → Turned_by (Err reason)
        → Steps asks attempt (Err reason) here (held new (course_in unwinding) lines)
    steps_unmade reason turns = record {
      meets = turn_unmade reason turns;
      steady = record {
        good = turns.good;
        framed = frame_same unwinding old.frames new.frames turns.framed steady.framed;
        counted = steady.counted;
      };
      keeps = turns.keeps;
      stays = turns.stays;
    }

  -- ---- an operator is left to the world

  module _ (operator : WorldOperator) (mid : Lent) (steady : IsSteady here)
      (turns : Turns (asks_in asks unwinding) (own_turn unwinding) attempt (Ok (Calls operator)) old
      mid) where
    module _ (machine : Machine) (lent : IsLentBy old (status_in unwinding) lines machine) where
      turned : IsTurned attempt.refused (own_turn unwinding old machine.store) (Calls operator)
          machine.store old mid
      turned = (turns.meets machine.store lent.shown).did

      abbrev left : Machine
      left = next attempt.refused (own_turn unwinding old machine.store) (Calls operator) old mid
          (status_in unwinding) lines machine lent steady.good turns.keeps turns.stays turned

      is_left : IsLeft machine (own_turn unwinding old machine.store) (calling_of operator) left
      is_left = left_by attempt.refused machine (own_turn unwinding old machine.store)
          (calling_of operator) left
          (came attempt.refused (own_turn unwinding old machine.store) (Calls operator) old mid
          (status_in unwinding) lines machine lent steady.good turns.keeps turns.stays turned)

      leaves : (refused : Bool)
          → own_step mid.program refused machine ≡ leaves_to_world (calling_of operator) left
      unfolding own_step
      leaves refused =
          ap (λ (p : List ℕ). own_step p refused machine) turns.stays.program
          ∙ (ap (after_turn refused machine) (turn_same machine lent)
          ∙ leaves_whatever refused machine (own_turn unwinding old machine.store)
          (calling_of operator) left is_left)

      calling : IsCalling mid operator lines machine
      calling = record {
        left = left;
        lent = next_lent attempt.refused (own_turn unwinding old machine.store) (Calls operator) old
            mid (status_in unwinding) lines machine lent steady.good turns.keeps turns.stays turned;
        goes_on = ap may_end lent.is_so ∙ may_in unwinding;
        leaves = leaves;
      }

      logs_none : KeepsLogsWithin 0 old.grants mid.grants attempt.slot
      logs_none =
          subst (λ (t : Turn). KeepsLogsWithin
          (turn_needs attempt.refused (asks_in asks unwinding old machine.store)
          (birth_at old.heap old.error_dictionary) (scene_of old machine.store) t).records
          old.grants mid.grants attempt.slot) is_left.asks
          (turns.meets machine.store lent.shown).logs

      more_room : old.room ≤ mid.room
      more_room =
          let same : mid.printed ≡ old.printed =
          sym (ap (λ (m : Machine). m.printed) is_left.is) ∙ lent.printed in
          let count : length mid.printed ≡ length old.printed = ap length same in
          let capacity = turns.stays.capacity in
          omega (arith, count, capacity)

      reason_old : (new : Lent) (reason : Reason)
          → IsReason (alone_needs asks mid.program attempt.refused machine) attempt.slot mid new reason
          → IsReason (alone_needs asks mid.program attempt.refused machine) attempt.slot old new reason
      reason_old new reason why =
          let same = undefined_needs_same asks mid operator lines attempt.refused machine calling in
          reason_before (alone_needs asks mid.program attempt.refused machine) attempt.slot old mid new
          reason (ap (λ (n : Needs). n.words) same) turns.stays.scratch logs_none.closed more_room
          why

      did_old : (after : Machine) (result : Result Unit Reason) (new : Held)
          → StepsTo (alone_needs asks mid.program attempt.refused machine) after attempt result machine
          (held mid (Calling operator) lines) new
          → StepsTo (alone_needs asks mid.program attempt.refused machine) after attempt result machine
          here new
      did_old after (Ok _) new did = did
      did_old after (Err reason) new did = (did.0, reason_old new.lent reason did.1, did.2)

    called_from : (result : Result Unit Reason) (new : Held)
        → Steps asks attempt result (held mid (Calling operator) lines) new → (machine : Machine)
        → IsAtBy (course_in unwinding) old lines machine
        → StepsFrom (needs_of machine) (alone_step old.program attempt.refused machine) attempt result
        machine here new
    called_from result new steps machine at =
        let lent = lent_at unwinding old lines machine at in
        let from = steps.meets machine (calling machine lent) in
        subst (λ (p : List ℕ). StepsFrom (alone_needs asks p attempt.refused machine)
        (alone_step p attempt.refused machine) attempt result machine here new) turns.stays.program
        (record {
          did = did_old machine lent (alone_step mid.program attempt.refused machine) result new
              from.did;
          logs = logs_then 0 _ _ old.grants mid.grants new.lent.grants attempt.slot (omega arith)
              (logs_none machine lent) from.logs;
        })

    pub steps_called : (result : Result Unit Reason) (new : Held)
        → Steps asks attempt result (held mid (Calling operator) lines) new
        → Steps asks attempt result here new
    steps_called result new steps = record {
      meets = called_from result new steps;
      steady = steps.steady;
      keeps = Keeps-then old.heap mid.heap new.lent.heap turns.keeps steps.keeps;
      stays = stays_then old mid new.lent turns.stays steps.stays;
    }
