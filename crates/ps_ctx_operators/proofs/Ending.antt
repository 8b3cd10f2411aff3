-- What was done comes to its end: its caller settles, or its error is noted.
use Rattle.std.proofs.Common.{◌≡◌, ℕ, ◌≤◌, arith, ℤ, Bool, false, List, [], ◌∷◌, Option, Some, None, Ok, Err, refl, sym}
use Rattle.std.proofs.Common.{ap, subst, ◌∙◌}
use Rattle.std.specs.Prelude.{◌||◌}
use Rattle.ps_language.specs.declared.errors.ErrorName.{ErrorName}
use Rattle.ps_step_outcome.specs.declared.world_operators.WorldOperator.{WorldOperator}
use Rattle.ps_language.specs.Contexts.{context_at}
use Rattle.ps_language.specs.Effect.{Deed, does, waits}
use Rattle.ps_language.specs.Machines.{reaches, failed, settled}
use Rattle.ps_language.specs.Outcome.{Outcome, leaves, fails}
use Rattle.ps_language.specs.Step.{after_deed, lifted}
use Rattle.ps_language.specs.StepValues.{Turn, command_of}
use Rattle.ps_language.specs.Value.{Store}
use Rattle.ps_language.specs.World.{Context, Machine, World}
use Rattle.ps_mem.specs.Heap.{Heap, Grants, birth_at}
use Rattle.ps_mem.proofs.KeepsLemmas.{Keeps-then}
use Rattle.ps_ops_operands.specs.declared.failure.NotMade.{NotMade as Reason}
use Rattle.ps_ops_operands.specs.Changes.{most_records}
use Rattle.ps_ops_control.specs.declared.frames.Frame.{Frame}
use Rattle.ps_ops_state.specs.declared.breaks.Break.TheVariants.{Unwinds, Raises, NotMade}
use Rattle.ps_ops_control.specs.declared.frames.Cause.{Cause}
use Rattle.ps_ops_state.specs.declared.lent.Shared.{Shared}
use Rattle.ps_ops_state.specs.declared.lent.Attempt.{Attempt}
use Rattle.ps_ops_state.specs.Acts.{no_rooms}
use Rattle.ps_ops_state.specs.Lent.{Lent, scene_of, IsShown}
use Rattle.ps_ops_state.proofs.Meeting.{logs-same, logs_then}
use Rattle.ps_step_outcome.specs.declared.turned.Turned.{Turned}
use Rattle.ps_step_outcome.specs.declared.turned.Turned.TheVariants.{Goes, Calls as TurnedCalls, Breaks, Ends}
use Rattle.ps_step_outcome.specs.Turns.{Turns, TurnsBy, IsUnderWay, calling_of, error_needs, needs_in, nothing_more}
use Rattle.ps_step_outcome.specs.Turns.{operator_error, reached_by}
use Rattle.ps_step_outcome.specs.WorldOperators.{operator_of}
use Rattle.ps_ctx_table.specs.declared.members.Course.TheVariants.{Running}
use Rattle.ps_ctx_table.specs.declared.members.Member.{Member}
use Rattle.ps_ctx_table.specs.Seats.{item_at, with_item}
use Rattle.ps_ctx_table.specs.Worlds.{context_of}
use Rattle.ps_ctx_table.specs.Desks.{Desk, desk, lent_to, returned, desk_turned, desk_unmade, course_after, member_left}
use Rattle.ps_ctx_table.specs.Desks.{tells, turned_member, turned_members, HasFrame, AreFramed, IsOwn, IsCourseHeld}
use Rattle.ps_ctx_table.specs.Desks.{IsGoodMember, IsWorld, IsSteady}
use Rattle.ps_ctx_table.proofs.Changing.{changed_desk, changed_steady}
use Rattle.ps_ctx_table.proofs.Going.{with_item_members, left_members}
use Rattle.ps_ctx_table.proofs.Lifting.{settled_world, failed_world}
use Rattle.ps_ctx_table.proofs.Places.{with_item-twice, one_there}
use Rattle.ps_ctx_table.proofs.Settled.{turned_there}
use Rattle.ps_ctx_table.proofs.Stepping.{context_there}
use Rattle.ps_ctx_table.proofs.Turning.{member_at, frame_after, went_steady, turned_reaches, unmade_steady, unmade_world}
use Rattle.ps_ctx.specs.declared.notes.Note.{Note}
use Rattle.ps_ctx.specs.declared.notes.Note.TheVariants.{Nothing, ShowsMemory}
use Rattle.ps_ctx.specs.Calls.{RunsAt, AreFramedBut, IsSameDesk, IsHeldUpAs, CallsTo, Calls, call_by, call_wants}
use Rattle.ps_ctx.specs.Calls.{deed_wants}
use Rattle.ps_ctx.specs.Growth.{Growth, growth_for}
use Rattle.ps_ctx.proofs.Called.{same_members}
use Rattle.ps_ctx.proofs.Owning.{same_desk}
use Rattle.ps_ctx.proofs.Starving.{few_in, held_by}
use Rattle.ps_ctx_operators.specs.Done.{IsLeftAs, outcome_of, DoesBy, own_of}
use Rattle.ps_ctx_operators.proofs.Parts.{or_false, same_then, part_runs, part_framed}
use Rattle.ps_ctx_operators.proofs.StatusLemmas.{other_or_status, failed_no, called_no}

held_after : (h : Heap) (frames : List Frame) → IsCourseHeld h (course_after Goes frames)
held_after h [] = tt
held_after h (frame ∷ frames) = tt

-- with a framed one in the caller's place
framed_with : (members : List (Option Member)) (caller : ℕ) (member : Member)
    → AreFramedBut caller members → HasFrame member.course member.context.frames
    → AreFramed (with_item members caller (member_left member))
framed_with members caller member framed one =
    subst AreFramed (with_item-twice members caller None (member_left member))
    (with_item_members (λ each. HasFrame each.course each.context.frames)
    (with_item members caller None) caller (member_left member) framed
    (left_members (λ each. HasFrame each.course each.context.frames) member one))

own_of_own : (turned : Turned) → IsOwn (own_of turned)
own_of_own Goes = tt
own_of_own (TurnedCalls operator) = tt
own_of_own (Breaks cause) = tt
own_of_own (Ends told) = tt

own_same : (turned : Turned) → IsOwn turned → own_of turned ≡ turned
own_same Goes own = refl
own_same (TurnedCalls operator) own = absurd own
own_same (Breaks cause) own = refl
own_same (Ends told) own = refl

own_under_way : (turned : Turned) (frames : List Frame) → IsUnderWay turned frames
    → IsUnderWay (own_of turned) frames
own_under_way Goes frames under_way = tt
own_under_way (TurnedCalls operator) frames under_way = tt
own_under_way (Breaks cause) frames under_way = under_way
own_under_way (Ends told) frames under_way = tt

own_held : (h : Heap) (turned : Turned) (frames : List Frame)
    → IsCourseHeld h (course_after (own_of turned) frames)
own_held h Goes frames = held_after h frames
own_held h (TurnedCalls operator) frames = held_after h frames
own_held h (Breaks cause) frames = tt
own_held h (Ends told) frames = tt

-- it runs
pub runs_by : (members : List (Option Member)) (caller : ℕ) (member : Member)
    → item_at members caller ≡ Some member → RunsAt caller members → member.course ≡ Running
runs_by members caller member found at =
    ap (λ (one : Member). one.course) (one_there members caller member at.member found at.found)
    ∙ at.runs

-- the desk where it settled
pub settled_desk_is : (h : Heap) (grants : Grants) (members after : List (Option Member))
    (caller : ℕ) (member : Member) (shared : Shared) (had faulted : Bool)
    → item_at members caller ≡ Some member → after ≡ turned_members Goes caller members
    → faulted ≡ (had || false)
    → desk h grants after shared faulted
    ≡ changed_desk (desk h grants members shared had) caller (turned_member Goes member)
settled_desk_is h grants members after caller member shared had faulted found is told =
    let table = is ∙ turned_there Goes caller members member found in
    let line = told ∙ or_false had in
    λ i. desk h grants (table i) shared (line i)

-- an error leaves nothing to the world
own_reached : (turned : Turned) (machine next : Machine) → reaches machine ≡ reached_by turned next
    → IsOwn turned
own_reached Goes machine next is = tt
own_reached (TurnedCalls operator) machine next is = cc
own_reached (Breaks cause) machine next is = tt
own_reached (Ends told) machine next is = tt

module _ (operator : WorldOperator) (caller : ℕ) (attempt : Attempt) (shown : Option (ℤ × ℤ))
    (old d : Desk) (member : Member) (found : item_at d.members caller ≡ Some member)
    (runs : member.course ≡ Running) (steady : IsSteady d) where
  -- ---- it settles

  abbrev pub settled_desk : Desk
  settled_desk = changed_desk d caller (turned_member Goes member)

  ends_as : (note : Note) (w : World) (outcome : Outcome Deed) → IsLeftAs note outcome d
      → CallsTo (Ok note) (after_deed (calling_of operator) caller w outcome) w settled_desk
  ends_as note w (leaves (does told next)) left =
      (settled_world d next left.0 caller member found runs, left.1)
  ends_as note w (leaves waits) left = absurd left
  ends_as note w (fails error) left = absurd left

  pub settled_steady : IsSteady settled_desk
  settled_steady =
      let good = member_at (IsGoodMember d) d.members caller member steady.members found in
      changed_steady d caller (turned_member Goes member) steady
      (record { good = good.good; course = held_after d.heap member.context.frames })

  pub ended : (note : Note) → DoesBy operator caller attempt shown (Ok note) old d
      → Calls operator caller attempt shown (Ok note) old settled_desk
  ended note done = record {
    meets = λ w context at there.
        ends_as note w (outcome_of operator caller attempt.refused w context shown)
        (done.meets w context at there);
    steady = settled_steady;
    keeps = done.keeps;
    program = done.program;
    most = done.most;
    framed = λ framed. framed_with d.members caller (turned_member Goes member)
        (done.framed framed) (frame_after Goes member.context.frames tt tt);
    unmade = tt;
    same = λ w at. tt;
    held_up = λ reason bad. absurd (cc);
    logs = done.logs;
    no_status = λ w context at there. tt;
    leaves = λ is. let same : note ≡ ShowsMemory = cc in
        done.leaves (ap (λ (n : Note). Ok n) same);
  }

  -- no operator begins an unwinding
  pub unwound : (cause : Cause)
      → DoesBy operator caller attempt shown (Err (Unwinds cause)) old d
      → Calls operator caller attempt shown (Ok Nothing) old settled_desk
  unwound cause done = record {
    meets = λ w context at there. absurd (done.meets w context at there);
    steady = settled_steady;
    keeps = done.keeps;
    program = done.program;
    most = done.most;
    framed = λ framed. framed_with d.members caller (turned_member Goes member)
        (done.framed framed) (frame_after Goes member.context.frames tt tt);
    unmade = tt;
    same = λ w at. tt;
    held_up = λ reason bad. absurd (cc);
    logs = logs_then 0 5 5 old.grants d.grants d.grants attempt.slot (omega arith) done.logs
        (logs-same 5 d.grants attempt.slot);
    no_status = λ w context at there. tt;
    leaves = λ is. absurd (cc);
  }

  -- ---- it was not made

  pub unended : (reason : Reason) → DoesBy operator caller attempt shown (Err (NotMade reason)) old d
      → Calls operator caller attempt shown (Err reason) old d
  unended reason done = record {
    meets = done.meets;
    steady = done.steady;
    keeps = done.keeps;
    program = done.program;
    most = done.most;
    framed = tt;
    unmade = (done.runs, done.framed);
    same = done.same;
    held_up = λ why is. done.held_up why (ap (λ r. Err (NotMade r)) (cc));
    logs = done.logs;
    no_status = λ w context at there. λ refused any.
        called_no (calling_of operator) caller refused any w context
        (other_or_status operator context.operands (call_by caller any w context)
        (λ is. absurd (done.made is reason refl)));
    leaves = λ is. absurd (cc);
  }

  -- ---- its error is noted, or is not

  module _ (error : ErrorName) (new : Lent)
      (done : DoesBy operator caller attempt shown (Err (Raises error)) old d) where
    abbrev turn : Lent → Store → Turn
    turn = operator_error (operator_of operator) error

    module _ (turned : Turned)
        (made : Turns nothing_more turn attempt (Ok turned) (lent_to d member.context) new) where
      abbrev pub raised_desk : Desk
      raised_desk = desk_turned d caller member new (own_of turned)

      own_is : (w : World) → IsWorld d w → own_of turned ≡ turned
      own_is w at =
          own_same turned (own_reached turned _ _
          (turned_reaches d steady caller member found nothing_more turn attempt new turned made w at))

      raised_world : (w : World) → IsWorld d w → IsWorld raised_desk
          (lifted caller (λ machine.
          settled (failed error (command_of (operator_of operator)) machine)) w)
      raised_world w at =
          subst (λ (t : Turned). IsWorld (desk_turned d caller member new t)
          (lifted caller (λ machine.
          settled (failed error (command_of (operator_of operator)) machine)) w))
          (sym (own_is w at))
          (failed_world d w at caller member found runs steady nothing_more (operator_of operator)
          error attempt new turned made)

      pub raised : Calls operator caller attempt shown (Ok Nothing) old raised_desk
      raised = record {
        meets = λ w context at there.
            let to = done.meets w context at there in
            subst (λ (outcome : Outcome Deed).
            CallsTo (Ok Nothing) (after_deed (calling_of operator) caller w outcome) w raised_desk)
            (sym (to.0 shown)) (raised_world w to.1, refl);
        steady =
            went_steady d steady caller member new (course_after (own_of turned) new.frames)
            (d.has_faulted || tells (own_of turned)) made.keeps made.stays made.good
            (own_held new.heap turned new.frames);
        keeps = Keeps-then old.heap d.heap new.heap done.keeps made.keeps;
        program = made.stays.program ∙ done.program;
        most = made.stays.most ∙ done.most;
        framed = λ framed.
            framed_with d.members caller (turned_member (own_of turned)
            (record member { context = returned new })) (done.framed framed)
            (frame_after (own_of turned) new.frames
            (own_under_way turned new.frames made.under_way) (own_of_own turned));
        unmade = tt;
        same = λ w at. tt;
        held_up = λ reason bad. absurd (cc);
        logs = logs_then 0 5 5 old.grants d.grants new.grants attempt.slot (omega arith) done.logs
            made.logs;
        no_status = λ w context at there. tt;
        leaves = λ is. absurd (cc);
      }

    module _ (reason : Reason)
        (unmade : Turns nothing_more turn attempt (Err reason) (lent_to d member.context) new) where
      abbrev pub unraised_desk : Desk
      unraised_desk = desk_unmade d caller member new

      unmade_by : (w : World) → IsWorld d w
          → TurnsBy (needs_in attempt nothing_more turn (lent_to d member.context) w.store) attempt
          (Err reason) (turn (lent_to d member.context) w.store) w.store
          (lent_to d member.context) new
      unmade_by w at =
          unmade.meets w.store (member_at (λ one. IsShown (lent_to d one.context) w.store)
          d.members caller member at.members found)

      -- by the line of the error, of which the output has no room
      line_wants : (w : World) → IsWorld d w
          → growth_for (needs_in attempt nothing_more turn (lent_to d member.context) w.store)
          ≡ deed_wants (calling_of operator) w (context_of d.heap d.names member) (fails error)
      line_wants w at = λ i.
          growth_for (error_needs no_rooms (birth_at d.heap member.context.error_dictionary)
          (record (scene_of (lent_to d member.context) w.store) { names = sym at.names i }) error
          (command_of (operator_of operator))
          (record (scene_of (lent_to d member.context) w.store) { names = sym at.names i }))

      line_held : (w : World) (context : Context) → IsWorld d w
          → context_at w caller ≡ Some context
          → IsHeldUpAs (deed_wants (calling_of operator) w context (fails error)) attempt.slot
          new.heap new.grants reason
      line_held w context at there =
          let l = lent_to d member.context in
          let by = unmade_by w at in
          let needs = needs_in attempt nothing_more turn l w.store in
          let fewer : needs.records ≤ most_records =
          few_in attempt.refused (nothing_more l w.store) (birth_at l.heap l.error_dictionary)
          (scene_of l w.store) (turn l w.store) (omega arith) in
          let here : Some (context_of d.heap d.names member) ≡ Some context =
          sym (context_there d w at caller member found) ∙ there in
          let same : context_of d.heap d.names member ≡ context = cc in
          subst (λ (one : Context). IsHeldUpAs
          (deed_wants (calling_of operator) w one (fails error)) attempt.slot new.heap new.grants
          reason) same
          (subst (λ (wanted : Growth). IsHeldUpAs wanted attempt.slot new.heap new.grants reason)
          (line_wants w at)
          (held_by needs attempt.slot l new reason fewer by.did.1 by.logs.closed by.did.0))

      -- the desk before what was done is the same but for what was granted
      unraised_same : (w : World) → IsWorld old w → IsSameDesk old unraised_desk
      unraised_same w at =
          let kept = done.same w at in
          let there =
          ap (λ (members : List (Option Member)). item_at members caller)
          (sym (same_members old d kept)) ∙ found in
          let to = done.meets w (context_of old.heap old.names member) at
          (context_there old w at caller member there) in
          same_then old d unraised_desk kept
          (same_desk d caller member new found (unmade_by w to.1).did.1)

      pub unraised : Calls operator caller attempt shown (Err reason) old unraised_desk
      unraised = record {
        meets = λ w context at there.
            unmade_world d steady caller member found nothing_more turn attempt new reason unmade w
            (done.meets w context at there).1;
        steady =
            unmade_steady d steady caller member found nothing_more turn attempt new reason unmade;
        keeps = Keeps-then old.heap d.heap new.heap done.keeps unmade.keeps;
        program = unmade.stays.program ∙ done.program;
        most = unmade.stays.most ∙ done.most;
        framed = tt;
        unmade = (
          part_runs d caller member found runs new,
          λ framed. part_framed d caller member found runs new (done.framed framed),
        );
        same = unraised_same;
        held_up = λ why is w context at there.
            let same : reason ≡ why = cc in
            let to = done.meets w context at there in
            subst (λ r. IsHeldUpAs
            (call_wants (calling_of operator) caller attempt.refused w context) attempt.slot
            new.heap new.grants r) same
            (subst (λ (outcome : Outcome Deed). IsHeldUpAs
            (deed_wants (calling_of operator) w context outcome) attempt.slot new.heap new.grants
            reason) (sym (to.0 None))
            (line_held w context to.1 there));
        logs = logs_then 0 0 0 old.grants d.grants new.grants attempt.slot (omega arith) done.logs
            unmade.logs;
        no_status = λ w context at there. λ refused any.
            called_no (calling_of operator) caller refused any w context
            (other_or_status operator context.operands (call_by caller any w context)
            (λ is. failed_no attempt.refused w context caller any error
            (ap (λ (one : WorldOperator). outcome_of one caller attempt.refused w context any) (sym is)
            ∙ (done.meets w context at there).0 any)));
        leaves = λ is. absurd (cc);
      }
