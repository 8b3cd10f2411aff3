-- A step by the turn of one context, over the table.
use Rattle.std.proofs.Common.{◌≡◌, ℕ, ℤ, Bool, Option, Some, None, Ok, Err, refl, sym, ap, subst, ◌∙◌, arith}
use Rattle.std.specs.Prelude.{Result, OnErr}
use Rattle.ps_step_outcome.specs.declared.world_operators.WorldOperator.{WorldOperator}
use Rattle.ps_language.specs.Effect.{Around, Scene}
use Rattle.ps_language.specs.World.{Status, World}
use Rattle.ps_mem.specs.Heap.{Heap, Grants}
use Rattle.ps_mem.proofs.KeepsLemmas.{Keeps-then}
use Rattle.ps_ops_operands.specs.declared.failure.NotMade.{NotMade as Reason}
use Rattle.ps_ops_operands.specs.Changes.{most_records, spent}
use Rattle.ps_ops_control.specs.declared.frames.Cause.{Cause}
use Rattle.ps_ops_state.specs.declared.lent.Runtime.{Runtime}
use Rattle.ps_ops_state.specs.declared.lent.Attempt.{Attempt}
use Rattle.ps_ops_state.specs.Acts.{Asked, AreFew}
use Rattle.ps_ops_state.specs.Lent.{Lent, lent_of, IsShown}
use Rattle.ps_ops_state.proofs.Meeting.{logs_then}
use Rattle.ps_step_outcome.specs.declared.turned.Turned.{Turned}
use Rattle.ps_step_outcome.specs.declared.turned.Turned.TheVariants.{Goes, Calls, Breaks, Ends}
use Rattle.ps_step_interpreter.specs.Makes.{Runs}
use Rattle.ps_ctx_table.specs.declared.contexts.Contexts.{Contexts}
use Rattle.ps_ctx_table.specs.declared.members.Member.{Member}
use Rattle.ps_ctx_table.specs.Seats.{with_item}
use Rattle.ps_ctx_table.specs.Desks.{Desk, lent_to, returned, desk_of, HasFrame, IsWorld, desk_turned}
use Rattle.ps_ctx_table.proofs.Going.{with_item_members}
use Rattle.ps_ctx_table.proofs.Places.{one_there}
use Rattle.ps_ctx_table.proofs.Settled.{turned_changed}
use Rattle.ps_ctx_table.proofs.Turning.{member_at}
use Rattle.ps_ctx.specs.declared.notes.Note.{Note}
use Rattle.ps_ctx.specs.declared.notes.Note.TheVariants.{Nothing}
use Rattle.ps_ctx.specs.declared.worlds.Calling.{Calling}
use Rattle.ps_ctx.specs.Calls.{over_of, IsSameDesk}
use Rattle.ps_ctx.specs.Finishes.{calling_after, settled_desk, settled_held, Finishes}
use Rattle.ps_ctx.specs.Held.{Held, held, CourseAt, IsSteadyHeld, course_in}
use Rattle.ps_ctx.specs.Lending.{Lends, LendsDesk, RunsSo, TurnsSo}
use Rattle.ps_ctx.specs.Steps.{Steps}
use Rattle.ps_ctx.proofs.Owning.{same_desk, own_made, calls_logs, own_calls, own_steady, own_unmade, unmade_is_steady}
use Rattle.ps_ctx.proofs.Starving.{own_held}

abbrev pub failed_with : Reason → Result Note Reason
failed_with reason = Err reason

pub same_reason : (one other : Reason) → failed_with one ≡ failed_with other → one ≡ other
same_reason one other same = cc

-- a call that was left to the world, and was not made, waits
left_waits : (told : Result Note Reason) (calling : Calling) (now : Option Calling) (P : Type 0)
    → OnErr told (now ≡ Some calling) → OnErr told (now ≡ None → P)
left_waits (Ok note) calling now P waits = tt
left_waits (Err reason) calling now P waits = λ none. absurd (cc)

-- what was lent of a table is lent of what clauses see of it
pub lends_desk : {M : Type 0} (identifier : ℕ) (goes : (old new : Lent) → Type 0)
    (heap : M → Heap) (grants : M → Grants) (old_runtime new_runtime : Runtime M)
    (old new : Contexts) → Lends identifier goes heap grants old_runtime new_runtime old new
    → LendsDesk identifier goes (over_of heap grants old_runtime old)
    (over_of heap grants new_runtime new)
lends_desk identifier goes heap grants old_runtime new_runtime old new lends = record {
  member = lends.member;
  found = lends.found;
  after = lent_of heap grants lends.after new_runtime;
  goes_on = lends.goes_on;
  is = λ i. record (over_of heap grants new_runtime new) {
    members = lends.table i;
    has_faulted = lends.faulted i;
  };
}

-- the steps of it that were made
pub lends_runs : (asks : Status → Around → Scene → Asked) (identifier slot most made : ℕ)
    (next : Option (Result Turned Reason)) (framed : Bool) (old new : Desk)
    → LendsDesk identifier (RunsSo asks slot most made next framed) old new
    → LendsDesk identifier (Runs asks slot made next) old new
lends_runs asks identifier slot most made next framed old new lends = record {
  member = lends.member;
  found = lends.found;
  after = lends.after;
  goes_on = lends.goes_on.runs;
  is = lends.is;
}

module _ (asks : Status → Around → Scene → Asked) (unwinding : Option Cause)
    (before after : Desk) (identifier : ℕ) (attempt : Attempt) (shown : Option (ℤ × ℤ))
    (steady : IsSteadyHeld (held before None))
    (course : CourseAt identifier (course_in unwinding) before.members)
    (result : Result Turned Reason)
    (lends : LendsDesk identifier (TurnsSo asks unwinding attempt result) before after) where
  abbrev l : Lent
  l = lends.after

  course_is : lends.member.course ≡ course_in unwinding
  course_is =
      ap (λ (m : Member). m.course)
      (one_there before.members identifier lends.member course.member lends.found course.found)
      ∙ course.is

  -- ---- it was made

  module _ (turned : Turned) (ok : result ≡ Ok turned) where
    made : TurnsSo asks unwinding attempt (Ok turned)
        (lent_to before lends.member.context) l
    made = subst (λ r. TurnsSo asks unwinding attempt r
        (lent_to before lends.member.context) l) ok lends.goes_on

    abbrev now : Member
    now = record lends.member { context = returned l }

    settled_is : settled_desk turned identifier after
        ≡ desk_turned before identifier lends.member l turned
    settled_is =
        ap (settled_desk turned identifier) lends.is
        ∙ (λ i. record (settled_desk turned identifier
        (desk_of l (with_item before.members identifier (Some now)) before.has_faulted)) {
          members = turned_changed turned identifier before.members lends.member now
              lends.found i;
        })

    pub turned_is_steady : IsSteadyHeld (settled_held turned identifier after)
    turned_is_steady =
        subst (λ (d : Desk). IsSteadyHeld (held d (calling_after turned identifier)))
        (sym settled_is)
        (own_steady asks unwinding before steady.steady steady.framed identifier lends.member
        lends.found course_is attempt l turned made)

    settled_steps : calling_after turned identifier ≡ None
        → Steps asks identifier attempt shown (Ok Nothing) (held before None)
        (held (settled_desk turned identifier after) (calling_after turned identifier))
    settled_steps none =
        subst (λ calling. Steps asks identifier attempt shown (Ok Nothing) (held before None)
        (held (settled_desk turned identifier after) calling)) (sym none)
        (subst (λ (d : Desk). Steps asks identifier attempt shown (Ok Nothing) (held before None)
        (held d None)) (sym settled_is) (record {
          meets = λ w at ready.
              own_made asks unwinding before steady.steady steady.framed identifier lends.member
              lends.found course_is attempt l turned made none w at shown;
          held_up = λ why bad. absurd (cc);
          same = λ w at. tt;
          waits = λ some. tt;
          no_status = λ w at. tt;
          leaves = λ w at is. absurd (cc);
          caller = tt;
          logs = λ w at ready. made.logs;
          keeps = made.keeps;
          steady = subst (λ calling. IsSteadyHeld (held
              (desk_turned before identifier lends.member l turned) calling)) none
              (own_steady asks unwinding before steady.steady steady.framed identifier lends.member
              lends.found course_is attempt l turned made);
          program = made.stays.program;
          most = made.stays.most;
        }))

  module _ (operator : WorldOperator) (ok : result ≡ Ok (Calls operator)) where
    -- its turn left the memory as it was
    pub own_leaves : (w : World) → IsWorld before w → l.heap ≡ before.heap
    own_leaves w at =
        ((made (Calls operator) ok).meets w.store
        (member_at (λ one. IsShown (lent_to before one.context) w.store) before.members identifier
        lends.member at.members lends.found)).did.leaves

    calls_at : (final : Held) (told : Result Note Reason)
        → Steps asks identifier attempt shown told
        (settled_held (Calls operator) identifier after) final
        → Steps asks identifier attempt shown told (held before None) final
    calls_at final told steps =
        let on = subst (λ (d : Desk). Steps asks identifier attempt shown told
        (held d (calling_after (Calls operator) identifier)) final)
        (settled_is (Calls operator) ok) steps in
        record {
          meets = λ w at ready.
              on.meets w
              (own_calls asks unwinding before steady.steady steady.framed identifier lends.member
              lends.found course_is attempt l operator (made (Calls operator) ok) w at) ready;
          held_up = λ why is w at ready.
              on.held_up why is w
              (own_calls asks unwinding before steady.steady steady.framed identifier lends.member
              lends.found course_is attempt l operator (made (Calls operator) ok) w at) ready;
          same = λ w at.
              left_waits told (record { caller = identifier; operator = operator }) final.calling
              (IsSameDesk before final.desk) (on.waits refl);
          waits = λ some. absurd (cc);
          no_status = λ w at.
              on.no_status w
              (own_calls asks unwinding before steady.steady steady.framed identifier lends.member
              lends.found course_is attempt l operator (made (Calls operator) ok) w at);
          leaves = λ w at is.
              on.leaves w
              (own_calls asks unwinding before steady.steady steady.framed identifier lends.member
              lends.found course_is attempt l operator (made (Calls operator) ok) w at) is
              ∙ own_leaves w at;
          caller = on.caller;
          logs = λ w at ready.
              logs_then 0 (spent told most_records) (spent told most_records) before.grants l.grants
              final.desk.grants attempt.slot (omega arith)
              (calls_logs asks unwinding before steady.steady steady.framed identifier lends.member
              lends.found course_is attempt l operator (made (Calls operator) ok) w at)
              (on.logs w
              (own_calls asks unwinding before steady.steady steady.framed identifier lends.member
              lends.found course_is attempt l operator (made (Calls operator) ok) w at) ready);
          keeps = Keeps-then before.heap l.heap final.desk.heap (made (Calls operator) ok).keeps
              on.keeps;
          steady = on.steady;
          program = on.program ∙ (made (Calls operator) ok).stays.program;
          most = on.most ∙ (made (Calls operator) ok).stays.most;
        }

  pub turned_finishes : (turned : Turned) → result ≡ Ok turned → (told : Result Note Reason)
      (final : Held) → Finishes turned identifier attempt shown told
      (settled_held turned identifier after) final
      → Steps asks identifier attempt shown told (held before None) final
  turned_finishes Goes ok told final is =
      subst (λ r. Steps asks identifier attempt shown r (held before None) final) (sym is.0)
      (subst (Steps asks identifier attempt shown (Ok Nothing) (held before None)) (sym is.1)
      (settled_steps Goes ok refl))
  turned_finishes (Calls operator) ok told final is = calls_at operator ok final told (is asks)
  turned_finishes (Breaks cause) ok told final is =
      subst (λ r. Steps asks identifier attempt shown r (held before None) final) (sym is.0)
      (subst (Steps asks identifier attempt shown (Ok Nothing) (held before None)) (sym is.1)
      (settled_steps (Breaks cause) ok refl))
  turned_finishes (Ends told_line) ok told final is =
      subst (λ r. Steps asks identifier attempt shown r (held before None) final) (sym is.0)
      (subst (Steps asks identifier attempt shown (Ok Nothing) (held before None)) (sym is.1)
      (settled_steps (Ends told_line) ok refl))

  -- ---- it was not

  module _ (few : AreFew asks) (reason : Reason) (err : result ≡ Err reason) where
    unmade : TurnsSo asks unwinding attempt (Err reason)
        (lent_to before lends.member.context) l
    unmade = subst (λ r. TurnsSo asks unwinding attempt r
        (lent_to before lends.member.context) l) err lends.goes_on

    frames_are : HasFrame lends.member.course l.frames
    frames_are =
        subst (HasFrame lends.member.course) (sym unmade.framed)
        (member_at (λ one. HasFrame one.course one.context.frames) before.members identifier
        lends.member steady.framed lends.found)

    pub unmade_steps : Steps asks identifier attempt shown (Err reason) (held before None)
        (held after None)
    unmade_steps =
        subst (λ (d : Desk). Steps asks identifier attempt shown (Err reason) (held before None)
        (held d None)) (sym lends.is) (record {
          meets = λ w at ready.
              own_unmade asks unwinding before steady.steady steady.framed identifier lends.member
              lends.found course_is attempt l reason unmade w at;
          held_up = λ why is w at ready.
              own_held asks unwinding before identifier lends.member lends.found course_is attempt
              few why l (subst (λ r. TurnsSo asks unwinding attempt (Err r)
              (lent_to before lends.member.context) l)
              (same_reason reason why is) unmade) w at;
          same = λ w at. λ kept.
              same_desk before identifier lends.member l lends.found (unmade.meets w.store
              (member_at (λ one. IsShown (lent_to before one.context) w.store) before.members
              identifier lends.member at.members lends.found)).did.1;
          waits = λ some. absurd (cc);
          no_status = λ w at. tt;
          leaves = λ w at is. absurd (cc);
          caller = tt;
          logs = λ w at ready. unmade.logs;
          keeps = unmade.keeps;
          steady = record {
            steady = unmade_is_steady asks unwinding before steady.steady steady.framed identifier
                lends.member lends.found course_is attempt l reason unmade;
            framed = with_item_members (λ one. HasFrame one.course one.context.frames) before.members
                identifier (Some (record lends.member { context = returned l })) steady.framed
                frames_are;
          };
          program = unmade.stays.program;
          most = unmade.stays.most;
        })
