-- A step that tries a call again.
use Rattle.std.proofs.Common.{◌≡◌, ℕ, ℤ, Bool, true, Option, Some, None, Ok, Err, refl, sym, ap, subst, ◌∙◌, List}
use Rattle.std.specs.Prelude.{IsSome, if◌then◌else◌}
use Rattle.std.specs.Option.{option_map_or}
use Rattle.ps_step_outcome.specs.declared.world_operators.WorldOperator.{WorldOperator}
use Rattle.ps_language.specs.Contexts.{context_at, with_context}
use Rattle.ps_language.specs.Effect.{Around, Scene, Calling as CallingOf}
use Rattle.ps_language.specs.Locks.{is_ready, retried}
use Rattle.ps_language.specs.Machines.{with_status}
use Rattle.ps_language.specs.Step.{machine_of, with_machine, Stepped, plainly, called, moved_as, stepped}
use Rattle.ps_language.specs.World.{Status, running as runs_on, again as tries_again, Context, Machine, World}
use Rattle.ps_mem.specs.Heap.{Heap, birth_at}
use Rattle.ps_ops_operands.specs.declared.failure.NotMade.{NotMade as Reason}
use Rattle.ps_ops_operands.specs.Changes.{values_in}
use Rattle.ps_ops_state.specs.declared.lent.Attempt.{Attempt}
use Rattle.ps_ops_state.specs.Acts.{Asked}
use Rattle.ps_ops_state.specs.Lent.{IsShown}
use Rattle.ps_step_outcome.specs.Turns.{calling_of}
use Rattle.ps_ctx_table.specs.declared.members.Course.{Course}
use Rattle.ps_ctx_table.specs.declared.members.Course.TheVariants.{Running, Again}
use Rattle.ps_ctx_table.specs.declared.members.Member.{Member}
use Rattle.ps_ctx_table.specs.Seats.{item_at, with_item}
use Rattle.ps_ctx_table.specs.Worlds.{status_of, context_of}
use Rattle.ps_ctx_table.specs.Desks.{Desk, lent_to, HasFrame, AreFramed, IsWorld, IsGoodMember, IsSteady, member_left}
use Rattle.ps_ctx_table.proofs.Changing.{changed_world, changed_steady}
use Rattle.ps_ctx_table.proofs.Going.{with_item_members}
use Rattle.ps_ctx_table.proofs.Owning.{put_back}
use Rattle.ps_ctx_table.proofs.Places.{with_item-same, with_item-twice, item_at-with_item, one_there}
use Rattle.ps_ctx_table.proofs.Stepping.{context_there}
use Rattle.ps_ctx_table.proofs.Turning.{member_at, regranted}
use Rattle.ps_ctx.specs.declared.notes.Note.{Note}
use Rattle.ps_ctx.specs.Calls.{RunsAt, AreFramedBut, Calls, IsHeldUpAs, call_wants}
use Rattle.ps_ctx.specs.Growth.{Growth}
use Rattle.ps_ctx.specs.Held.{held, IsSteadyHeld}
use Rattle.ps_ctx.specs.Needs.{wants_as, step_wants}
use Rattle.ps_ctx.specs.Steps.{Steps}
use Rattle.ps_ctx.proofs.Called.{same_members}
use Rattle.ps_ctx.proofs.Calling.{none_left}
use Rattle.ps_ctx.proofs.Owning.{framed_but}
use Rattle.ps_ctx.proofs.Starving.{wants_there}

-- a context in another course
abbrev pub in_course : Course → Member → Member
in_course course member = record member { course = course }

abbrev pub desk_with : Desk → (identifier : ℕ) → Member → Desk
desk_with d identifier member =
    record d { members = with_item d.members identifier (Some member) }

module _ (d : Desk) (steady : IsSteady d) (identifier : ℕ) (member : Member)
    (found : item_at d.members identifier ≡ Some member) where
  good_here : IsGoodMember d member
  good_here = member_at (IsGoodMember d) d.members identifier member steady.members found

  pub runs_at : RunsAt identifier (desk_with d identifier (in_course Running member)).members
  runs_at = record {
    member = in_course Running member;
    found = item_at-with_item d.members identifier member (Some (in_course Running member)) found;
    runs = refl;
  }

  running_left : with_item d.members identifier (Some (in_course Running member))
      ≡ with_item d.members identifier (member_left (in_course Running member))
  running_left =
      ap (with_item d.members identifier)
      (sym (none_left member.is_detached (in_course Running member)))

  pub running_steady : IsSteady (desk_with d identifier (in_course Running member))
  running_steady =
      subst (λ members. IsSteady (record d { members = members })) (sym running_left)
      (changed_steady d identifier (in_course Running member) steady
      (record { good = good_here.good; course = tt }))

  -- the world where it runs
  module _ (w : World) (at : IsWorld d w) where
    abbrev context : Context
    context = context_of d.heap d.names member

    abbrev running_machine : Machine
    running_machine = with_status runs_on (machine_of w context)

    pub running_world : IsWorld (desk_with d identifier (in_course Running member))
        (with_machine identifier w running_machine)
    unfolding with_context
    running_world =
        subst (λ members. IsWorld (record d { members = members })
        (with_machine identifier w running_machine)) (sym running_left)
        (changed_world d identifier (in_course Running member) w at
        (member_at (λ one. IsShown (lent_to d one.context) w.store) d.members identifier member
        at.members found))

    pub running_there : context_at (with_machine identifier w running_machine) identifier
        ≡ Some running_machine.context
    running_there =
        put_back w identifier context (context_there d w at identifier member found)
        running_machine (none_left member.is_detached running_machine.context)

  -- it is still there where the call was not made
  pub back_some : (operator : WorldOperator) (new : Desk) (attempt : Attempt) (shown : Option (ℤ × ℤ))
      (reason : Reason) → Calls operator identifier attempt shown (Err reason)
      (desk_with d identifier (in_course Running member)) new → IsSome (item_at new.members identifier)
  back_some operator new attempt shown reason calls = subst IsSome (sym calls.unmade.0.found) refl

module _ (asks : Status → Around → Scene → Asked) (d : Desk)
    (steady : IsSteadyHeld (held d None)) (identifier : ℕ) (member : Member)
    (found : item_at d.members identifier ≡ Some member) (is : member.course ≡ Again)
    (operator : WorldOperator)
    (tries : (h : Heap) (names : List (List ℕ))
    → calling_of operator ≡ retried (values_in h names member.context.operands))
    (attempt : Attempt) (shown : Option (ℤ × ℤ)) where
  abbrev running : Desk
  running = desk_with d identifier (in_course Running member)

  module _ (w : World) (at : IsWorld d w) where
    abbrev here : Context
    here = context_of d.heap d.names member

    there : context_at w identifier ≡ Some here
    there = context_there d w at identifier member found

    abbrev machine : Machine
    machine = with_status runs_on (machine_of w here)

    status_is : here.status ≡ tries_again
    status_is = ap (status_of (birth_at d.heap)) is

    step_tries : is_ready w identifier ≡ true
        → stepped w identifier attempt.refused shown
        ≡ called (calling_of operator) identifier attempt.refused shown
        (with_machine identifier w machine) machine.context
    unfolding stepped
    step_tries ready =
        ap (λ (b : Bool). if b then option_map_or (λ one.
        moved_as one.status identifier attempt.refused shown w one) (context_at w identifier)
        (plainly w) else plainly w) ready
        ∙ (ap (λ (one : Option Context). option_map_or (λ it.
        moved_as it.status identifier attempt.refused shown w it) one (plainly w)) there
        ∙ (ap (λ status. moved_as status identifier attempt.refused shown w here) status_is
        ∙ ap (λ (calling : CallingOf). called calling identifier attempt.refused shown
        (with_machine identifier w machine) machine.context) (sym (tries d.heap d.names))))

    wants_call : step_wants asks identifier attempt.refused w ≡ call_wants (calling_of operator)
        identifier attempt.refused (with_machine identifier w machine) machine.context
    wants_call =
        wants_there asks identifier attempt.refused w here there
        ∙ (ap (λ status. wants_as asks status identifier attempt.refused w (machine_of w here))
        status_is
        ∙ ap (λ (calling : CallingOf). call_wants calling identifier attempt.refused
        (with_machine identifier w machine) machine.context) (sym (tries d.heap d.names)))

  framed_here : AreFramedBut identifier running.members
  framed_here = framed_but d.members identifier (Some (in_course Running member)) steady.framed

  pub retry_made : (note : Note) (new : Desk)
      → Calls operator identifier attempt shown (Ok note) running new
      → Steps asks identifier attempt shown (Ok note) (held d None) (held new None)
  retry_made note new calls = record {
    meets = λ w at ready.
        let to = calls.meets (with_machine identifier w (machine w at)) (machine w at).context
        (running_world d steady.steady identifier member found w at)
        (running_there d steady.steady identifier member found w at) in (
          subst (λ (s : Stepped). IsWorld new s.world) (sym (step_tries w at ready)) to.0,
          refl,
          to.1 ∙ ap (λ (s : Stepped). s.note) (sym (step_tries w at ready)),
        );
    held_up = λ why bad. absurd (cc);
    same = λ w at. tt;
    waits = λ some. tt;
    no_status = λ w at. tt;
    leaves = λ w at is. calls.leaves is;
    caller = tt;
    logs = λ w at ready. calls.logs;
    keeps = calls.keeps;
    steady = record { steady = calls.steady; framed = calls.framed framed_here };
    program = calls.program;
    most = calls.most;
  }

  -- it tries again later
  module _ (reason : Reason) (new : Desk)
      (calls : Calls operator identifier attempt shown (Err reason) running new) (back : Member)
      (back_there : Some back ≡ item_at new.members identifier) where
    abbrev final : Desk
    final = desk_with new identifier (in_course Again back)

    -- in a world
    module _ (w : World) (at : IsWorld d w) where
      abbrev running_w : World
      running_w = with_machine identifier w (machine w at)

      there_w : IsWorld running running_w
      there_w = running_world d steady.steady identifier member found w at

      same_list : new.members ≡ with_item d.members identifier (Some (in_course Running member))
      same_list = same_members running new (calls.same running_w there_w)

      back_is : back ≡ in_course Running member
      back_is =
          one_there new.members identifier back (in_course Running member) (sym back_there)
          (ap (λ members. item_at members identifier) same_list
          ∙ item_at-with_item d.members identifier member (Some (in_course Running member)) found)

      again_is : in_course Again back ≡ member
      again_is =
          ap (in_course Again) back_is ∙ (λ i. record member { course = sym is i })

      list_again : with_item new.members identifier (Some (in_course Again back)) ≡ d.members
      list_again =
          ap (λ members. with_item members identifier (Some (in_course Again back))) same_list
          ∙ (with_item-twice d.members identifier (Some (in_course Running member))
          (Some (in_course Again back))
          ∙ (ap (λ one. with_item d.members identifier (Some one)) again_is
          ∙ with_item-same d.members identifier member found))

      final_is : final ≡ record d { grants = new.grants; room = new.room; scratch = new.scratch }
      final_is =
          (λ i. record new { members = list_again i })
          ∙ ap (λ (n : Desk). record n { members = d.members }) (calls.same running_w there_w)

    good_back : IsGoodMember new back
    good_back = member_at (IsGoodMember new) new.members identifier back calls.steady.members
        (sym back_there)

    final_steady : IsSteady final
    final_steady =
        subst (λ item. IsSteady (record new { members = with_item new.members identifier item }))
        (none_left back.is_detached (in_course Again back))
        (changed_steady new identifier (in_course Again back) calls.steady
        (record { good = good_back.good; course = tt }))

    pub retry_unmade : Steps asks identifier attempt shown (Err reason) (held d None)
        (held final None)
    retry_unmade = record {
      meets = λ w at ready.
          subst (λ (one : Desk). IsWorld one w) (sym (final_is w at))
          (regranted d w new.grants new.room new.scratch at);
      held_up = λ why same w at ready.
          subst (λ (wanted : Growth). IsHeldUpAs wanted attempt.slot new.heap new.grants why)
          (sym (wants_call w at))
          (calls.held_up why same (with_machine identifier w (machine w at))
          (machine w at).context (running_world d steady.steady identifier member found w at)
          (running_there d steady.steady identifier member found w at));
      same = λ w at. λ kept. final_is w at;
      waits = λ some. absurd (cc);
      no_status = λ w at. tt;
      leaves = λ w at is. absurd (cc);
      caller = tt;
      logs = λ w at ready. calls.logs;
      keeps = calls.keeps;
      steady = record {
        steady = final_steady;
        framed = subst AreFramed
            (with_item-twice new.members identifier None (Some (in_course Again back)))
            (with_item_members (λ one. HasFrame one.course one.context.frames)
            (with_item new.members identifier None) identifier (Some (in_course Again back))
            (calls.unmade.1 framed_here) tt);
      };
      program = calls.program;
      most = calls.most;
    }
