-- The world where something is done by one context, as after an operator that was left to it.
use Rattle.std.proofs.Common.{◌≡◌, ℕ, Option, Some, Ok, refl, sym, ap, subst, ◌∙◌}
use Rattle.std.specs.Option.{option_map_or}
use Rattle.ps_language.specs.declared.errors.ErrorName.{ErrorName}
use Rattle.ps_language.specs.declared.operators.Operator.{Operator}
use Rattle.ps_language.specs.Contexts.{with_context}
use Rattle.ps_language.specs.Machines.{with_status, with_scene, failed, settled}
use Rattle.ps_language.specs.Step.{machine_of, with_machine, lifted}
use Rattle.ps_language.specs.StepValues.{command_of}
use Rattle.ps_language.specs.Value.{Store}
use Rattle.ps_language.specs.World.{running, Context, Machine, World}
use Rattle.ps_mem.specs.Heap.{birth_at}
use Rattle.ps_ops_state.specs.declared.lent.Attempt.{Attempt}
use Rattle.ps_ops_state.specs.Acts.{Asked}
use Rattle.ps_ops_state.specs.Lent.{Lent, scene_of, IsShown}
use Rattle.ps_step_outcome.specs.declared.turned.Turned.{Turned}
use Rattle.ps_step_outcome.specs.declared.turned.Turned.TheVariants.{Goes}
use Rattle.ps_step_outcome.specs.Turns.{Turns, operator_error}
use Rattle.ps_ctx_table.specs.declared.members.Course.{Course}
use Rattle.ps_ctx_table.specs.declared.members.Course.TheVariants.{Running}
use Rattle.ps_ctx_table.specs.declared.members.Member.{Member}
use Rattle.ps_ctx_table.specs.Seats.{item_at}
use Rattle.ps_ctx_table.specs.Worlds.{status_of, context_of}
use Rattle.ps_ctx_table.specs.Desks.{Desk, lent_to, IsWorld, IsLentBy, IsSteady, desk_turned, machine_reached}
use Rattle.ps_ctx_table.specs.Desks.{course_after, turned_member}
use Rattle.ps_ctx_table.proofs.Changing.{changed_desk, changed_world}
use Rattle.ps_ctx_table.proofs.Settling.{settled_is}
use Rattle.ps_ctx_table.proofs.Stepping.{context_there}
use Rattle.ps_ctx_table.proofs.Turning.{member_at, turned_reaches, turned_world}

module _ (d : Desk) (w : World) (at : IsWorld d w) (identifier : ℕ) (member : Member)
    (found : item_at d.members identifier ≡ Some member) where
  abbrev machine : Machine
  machine = machine_of w (context_of d.heap d.names member)

  pub lifted_there : (done : Machine → Machine)
      → lifted identifier done w ≡ with_machine identifier w (done machine)
  lifted_there done =
      ap (λ (there : Option Context).
      option_map_or (λ context. with_machine identifier w (done (machine_of w context))) there w)
      (context_there d w at identifier member found)

  shown_there : IsShown (lent_to d member.context) w.store
  shown_there =
      member_at (λ one. IsShown (lent_to d one.context) w.store) d.members identifier member
      at.members found

  -- ---- how far it is

  with_course : (course : Course)
      → IsWorld (changed_desk d identifier (record member { course = course }))
      (with_machine identifier w (with_status (status_of (birth_at d.heap) course) machine))
  unfolding with_context
  with_course course =
      changed_world d identifier (record member { course = course }) w at shown_there

  -- as where an operator waits
  pub course_world : (course : Course)
      → IsWorld (changed_desk d identifier (record member { course = course }))
      (lifted identifier (with_status (status_of (birth_at d.heap) course)) w)
  course_world course =
      subst (IsWorld (changed_desk d identifier (record member { course = course })))
      (sym (lifted_there (with_status (status_of (birth_at d.heap) course))))
      (with_course course)

  machine_lent : member.course ≡ Running
      → IsLentBy (lent_to d member.context) member.is_detached running w.error_lines machine
  machine_lent runs = record {
    shown = shown_there;
    scene = λ i. record (scene_of (lent_to d member.context) w.store)
        { names = sym at.names i };
    error_dictionary = refl;
    detached = refl;
    is_so = ap (status_of (birth_at d.heap)) runs;
    printed = at.printed;
    error_lines = refl;
  }

  -- as where it acted
  pub settled_world : member.course ≡ Running
      → IsWorld (changed_desk d identifier (turned_member Goes member))
      (lifted identifier settled w)
  settled_world runs =
      let course = course_after Goes member.context.frames in
      subst (IsWorld (changed_desk d identifier (turned_member Goes member)))
      (sym (lifted_there settled
      ∙ ap (with_machine identifier w) (settled_is (lent_to d member.context) member.is_detached
      w.error_lines machine Goes (machine_lent runs) tt)))
      (with_course course)

  -- ---- an error of the operator

  same_scene : member.course ≡ Running
      → with_scene (scene_of (lent_to d member.context) w.store) running machine ≡ machine
  same_scene runs = λ i. record machine {
    context = record machine.context { status = status_of (birth_at d.heap) (sym runs i) };
    names = sym at.names i;
  }

  -- as where it failed: the error's turn was made
  pub failed_world : member.course ≡ Running → (steady : IsSteady d)
      (asks : Lent → Store → Asked) (operator : Operator) (error : ErrorName) (attempt : Attempt)
      (new : Lent) (turned : Turned)
      → Turns asks (operator_error operator error) attempt (Ok turned) (lent_to d member.context) new
      → IsWorld (desk_turned d identifier member new turned)
      (lifted identifier (λ one. settled (failed error (command_of operator) one)) w)
  failed_world runs steady asks operator error attempt new turned made =
      let turn = operator_error operator error in
      let done = ap machine_reached (turned_reaches d steady identifier member found asks turn attempt
      new turned made w at) in
      subst (IsWorld (desk_turned d identifier member new turned))
      (ap (with_machine identifier w)
      (sym done ∙ ap (λ one. settled (failed error (command_of operator) one)) (same_scene runs))
      ∙ sym (lifted_there (λ one. settled (failed error (command_of operator) one))))
      (turned_world d steady identifier member found asks turn attempt new turned made w at)
