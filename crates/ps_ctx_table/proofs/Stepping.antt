-- A step of the world, where a running or unwinding context makes its turn.
use Rattle.std.proofs.Common.{◌≡◌, ℕ, Bool, true, false, Option, Some, Ok, refl, sym, ap, ◌∙◌}
use Rattle.std.specs.Option.{option_map_or}
use Rattle.std.specs.Prelude.{ℤ, option_map, if◌then◌else◌}
use Rattle.ps_language.specs.Contexts.{context_at}
use Rattle.ps_language.specs.Locks.{is_ready_as, is_ready}
use Rattle.ps_language.specs.Machines.{turn_as, may_end, after_turn, own_step}
use Rattle.ps_language.specs.Step.{machine_of, plainly, after_own, moved_as, stepped}
use Rattle.ps_language.specs.StepValues.{Turn}
use Rattle.ps_language.specs.Value.{Store}
use Rattle.ps_language.specs.World.{Status, running, unwinding, again, waiting, retaking, finished, Context, World}
use Rattle.ps_mem.specs.Heap.{birth_at}
use Rattle.ps_ops_state.specs.declared.lent.Attempt.{Attempt}
use Rattle.ps_ops_state.specs.Acts.{Asked}
use Rattle.ps_ops_state.specs.Lent.{Lent, scene_of, around_of}
use Rattle.ps_step_outcome.specs.declared.turned.Turned.{Turned}
use Rattle.ps_step_outcome.specs.Turns.{reached_by, Turns}
use Rattle.ps_ctx_table.specs.declared.members.Member.{Member}
use Rattle.ps_ctx_table.specs.Seats.{item_at}
use Rattle.ps_ctx_table.specs.Worlds.{status_of, context_of}
use Rattle.ps_ctx_table.specs.Desks.{Desk, lent_to, IsWorld, IsSteady}
use Rattle.ps_ctx_table.proofs.Holding.{contexts_in-found}
use Rattle.ps_ctx_table.proofs.Turning.{turned_machine, turned_reaches}

-- ---- in the definitions

module _ (w : World) (identifier : ℕ) (refused : Bool) (shown : Option (ℤ × ℤ))
    (context : Context) where
  by_status : (status : Status) → may_end status ≡ true
      → (if is_ready_as status identifier context w
      then moved_as status identifier refused shown w context else plainly w)
      ≡ after_own identifier refused shown w (own_step w.program refused (machine_of w context))
  by_status running may = refl
  by_status (unwinding cause) may = refl
  by_status again may = cc
  by_status (waiting lock condition) may = cc
  by_status (retaking lock) may = cc
  by_status finished may = cc

  -- of a context that runs or is unwinding
  pub stepped_own : context_at w identifier ≡ Some context
      → may_end context.status ≡ true
      → stepped w identifier refused shown
      ≡ after_own identifier refused shown w (own_step w.program refused (machine_of w context))
  unfolding stepped is_ready
  stepped_own there may =
      ap (λ (found : Option Context).
      if option_map_or (λ one. is_ready_as one.status identifier one w) found false
      then option_map_or (λ one. moved_as one.status identifier refused shown w one) found
      (plainly w)
      else plainly w) there
      ∙ by_status context.status may

-- ---- over a memory

module _ (d : Desk) (w : World) (at : IsWorld d w) (identifier : ℕ) (member : Member)
    (found : item_at d.members identifier ≡ Some member) where
  -- the context that the world has there
  pub context_there : context_at w identifier ≡ Some (context_of d.heap d.names member)
  context_there =
      contexts_in-found d.heap d.names d.members w identifier at.contexts
      ∙ ap (option_map (context_of d.heap d.names)) found

  -- whether it is ready, by how far it is
  pub ready_there : is_ready w identifier
      ≡ is_ready_as (status_of (birth_at d.heap) member.course) identifier
      (context_of d.heap d.names member) w
  unfolding is_ready
  ready_there =
      ap (λ (there : Option Context).
      option_map_or (λ one. is_ready_as one.status identifier one w) there false) context_there

  -- its own turn is that of what is lent to it
  pub own_step_is : (refused : Bool)
      → own_step w.program refused (machine_of w (context_of d.heap d.names member))
      ≡ after_turn refused (machine_of w (context_of d.heap d.names member))
      (turn_as (around_of (lent_to d member.context)) (status_of (birth_at d.heap) member.course)
      (scene_of (lent_to d member.context) w.store).frames
      (scene_of (lent_to d member.context) w.store))
  unfolding own_step
  own_step_is refused =
      let l = lent_to d member.context in
      let machine = machine_of w (context_of d.heap d.names member) in
      λ i. after_turn refused machine
      (turn_as
      (record { program = at.program i; error_dictionary = (around_of l).error_dictionary })
      (status_of (birth_at d.heap) member.course) (scene_of l w.store).frames
      (record (scene_of l w.store) { names = at.names i }))

  -- the world's step is what its turn comes to
  pub turned_steps : (steady : IsSteady d) (asks : Lent → Store → Asked)
      (turn : Lent → Store → Turn) (attempt : Attempt) (new : Lent) (turned : Turned)
      (made : Turns asks turn attempt (Ok turned) (lent_to d member.context) new)
      (shown : Option (ℤ × ℤ)) → may_end (status_of (birth_at d.heap) member.course) ≡ true
      → turn (lent_to d member.context) w.store
      ≡ turn_as (around_of (lent_to d member.context)) (status_of (birth_at d.heap) member.course)
      (scene_of (lent_to d member.context) w.store).frames
      (scene_of (lent_to d member.context) w.store)
      → stepped w identifier attempt.refused shown
      ≡ after_own identifier attempt.refused shown w (reached_by turned
      (turned_machine d steady identifier member found asks turn attempt new turned made w at))
  turned_steps steady asks turn attempt new turned made shown may is =
      let context = context_of d.heap d.names member in
      stepped_own w identifier attempt.refused shown context context_there may
      ∙ ap (after_own identifier attempt.refused shown w)
      (own_step_is attempt.refused
      ∙ (ap (after_turn attempt.refused (machine_of w context)) (sym is)
      ∙ turned_reaches d steady identifier member found asks turn attempt new turned made w at))
