-- A caller frees its lock, and waits for a condition.
use Rattle.std.proofs.Common.{◌≡◌, ℕ, arith, ℤ, true, List, [], ◌∷◌, Option, Some, None, Ok, Err, refl, sym, ap, subst}
use Rattle.std.proofs.Common.{◌∙◌}
use Rattle.std.specs.Prelude.{not, option_map, option_and_then}
use Rattle.ps_language.specs.declared.kinds.Kind.TheVariants.{Lock as LockKind, Condition as ConditionKind}
use Rattle.ps_language.specs.declared.errors.ErrorName.TheVariants.{InvalidContext, TypeCheck, VmError}
use Rattle.ps_step_outcome.specs.declared.world_operators.WorldOperator.TheVariants.{Wait}
use Rattle.ps_language.specs.Acts.{change_effect}
use Rattle.ps_language.specs.Effect.{Scene, Call, turn_ends, Deed, does, makes}
use Rattle.ps_language.specs.Machines.{with_status, with_scene, may_end, settled}
use Rattle.ps_language.specs.Objects.{changing}
use Rattle.ps_language.specs.Outcome.{Outcome, Change, leaves, given, given_that}
use Rattle.ps_language.specs.Owners.{as_lock, as_condition, owner_of, with_owner, is_owner}
use Rattle.ps_language.specs.Step.{machine_of, with_machine, lifted, deed_given_room, after_deed}
use Rattle.ps_language.specs.Value.{Value, Store}
use Rattle.ps_language.specs.World.{waiting, Context, Machine, World}
use Rattle.ps_mem.specs.Heap.{birth_at}
use Rattle.ps_mem.specs.References.{StandsAs}
use Rattle.ps_mem.proofs.KeepsLemmas.{birth_at-kept, stands-kept}
use Rattle.ps_ops_state.specs.declared.breaks.Break.{Break}
use Rattle.ps_ops_state.specs.declared.lent.Attempt.{Attempt}
use Rattle.ps_ops_state.specs.Acts.{Acts, effect_in, lacks}
use Rattle.ps_ops_state.specs.Lent.{Lent, scene_of, IsShown}
use Rattle.ps_step_outcome.specs.Turns.{calling_of}
use Rattle.ps_ctx_table.specs.declared.members.Course.TheVariants.{Running, Waiting}
use Rattle.ps_ctx_table.specs.declared.members.Member.{Member}
use Rattle.ps_ctx_table.specs.Seats.{item_at}
use Rattle.ps_ctx_table.specs.Worlds.{status_of, context_of}
use Rattle.ps_ctx_table.specs.Desks.{Desk, lent_to, desk_unmade, IsWorld, IsSteady}
use Rattle.ps_ctx_table.proofs.Owning.{goes_left}
use Rattle.ps_ctx_table.proofs.Settling.{settled_over}
use Rattle.ps_ctx_table.proofs.Stepping.{context_there}
use Rattle.ps_ctx_table.proofs.Turning.{member_at}
use Rattle.ps_ctx.specs.declared.notes.Note.TheVariants.{TurnEnds}
use Rattle.ps_ctx.specs.Calls.{call_by, CallsTo, Calls}
use Rattle.ps_ctx.proofs.Again.{in_course}
use Rattle.ps_ctx.proofs.Calling.{none_left}
use Rattle.ps_ctx_operators.specs.Rows.{wait_part, wait_caller, wait_asked, waited}
use Rattle.ps_ctx_operators.specs.Deeds.{with_scene_as, after_part}
use Rattle.ps_ctx_operators.proofs.DeedLaws.{wait_deed}
use Rattle.ps_ctx_operators.specs.Done.{DoesBy, outcome_of}
use Rattle.ps_ctx_operators.proofs.Parts.{IsPlain, IsWithStore, IsFew, IsMade, plain_by, part_is, made_by}
use Rattle.ps_ctx_operators.proofs.Arms.{broke_off}
use Rattle.ps_ctx_operators.proofs.Stopping.{lifted_put, stops_world, stops}

-- ---- the deed once its part was done

-- the caller waits for the condition, and its turn ends
abbrev waiting_deed : Call → Scene → Option (ℕ × ℕ) → Outcome Deed
waiting_deed call scene told =
    given told TypeCheck λ both.
    leaves (does turn_ends (with_scene_as (waiting both.0 both.1) call scene))

wait_few : (scene : Scene) → IsFew (wait_asked scene)
wait_few scene = (refl, omega arith)

wait_plain : (caller : ℕ) (l : Lent) (store : Store)
    → IsPlain (scene_of l store) (effect_in (wait_caller caller) l store)
wait_plain caller l store =
    plain_by (scene_of l store) (λ (change : Change). record (scene_of l store)
    { operands = change.operands; store = change.store }) (λ change. refl)
    (wait_part caller store (scene_of l store).operands)

given_stores : (caller : ℕ) (store : Store) (before scene : Scene) (call : Call)
    (condition lock : Option ℕ) (rest : List Value)
    → change_effect before (given condition TypeCheck λ c. given lock TypeCheck λ l.
    given_that (is_owner caller (owner_of store l)) InvalidContext
    (changing rest (with_owner store l None))) ≡ makes scene []
    → IsWithStore scene (waiting_deed call scene
    (option_and_then (λ c. option_map (λ (l : ℕ). (l, c)) lock) condition))
given_stores caller store before scene call None lock rest is = absurd (cc)
given_stores caller store before scene call (Some c) None rest is = absurd (cc)
given_stores caller store before scene call (Some c) (Some l) rest is = refl

wait_stores : (caller : ℕ) (store : Store) (before scene : Scene) (call : Call)
    (operands : List Value)
    → change_effect before (wait_part caller store operands) ≡ makes scene []
    → IsWithStore scene (waiting_deed call scene (waited operands))
wait_stores caller store before scene call [] is = absurd (cc)
wait_stores caller store before scene call (c ∷ []) is = absurd (cc)
wait_stores caller store before scene call (c ∷ l ∷ rest) is =
    given_stores caller store before scene call (as_condition c) (as_lock l) rest is

module _ (caller : ℕ) (attempt : Attempt) (shown : Option (ℤ × ℤ)) (d : Desk) (steady : IsSteady d)
    (member : Member) (found : item_at d.members caller ≡ Some member)
    (runs : member.course ≡ Running) (new : Lent) where
  abbrev here : Context
  here = context_of d.heap d.names member

  abbrev call : Option (ℤ × ℤ) → World → Call
  call any w = call_by caller any w here

  abbrev wait_next : Option (ℤ × ℤ) → World → Scene → Outcome Deed
  wait_next any w scene = waiting_deed (call any w) scene (waited here.operands)

  -- ---- it broke off

  pub unwaited : (why : Break)
      → Acts wait_asked (wait_caller caller) attempt (Err why) (lent_to d member.context) new
      → DoesBy Wait caller attempt shown (Err why) d (desk_unmade d caller member new)
  unwaited why acts =
      broke_off Wait caller attempt shown d steady member found runs wait_asked wait_few
      (wait_caller caller) (wait_plain caller) wait_next (λ any. Unit {0})
      (λ any w scene says is. wait_stores caller w.store
      (scene_of (lent_to d member.context) w.store) scene (call any w) here.operands is)
      (λ any w says at. wait_deed (call any w) here.operands) new (λ any. tt) why
      (λ is. absurd (cc)) acts

  -- ---- it waits

  module _ (lock condition : ℕ)
      (stood : StandsAs d.heap LockKind lock 1 × StandsAs d.heap ConditionKind condition 1)
      (told : waited here.operands ≡ Some (birth_at d.heap lock, birth_at d.heap condition))
      (acts : Acts wait_asked (wait_caller caller) attempt (Ok tt) (lent_to d member.context) new)
    where
      abbrev pub waits_desk : Desk
      waits_desk = desk_unmade d caller (in_course (Waiting lock condition) member) new

      told_now : waited here.operands
          ≡ Some (birth_at new.heap lock, birth_at new.heap condition)
      told_now =
          told ∙ (λ i. Some (
            sym (birth_at-kept d.heap new.heap acts.keeps lock stood.0.object stood.0.at) i,
            sym (birth_at-kept d.heap new.heap acts.keeps condition stood.1.object
                stood.1.at) i,
          ))

      module _ (w : World) (at : IsWorld d w) where
        abbrev waited_machine : Scene → Machine
        waited_machine scene =
            with_scene scene (status_of (birth_at new.heap) (Waiting lock condition))
            (machine_of w here)

        -- it doesn't settle
        waited_world : (scene : Scene)
            → IsWorld (desk_unmade d caller member new)
            (with_machine caller w (with_scene scene here.status (machine_of w here)))
            → IsWorld waits_desk
            (lifted caller settled (with_machine caller w (waited_machine scene)))
        waited_world scene world =
            let there = context_there d w at caller member found in
            let may : may_end here.status ≡ true =
            ap (λ course. may_end (status_of (birth_at d.heap) course)) runs in
            let before : Machine = with_scene scene here.status (machine_of w here) in
            let status = status_of (birth_at new.heap) (Waiting lock condition) in
            subst (IsWorld waits_desk)
            (lifted_put w caller here there before (goes_left before.context may)
            (with_status status)
            ∙ sym (lifted_put w caller here there (waited_machine scene)
            (none_left member.is_detached (waited_machine scene).context) settled
            ∙ ap (with_machine caller w) (settled_over (waited_machine scene) refl)))
            (stops_world caller d steady member found runs new acts.keeps acts.stays acts.good
            (Waiting lock condition) refl (with_machine caller w before) world)

        made : IsMade d caller member found runs new steady acts.keeps acts.stays acts.good w at
            shown attempt (wait_asked (scene_of (lent_to d member.context) w.store))
            (wait_few (scene_of (lent_to d member.context) w.store))
            (effect_in (wait_caller caller) (lent_to d member.context) w.store)
        made =
            let l = lent_to d member.context in
            let effect = effect_in (wait_caller caller) l w.store in
            made_by d caller member found runs new steady acts.keeps acts.stays acts.good w at
            shown attempt (wait_asked (scene_of l w.store)) (wait_few (scene_of l w.store)) effect
            (lacks attempt.refused (scene_of l w.store) effect) refl (wait_plain caller l w.store)
            (acts.meets w.store (member_at (λ one. IsShown (lent_to d one.context) w.store)
            d.members caller member at.members found)).did

        outcome_is : outcome_of Wait caller attempt.refused w here shown
            ≡ leaves (does turn_ends (with_machine caller w (waited_machine made.scene)))
        outcome_is =
            ap (deed_given_room attempt.refused w)
            (wait_deed (call shown w) here.operands
            ∙ (ap (λ e. after_part e (wait_next shown w)) (sym (part_is d caller member found runs
            new steady acts.keeps acts.stays acts.good w at shown (wait_caller caller)) ∙ made.is)
            ∙ ap (waiting_deed (call shown w) made.scene) told_now))
            ∙ ap (λ b. given_that (not b) VmError (leaves (does turn_ends
            (with_machine caller w (waited_machine made.scene))))) made.enough

      pub waits : Calls Wait caller attempt shown (Ok TurnEnds) d waits_desk
      waits =
          stops caller d steady member found runs new acts.keeps acts.stays acts.good
          (Waiting lock condition) refl Wait attempt shown held tt acts.logs
          (λ w at. subst (λ (outcome : Outcome Deed). CallsTo (Ok TurnEnds)
          (after_deed (calling_of Wait) caller w outcome) w waits_desk) (sym (outcome_is w at))
          (waited_world w at (made w at).scene (made w at).world, refl))
        where
          held : StandsAs new.heap LockKind lock 1 × StandsAs new.heap ConditionKind condition 1
          held = (
            stands-kept d.heap new.heap acts.keeps _ lock 1 stood.0,
            stands-kept d.heap new.heap acts.keeps _ condition 1 stood.1,
          )
