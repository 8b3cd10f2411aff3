-- The operators that change their caller alone.
use Rattle.std.proofs.Common.{◌≡◌, ℕ, arith, ℤ, Bool, true, false, List, [], ◌∷◌, ◌++◌, Option, Some, None, Ok, Err}
use Rattle.std.proofs.Common.{refl, sym, ap, subst, ◌∙◌}
use Rattle.std.specs.Prelude.{◌≢◌, Result, not, pos, negsuc, int_le, ◌&&◌}
use Rattle.ps_step_outcome.specs.declared.world_operators.WorldOperator.TheVariants.{Lock, Condition, CurrentContext, VmReclaim}
use Rattle.ps_step_outcome.specs.declared.world_operators.WorldOperator.TheVariants.{VmStatus, Yield}
use Rattle.ps_language.specs.declared.errors.ErrorName.{ErrorName}
use Rattle.ps_language.specs.declared.errors.ErrorName.TheVariants.{RangeCheck, StackOverflow, TypeCheck, VmError}
use Rattle.ps_language.specs.Acts.{operands_effect}
use Rattle.ps_language.specs.Readers.{as_integer, room_for}
use Rattle.ps_language.specs.Contexts.{memory_shown, vmstatus_row, doing_operands, with_context, with_operands_of}
use Rattle.ps_language.specs.World.{Context, World}
use Rattle.ps_language.specs.Outcome.{Outcome, Change, leaves, fails, given, given_that}
use Rattle.ps_language.specs.Objects.{made_between}
use Rattle.ps_language.specs.Step.{deed_given_room}
use Rattle.ps_language.proofs.AskedLemmas.{made-same}
use Rattle.ps_ops_operands.specs.declared.failure.NotMade.{NotMade as Reason}
use Rattle.ps_ops_state.specs.declared.breaks.Break.TheVariants.{Raises, NotMade}
use Rattle.ps_language.specs.Effect.{Scene, Call, Deed, does, makes, wishes, turn_ends, shows_memory}
use Rattle.ps_language.specs.Value.{Value, Store, lock_object, condition_object}
use Rattle.ps_ops_state.specs.declared.breaks.Break.{Break}
use Rattle.ps_ops_state.specs.declared.lent.Attempt.{Attempt}
use Rattle.ps_ops_state.specs.Acts.{Acts, nothing_asked, effect_in}
use Rattle.ps_ops_state.proofs.Meeting.{keeps-same, lacks_for_same, logs-same}
use Rattle.ps_ops_state.specs.Lent.{Lent, scene_of}
use Rattle.ps_step_outcome.specs.Turns.{calling_of}
use Rattle.ps_ctx_table.specs.declared.members.Course.TheVariants.{Running}
use Rattle.ps_ctx_table.specs.declared.members.Member.{Member}
use Rattle.ps_ctx_table.specs.Seats.{item_at}
use Rattle.ps_ctx_table.specs.Worlds.{context_of}
use Rattle.ps_ctx_table.specs.Desks.{Desk, lent_to, desk_unmade, IsWorld, IsSteady}
use Rattle.ps_ctx.specs.declared.notes.Note.TheVariants.{Nothing, ShowsMemory, TurnEnds, Wishes}
use Rattle.ps_ctx.specs.Calls.{RunsAt, IsHeldUpAs, call_by, call_wants}
use Rattle.ps_ctx_operators.specs.Rows.{new_part, new_caller, currentcontext_part, currentcontext_caller}
use Rattle.ps_ctx_operators.specs.Rows.{vmreclaim_part, vmreclaim_caller, vmstatus_part, vmstatus_caller, wished}
use Rattle.ps_ctx_operators.specs.Deeds.{part_at, with_scene_of, scene_deed}
use Rattle.ps_ctx_operators.proofs.DeedLaws.{new_deed, currentcontext_deed, vmreclaim_deed, vmstatus_deed}
use Rattle.ps_ctx_operators.specs.Done.{IsLeftAs, outcome_of, noted, DoesBy}
use Rattle.ps_ctx_operators.proofs.Parts.{IsPlain, IsWithStore, nothing_few, plain_by, part_steady, part_runs, part_framed}
use Rattle.ps_ctx_operators.proofs.Arms.{does_by, acted, broke_off, broke_off_so, raised_so, held_so}

module _ (caller : ℕ) (attempt : Attempt) (shown : Option (ℤ × ℤ)) (d : Desk) (steady : IsSteady d)
    (member : Member) (found : item_at d.members caller ≡ Some member)
    (runs : member.course ≡ Running) (new : Lent) (result : Result Unit Break) where
  pub lock_does : Acts nothing_asked (new_caller (lock_object None)) attempt result
      (lent_to d member.context) new
      → DoesBy Lock caller attempt shown (noted Nothing result) d (desk_unmade d caller member new)
  lock_does acts =
      does_by Lock caller attempt shown d steady member found runs nothing_asked nothing_few
      (new_caller (lock_object None))
      (λ l store. plain_by (scene_of l store) (λ (change : Change). record (scene_of l store)
      { operands = change.operands; store = change.store }) (λ change. refl)
      (new_part (lock_object None) store (scene_of l store).operands)) Nothing
      (λ is. cc) (λ is. cc)
      (λ any w context. new_deed (call_by caller any w context) (lock_object None)) new result acts

  pub condition_does : Acts nothing_asked (new_caller condition_object) attempt result
      (lent_to d member.context) new
      → DoesBy Condition caller attempt shown (noted Nothing result) d
      (desk_unmade d caller member new)
  condition_does acts =
      does_by Condition caller attempt shown d steady member found runs nothing_asked nothing_few
      (new_caller condition_object)
      (λ l store. plain_by (scene_of l store) (λ (change : Change). record (scene_of l store)
      { operands = change.operands; store = change.store }) (λ change. refl)
      (new_part condition_object store (scene_of l store).operands)) Nothing
      (λ is. cc) (λ is. cc)
      (λ any w context. new_deed (call_by caller any w context) condition_object) new result acts

  pub current_does : Acts nothing_asked (currentcontext_caller caller) attempt result
      (lent_to d member.context) new
      → DoesBy CurrentContext caller attempt shown (noted Nothing result) d
      (desk_unmade d caller member new)
  current_does acts =
      does_by CurrentContext caller attempt shown d steady member found runs nothing_asked
      nothing_few (currentcontext_caller caller)
      (λ l store. plain_by (scene_of l store) (λ (operands : List Value). record (scene_of l store)
      { operands = operands }) (λ operands. refl)
      (currentcontext_part caller (scene_of l store).operands)) Nothing
      (λ is. cc) (λ is. cc)
      (λ any w context. currentcontext_deed (call_by caller any w context)) new result acts

-- ---- vmreclaim

module _ (caller : ℕ) (attempt : Attempt) (shown : Option (ℤ × ℤ)) (d : Desk) (steady : IsSteady d)
    (member : Member) (found : item_at d.members caller ≡ Some member)
    (runs : member.course ≡ Running) (new : Lent) where
  abbrev reclaim_next : Option (ℤ × ℤ) → World → Scene → Outcome Deed
  reclaim_next any w scene =
      given (wished (context_of d.heap d.names member).operands) TypeCheck λ number.
      leaves (does (wishes number)
      (with_scene_of (call_by caller any w (context_of d.heap d.names member)) scene))

  number_stores : (before scene : Scene) (call : Call) (number : Option ℤ) (rest : List Value)
      → operands_effect before (given number TypeCheck λ i.
      given_that (int_le (negsuc 1) i && int_le i (pos 2)) RangeCheck (leaves rest))
      ≡ makes scene []
      → IsWithStore scene (given number TypeCheck λ i.
      leaves (does (wishes i) (with_scene_of call scene)))
  number_stores before scene call None rest is = absurd (cc)
  number_stores before scene call (Some i) rest is = refl

  reclaim_stores : (before scene : Scene) (call : Call) (operands : List Value)
      → operands_effect before (vmreclaim_part operands) ≡ makes scene []
      → IsWithStore scene (given (wished operands) TypeCheck λ i.
      leaves (does (wishes i) (with_scene_of call scene)))
  reclaim_stores before scene call [] is = absurd (cc)
  reclaim_stores before scene call (x ∷ rest) is =
      number_stores before scene call (as_integer x) rest is

  reclaim_plain : (l : Lent) (store : Store)
      → IsPlain (scene_of l store) (effect_in vmreclaim_caller l store)
  reclaim_plain l store =
      plain_by (scene_of l store) (λ (operands : List Value). record (scene_of l store)
      { operands = operands }) (λ operands. refl) (vmreclaim_part (scene_of l store).operands)

  pub reclaimed : (number : ℤ)
      → Acts nothing_asked vmreclaim_caller attempt (Ok tt) (lent_to d member.context) new
      → wished (context_of d.heap d.names member).operands ≡ Some number
      → DoesBy VmReclaim caller attempt shown (Ok (Wishes number)) d
      (desk_unmade d caller member new)
  reclaimed number acts wish =
      acted VmReclaim caller attempt shown d steady member found runs nothing_asked nothing_few
      vmreclaim_caller reclaim_plain reclaim_next
      (λ any. Unit {0})
      (λ any w scene says is. reclaim_stores (scene_of (lent_to d member.context) w.store) scene
      (call_by caller any w (context_of d.heap d.names member))
      (context_of d.heap d.names member).operands is)
      (λ any w says at. vmreclaim_deed (call_by caller any w (context_of d.heap d.names member))
      (context_of d.heap d.names member).operands) new tt (Wishes number)
      (λ is. absurd (cc)) acts (desk_unmade d caller member new).members
      (part_steady d caller member found runs new steady acts.keeps acts.stays acts.good)
      (part_runs d caller member found runs new) (part_framed d caller member found runs new)
      (λ w scene at is world. subst (λ (wish : Option ℤ). IsLeftAs (Wishes number)
      (given wish TypeCheck λ i. leaves (does (wishes i)
      (with_scene_of (call_by caller shown w (context_of d.heap d.names member)) scene)))
      (desk_unmade d caller member new)) (sym wish) (world, refl))

  pub unreclaimed : (why : Break)
      → Acts nothing_asked vmreclaim_caller attempt (Err why) (lent_to d member.context) new
      → DoesBy VmReclaim caller attempt shown (Err why) d (desk_unmade d caller member new)
  unreclaimed why acts =
      broke_off VmReclaim caller attempt shown d steady member found runs nothing_asked
      nothing_few vmreclaim_caller reclaim_plain reclaim_next
      (λ any. Unit {0})
      (λ any w scene says is. reclaim_stores (scene_of (lent_to d member.context) w.store) scene
      (call_by caller any w (context_of d.heap d.names member))
      (context_of d.heap d.names member).operands is)
      (λ any w says at. vmreclaim_deed (call_by caller any w (context_of d.heap d.names member))
      (context_of d.heap d.names member).operands) new (λ any. tt) why
      (λ is. absurd (cc)) acts

-- ---- vmstatus

-- it raises stackoverflow and nothing else
pub raised_only : (why : Break) (reason : Reason) → why ≡ Raises StackOverflow
    → why ≢ NotMade reason
raised_only why reason raised is = cc

-- three words more fit, or don't, whatever they are
status_full : (one other : Option (ℤ × ℤ)) (operands : List Value)
    → room_for (memory_shown one ++ operands) ≡ room_for (memory_shown other ++ operands)
status_full None None operands = refl
status_full None (Some other) operands = refl
status_full (Some one) None operands = refl
status_full (Some one) (Some other) operands = refl

module _ (caller : ℕ) (attempt : Attempt) (shown : Option (ℤ × ℤ)) (d : Desk) (steady : IsSteady d)
    (member : Member) (found : item_at d.members caller ≡ Some member)
    (runs : member.course ≡ Running) (new : Lent) where
  abbrev status_next : Option (ℤ × ℤ) → World → Scene → Outcome Deed
  status_next any w scene = leaves (does shows_memory
      (with_scene_of (call_by caller any w (context_of d.heap d.names member)) scene))

  status_law : (any : Option (ℤ × ℤ)) (w : World) → any ≡ shown → IsWorld d w
      → vmstatus_row (context_of d.heap d.names member).operands
      (call_by caller any w (context_of d.heap d.names member))
      ≡ scene_deed shows_memory (call_by caller any w (context_of d.heap d.names member))
      (part_at (call_by caller any w (context_of d.heap d.names member)) (vmstatus_caller shown))
  status_law any w says at =
      vmstatus_deed (call_by caller any w (context_of d.heap d.names member))
      ∙ ap (λ (one : Option (ℤ × ℤ)). scene_deed shows_memory
      (call_by caller any w (context_of d.heap d.names member))
      (part_at (call_by caller any w (context_of d.heap d.names member)) (vmstatus_caller one)))
      says

  status_plain : (l : Lent) (store : Store)
      → IsPlain (scene_of l store) (effect_in (vmstatus_caller shown) l store)
  status_plain l store =
      plain_by (scene_of l store) (λ (operands : List Value). record (scene_of l store)
      { operands = operands }) (λ operands. refl)
      (vmstatus_part shown (scene_of l store).operands)

  pub status_done : new.heap ≡ d.heap
      → Acts nothing_asked (vmstatus_caller shown) attempt (Ok tt) (lent_to d member.context) new
      → DoesBy VmStatus caller attempt shown (Ok ShowsMemory) d (desk_unmade d caller member new)
  status_done same acts =
      acted VmStatus caller attempt shown d steady member found runs nothing_asked nothing_few
      (vmstatus_caller shown) status_plain status_next (λ any. any ≡ shown)
      (λ any w scene says is. refl) status_law new refl ShowsMemory
      (λ is. same) acts (desk_unmade d caller member new).members
      (part_steady d caller member found runs new steady acts.keeps acts.stays acts.good)
      (part_runs d caller member found runs new) (part_framed d caller member found runs new)
      (λ w scene at is world. (world, refl))

  -- the error is the same whatever is shown
  full_errs : (error : ErrorName) (refused : Bool) (w : World) (context : Context)
      (any : Option (ℤ × ℤ)) (full : Bool)
      → deed_given_room refused w (doing_operands shows_memory (call_by caller shown w context)
      (given_that full StackOverflow (leaves (memory_shown shown ++ context.operands))))
      ≡ fails error
      → deed_given_room refused w (doing_operands shows_memory (call_by caller any w context)
      (given_that full StackOverflow (leaves (memory_shown any ++ context.operands))))
      ≡ fails error
  unfolding with_context
  full_errs error refused w context any false is = is
  full_errs error refused w context any true is =
      let left : Outcome Deed = leaves (does shows_memory (with_operands_of
      (call_by caller shown w context) (memory_shown shown ++ context.operands))) in
      let bad : left ≡ fails error = sym (ap (λ b. given_that (not b) VmError left)
      (lacks_for_same refused w.store)) ∙ is in absurd (cc)

  status_errs : (error : ErrorName)
      → Acts nothing_asked (vmstatus_caller shown) attempt (Err (Raises error))
      (lent_to d member.context) new → (w : World) → IsWorld d w → (any : Option (ℤ × ℤ))
      → outcome_of VmStatus caller attempt.refused w (context_of d.heap d.names member) any
      ≡ fails error
  status_errs error acts w at any =
      let here = context_of d.heap d.names member in
      full_to (room_for (memory_shown any ++ here.operands))
      (status_full shown any here.operands)
    where
      full_to : (full : Bool)
          → room_for (memory_shown shown ++ (context_of d.heap d.names member).operands) ≡ full
          → outcome_of VmStatus caller attempt.refused w (context_of d.heap d.names member) any
          ≡ fails error
      full_to full same =
          let here = context_of d.heap d.names member in
          let one = subst (λ (b : Bool). deed_given_room attempt.refused w
          (doing_operands shows_memory (call_by caller shown w here)
          (given_that b StackOverflow (leaves (memory_shown shown ++ here.operands))))
          ≡ fails error) (status_full shown any here.operands)
          (raised_so VmStatus caller attempt shown d steady member found runs nothing_asked
          nothing_few (vmstatus_caller shown) status_plain status_next (λ any. any ≡ shown)
          (λ any w scene says is. refl) status_law new error acts w at shown refl).0 in
          full_errs error attempt.refused w here any
          (room_for (memory_shown any ++ here.operands)) one

  left_store : (before scene : Scene) (outcome : Outcome (List Value))
      → operands_effect before outcome ≡ makes scene [] → scene.store ≡ before.store
  left_store before scene (leaves operands) is =
      let same : record before { operands = operands } ≡ scene = cc in
      ap (λ (s : Scene). s.store) (sym same)
  left_store before scene (fails error) is = absurd (cc)

  -- it wants no growth
  status_held : (reason : Reason)
      → Acts nothing_asked (vmstatus_caller shown) attempt (Err (NotMade reason))
      (lent_to d member.context) new → (w : World) → IsWorld d w
      → IsHeldUpAs (call_wants (calling_of VmStatus) caller attempt.refused w
      (context_of d.heap d.names member)) attempt.slot new.heap new.grants reason
  status_held reason acts w at =
      held_so VmStatus caller attempt shown d steady member found runs nothing_asked nothing_few
      (vmstatus_caller shown) status_plain status_next (λ any. any ≡ shown)
      (λ any w scene says is. refl) status_law new reason acts w at _
      (λ scene is enough some.
      let same = left_store (scene_of (lent_to d member.context) w.store) scene _ is in
      let none : made_between w.store scene.store ≡ 0 =
      ap (made_between w.store) same ∙ made-same w.store in absurd (omega (arith, none, some)))

  pub status_undone : (why : Break) → ((reason : Reason) → why ≢ NotMade reason)
      → Acts nothing_asked (vmstatus_caller shown) attempt (Err why) (lent_to d member.context) new
      → DoesBy VmStatus caller attempt shown (Err why) d (desk_unmade d caller member new)
  status_undone why made acts =
      broke_off_so VmStatus caller attempt shown d steady member found runs nothing_asked
      nothing_few (vmstatus_caller shown) status_plain status_next (λ any. any ≡ shown)
      (λ any w scene says is. refl) status_law new refl status_errs status_held why
      (λ is. made) acts

-- ---- yield

-- it does nothing, and the turn ends
pub yields : (caller : ℕ) (attempt : Attempt) (shown : Option (ℤ × ℤ)) (d : Desk) → IsSteady d
    → RunsAt caller d.members → DoesBy Yield caller attempt shown (Ok TurnEnds) d d
yields caller attempt shown d steady runs = record {
  meets = λ w context at there.
      subst (λ (b : Bool). IsLeftAs TurnEnds
      (given_that (not b) VmError (leaves (does turn_ends w))) d)
      (sym (lacks_for_same attempt.refused w.store)) (at, refl);
  steady = steady;
  runs = runs;
  keeps = keeps-same d.heap;
  program = refl;
  most = refl;
  framed = λ framed. framed;
  same = λ w at. tt;
  held_up = λ reason bad. absurd (cc);
  logs = logs-same 5 d.grants attempt.slot;
  made = λ is reason bad. absurd (cc);
  leaves = λ is. absurd (cc);
}
