-- An operator that changes its caller alone does what the definitions say.
use Rattle.std.proofs.Common.{◌≡◌, ℕ, ◌≤◌, ℤ, Bool, false, List, [], length, Option, Some, None, Ok, Err, refl, sym, ap}
use Rattle.std.proofs.Common.{subst, ◌∙◌}
use Rattle.std.specs.Prelude.{◌≢◌, Result, not, drop}
use Rattle.ps_language.specs.declared.errors.ErrorName.{ErrorName}
use Rattle.ps_language.specs.declared.errors.ErrorName.TheVariants.{VmError}
use Rattle.ps_step_outcome.specs.declared.world_operators.WorldOperator.{WorldOperator}
use Rattle.ps_step_outcome.specs.declared.world_operators.WorldOperator.TheVariants.{VmStatus}
use Rattle.ps_language.specs.Contexts.{context_at}
use Rattle.ps_language.specs.Effect.{Scene, Deed, does, waits, Calling, Effect, makes}
use Rattle.ps_language.specs.Objects.{made_between, lacks_room}
use Rattle.ps_language.specs.Outcome.{Outcome, leaves, fails, given_that}
use Rattle.ps_language.specs.Rows.{Row}
use Rattle.ps_language.specs.Step.{deed_given_room}
use Rattle.ps_language.specs.Value.{Store}
use Rattle.ps_language.specs.World.{Context, World}
use Rattle.ps_ops_operands.specs.declared.failure.NotMade.{NotMade as Reason}
use Rattle.ps_ops_control.specs.declared.frames.Cause.{Cause}
use Rattle.ps_ops_state.specs.declared.breaks.Break.{Break}
use Rattle.ps_ops_state.specs.declared.breaks.Break.TheVariants.{Unwinds, Raises, NotMade}
use Rattle.ps_ops_state.specs.declared.lent.Attempt.{Attempt}
use Rattle.ps_ops_state.specs.Acts.{Asked, IsSame, needs_as, lacks, Acts, ActsAs, effect_in}
use Rattle.ps_ops_state.specs.Lent.{Lent, scene_of, IsShown}
use Rattle.ps_step_outcome.specs.Turns.{calling_of}
use Rattle.ps_ctx_table.specs.declared.members.Course.TheVariants.{Running}
use Rattle.ps_ctx_table.specs.declared.members.Member.{Member}
use Rattle.ps_ctx_table.specs.Seats.{item_at}
use Rattle.ps_ctx_table.specs.Worlds.{context_of}
use Rattle.ps_ctx_table.specs.Desks.{Desk, lent_to, desk_unmade, IsWorld, IsSteady}
use Rattle.ps_ctx_table.proofs.Stepping.{context_there}
use Rattle.ps_ctx_table.proofs.Turning.{member_at, same_world}
use Rattle.ps_ctx.specs.declared.notes.Note.{Note}
use Rattle.ps_ctx.specs.declared.notes.Note.TheVariants.{ShowsMemory}
use Rattle.ps_ctx.specs.Notes.{note_of}
use Rattle.ps_ctx.specs.Calls.{RunsAt, AreFramedBut, IsHeldUpAs, call_by, call_wants, deed_wants}
use Rattle.ps_ctx.specs.Growth.{Growth}
use Rattle.ps_ctx.proofs.Asked.{IsAsked}
use Rattle.ps_ctx.proofs.Owning.{same_desk}
use Rattle.ps_ctx_operators.specs.Deeds.{part_at, with_scene_of, after_part, scene_deed}
use Rattle.ps_ctx_operators.specs.Done.{IsLeftAs, ComesTo, outcome_of, noted, DoesBy}
use Rattle.ps_ctx_operators.proofs.Parts.{IsPlain, IsWithStore, IsFew, part_runs, part_framed, part_steady, part_is, made_by}
use Rattle.ps_ctx_operators.proofs.Parts.{raised_by, unmade_by, held_up_by, unwinds_not}

-- what makes objects wants memory for them
asked_by : (calling : Calling) (w : World) (context : Context) (scene : Scene)
    (outcome : Outcome Deed) → IsWithStore scene outcome
    → IsAsked (deed_wants calling w context outcome) w.store scene.store
asked_by calling w context scene (leaves (does note next)) same = record {
  words = ap (made_between w.store) same;
  births = ap (λ (store : Store). length (drop (length w.store) store)) same;
}
asked_by calling w context scene (leaves waits) same = absurd same
asked_by calling w context scene (fails error) same = absurd same

-- with room it is left
room_for_it : (refused : Bool) (w : World) (scene : Scene) (outcome : Outcome Deed)
    → IsWithStore scene outcome → lacks_room refused w.store scene.store ≡ false
    → deed_given_room refused w outcome ≡ outcome
room_for_it refused w scene (leaves (does note next)) same enough =
    ap (λ (store : Store). given_that (not (lacks_room refused w.store store)) VmError
    (leaves (does note next))) same
    ∙ ap (λ b. given_that (not b) VmError (leaves (does note next))) enough
room_for_it refused w scene (leaves waits) same enough = absurd same
room_for_it refused w scene (fails error) same enough = absurd same

-- The row of the caller's part, and what is done once that is left; by what is shown
module _ (operator : WorldOperator) (caller : ℕ) (attempt : Attempt) (shown : Option (ℤ × ℤ)) (d : Desk)
    (steady : IsSteady d) (member : Member) (found : item_at d.members caller ≡ Some member)
    (runs : member.course ≡ Running) (asks : Scene → Asked)
    (few : (scene : Scene) → IsFew (asks scene)) (row : Row)
    (plain : (l : Lent) (store : Store) → IsPlain (scene_of l store) (effect_in row l store))
    (next : Option (ℤ × ℤ) → World → Scene → Outcome Deed) (Says : Option (ℤ × ℤ) → Type 0)
    (stores : (any : Option (ℤ × ℤ)) (w : World) (scene : Scene) → Says any
    → effect_in row (lent_to d member.context) w.store ≡ makes scene []
    → IsWithStore scene (next any w scene))
    (law : (any : Option (ℤ × ℤ)) (w : World) → Says any → IsWorld d w
    → (calling_of operator).deed (context_of d.heap d.names member).operands
    (call_by caller any w (context_of d.heap d.names member))
    ≡ after_part (part_at (call_by caller any w (context_of d.heap d.names member)) row)
    (next any w)) (new : Lent) where
  abbrev here : Context
  here = context_of d.heap d.names member

  module _ (result : Result Unit Break)
      (acts : Acts asks row attempt result (lent_to d member.context) new) (w : World)
      (at : IsWorld d w) where
    abbrev before : Scene
    before = scene_of (lent_to d member.context) w.store

    abbrev effect : Effect
    effect = effect_in row (lent_to d member.context) w.store

    abbrev outcome : Option (ℤ × ℤ) → Outcome Deed
    outcome = outcome_of operator caller attempt.refused w here

    did : ActsAs (needs_as (asks before) before effect (lacks attempt.refused before effect))
        attempt.slot before result effect (lacks attempt.refused before effect)
        (lent_to d member.context) new
    did = (acts.meets w.store (member_at (λ one. IsShown (lent_to d one.context) w.store) d.members
        caller member at.members found)).did

    outcome_by : (any : Option (ℤ × ℤ)) → Says any → outcome any
        ≡ deed_given_room attempt.refused w (after_part effect (next any w))
    outcome_by any says =
        ap (deed_given_room attempt.refused w) (law any w says at
        ∙ ap (λ e. after_part e (next any w)) (sym (part_is d caller member found runs new
        steady acts.keeps acts.stays acts.good w at any row)))

    outcome_is : (any : Option (ℤ × ℤ)) (scene : Scene) → Says any → effect ≡ makes scene []
        → lacks_room attempt.refused w.store scene.store ≡ false → outcome any ≡ next any w scene
    outcome_is any scene says is enough =
        outcome_by any says
        ∙ (ap (λ e. deed_given_room attempt.refused w (after_part e (next any w))) is
        ∙ room_for_it attempt.refused w scene (next any w scene) (stores any w scene says is) enough)

  here_is : (w : World) (context : Context) → IsWorld d w → context_at w caller ≡ Some context
      → here ≡ context
  here_is w context at there =
      let same : Some here ≡ Some context =
      sym (context_there d w at caller member found) ∙ there in cc

  -- ---- it broke off

  pub raised_so : (error : ErrorName)
      → Acts asks row attempt (Err (Raises error)) (lent_to d member.context) new → (w : World)
      → IsWorld d w → (any : Option (ℤ × ℤ)) → Says any
      → (outcome_of operator caller attempt.refused w here any ≡ fails error)
      × IsSame (lent_to d member.context) new
  raised_so error acts w at any says =
      let why = Err (Raises error) in
      let by = raised_by d caller member found runs new steady acts.keeps acts.stays acts.good w at
      any attempt (asks (before why acts w at)) (few _) error (effect why acts w at)
      (lacks attempt.refused (before why acts w at) (effect why acts w at)) refl
      (plain (lent_to d member.context) w.store) (next any w)
      (λ scene is. stores any w scene says is) (did why acts w at) in
      (outcome_by why acts w at any says ∙ by.0, by.1)

  pub held_so : (reason : Reason)
      → Acts asks row attempt (Err (NotMade reason)) (lent_to d member.context) new → (w : World)
      → IsWorld d w → (wanted : Growth) → ((scene : Scene)
      → effect_in row (lent_to d member.context) w.store ≡ makes scene []
      → lacks_room attempt.refused w.store scene.store ≡ false
      → 1 ≤ made_between w.store scene.store → IsAsked wanted w.store scene.store)
      → IsHeldUpAs wanted attempt.slot new.heap new.grants reason
  held_so reason acts w at =
      let why = Err (NotMade reason) in
      held_up_by d caller member found runs new steady acts.keeps acts.stays acts.good w at None
      attempt (asks (before why acts w at)) (few _) reason (effect why acts w at)
      (lacks attempt.refused (before why acts w at) (effect why acts w at)) refl
      (plain (lent_to d member.context) w.store) (did why acts w at) acts.logs.closed

  unmade_so : (reason : Reason)
      → Acts asks row attempt (Err (NotMade reason)) (lent_to d member.context) new → (w : World)
      → IsWorld d w → IsSame (lent_to d member.context) new
  unmade_so reason acts w at =
      let why = Err (NotMade reason) in
      unmade_by d caller member found runs new steady acts.keeps acts.stays acts.good w at shown
      attempt (asks (before why acts w at)) (few _) reason (effect why acts w at)
      (lacks attempt.refused (before why acts w at) (effect why acts w at))
      (plain (lent_to d member.context) w.store) (did why acts w at)

  unwound_not : (cause : Cause)
      → Acts asks row attempt (Err (Unwinds cause)) (lent_to d member.context) new → (w : World)
      → IsWorld d w → ⊥
  unwound_not cause acts w at =
      let why = Err (Unwinds cause) in
      unwinds_not d caller member found runs new steady acts.keeps acts.stays acts.good w at shown
      attempt (asks (before why acts w at)) (few _) cause (effect why acts w at)
      (lacks attempt.refused (before why acts w at) (effect why acts w at))
      (plain (lent_to d member.context) w.store) (did why acts w at)

  same_so : (why : Break) → Acts asks row attempt (Err why) (lent_to d member.context) new
      → Says shown → (w : World) → IsWorld d w → IsSame (lent_to d member.context) new
  same_so (Raises error) acts says w at = (raised_so error acts w at shown says).1
  same_so (NotMade reason) acts says w at = unmade_so reason acts w at
  same_so (Unwinds cause) acts says w at = absurd (unwound_not cause acts w at)

  -- where the error is the same whatever is shown, and it may want a growth so too
  module _ (says : Says shown)
      (errs : (error : ErrorName)
      → Acts asks row attempt (Err (Raises error)) (lent_to d member.context) new → (w : World)
      → IsWorld d w → (any : Option (ℤ × ℤ))
      → outcome_of operator caller attempt.refused w here any ≡ fails error)
      (held : (reason : Reason)
      → Acts asks row attempt (Err (NotMade reason)) (lent_to d member.context) new → (w : World)
      → IsWorld d w → IsHeldUpAs (call_wants (calling_of operator) caller attempt.refused w here)
      attempt.slot new.heap new.grants reason) where
    comes_so : (why : Break) → Acts asks row attempt (Err why) (lent_to d member.context) new
        → (w : World) → IsWorld d w
        → ComesTo (Err why) shown (outcome_of operator caller attempt.refused w here) w
        (desk_unmade d caller member new)
    comes_so (Raises error) acts w at = (
      errs error acts w at,
      same_world d w caller member new found at (same_so (Raises error) acts says w at),
    )
    comes_so (NotMade reason) acts w at =
        same_world d w caller member new found at (unmade_so reason acts w at)
    comes_so (Unwinds cause) acts w at = unwound_not cause acts w at

    pub broke_off_so : (why : Break)
        → (operator ≡ VmStatus → (reason : Reason) → why ≢ NotMade reason)
        → Acts asks row attempt (Err why) (lent_to d member.context) new
        → DoesBy operator caller attempt shown (Err why) d (desk_unmade d caller member new)
    broke_off_so why made acts = record {
      meets = λ w context at there.
          subst (λ (one : Context). ComesTo (Err why) shown
          (outcome_of operator caller attempt.refused w one) w (desk_unmade d caller member new))
          (here_is w context at there) (comes_so why acts w at);
      steady = part_steady d caller member found runs new steady acts.keeps acts.stays acts.good;
      runs = part_runs d caller member found runs new;
      keeps = acts.keeps;
      program = acts.stays.program;
      most = acts.stays.most;
      framed = part_framed d caller member found runs new;
      same = λ w at. same_desk d caller member new found (same_so why acts says w at);
      held_up = λ reason is w context at there.
          let same : why ≡ NotMade reason = cc in
          subst (λ (one : Context). IsHeldUpAs
          (call_wants (calling_of operator) caller attempt.refused w one) attempt.slot new.heap
          new.grants reason) (here_is w context at there) (held reason
          (subst (λ r. Acts asks row attempt (Err r) (lent_to d member.context) new) same acts)
          w at);
      logs = acts.logs;
      made = λ is reason bad. made is reason (cc);
      leaves = λ is. absurd (cc);
    }

  -- whatever is shown
  pub broke_off : ((any : Option (ℤ × ℤ)) → Says any) → (why : Break)
      → (operator ≡ VmStatus → (reason : Reason) → why ≢ NotMade reason)
      → Acts asks row attempt (Err why) (lent_to d member.context) new
      → DoesBy operator caller attempt shown (Err why) d (desk_unmade d caller member new)
  broke_off all =
      broke_off_so (all shown) (λ error acts w at any. (raised_so error acts w at any (all any)).0)
      (λ reason acts w at. held_so reason acts w at
      (call_wants (calling_of operator) caller attempt.refused w here)
      (λ scene is enough some. subst (λ (outcome : Outcome Deed).
      IsAsked (deed_wants (calling_of operator) w here outcome) w.store scene.store)
      (sym (outcome_is (Err (NotMade reason)) acts w at None scene (all None) is enough))
      (asked_by (calling_of operator) w here scene (next None w scene)
      (stores None w scene (all None) is))))

  -- ---- it acted, and others were changed so that the rest of the desk is the same

  pub acted : Says shown → (note : Note) (kept : note ≡ ShowsMemory → new.heap ≡ d.heap)
      (acts : Acts asks row attempt (Ok tt) (lent_to d member.context) new)
      (members : List (Option Member))
      → IsSteady (record (desk_unmade d caller member new) { members = members })
      → RunsAt caller members → (AreFramedBut caller d.members → AreFramedBut caller members)
      → ((w : World) (scene : Scene) → IsWorld d w
      → effect_in row (lent_to d member.context) w.store ≡ makes scene []
      → IsWorld (desk_unmade d caller member new)
      (with_scene_of (call_by caller shown w here) scene)
      → IsLeftAs note (next shown w scene)
      (record (desk_unmade d caller member new) { members = members }))
      → DoesBy operator caller attempt shown (Ok note) d
      (record (desk_unmade d caller member new) { members = members })
  acted says note kept acts members steady_then runs_then framed_then left = record {
    meets = λ w context at there.
        let why = Ok tt in
        let made = made_by d caller member found runs new steady acts.keeps acts.stays acts.good w
        at shown attempt (asks (before why acts w at)) (few _) (effect why acts w at)
        (lacks attempt.refused (before why acts w at) (effect why acts w at)) refl
        (plain (lent_to d member.context) w.store) (did why acts w at) in
        subst (λ (one : Context). IsLeftAs note
        (outcome_of operator caller attempt.refused w one shown)
        (record (desk_unmade d caller member new) { members = members }))
        (here_is w context at there)
        (subst (λ (o : Outcome Deed). IsLeftAs note o
        (record (desk_unmade d caller member new) { members = members }))
        (sym (outcome_is why acts w at shown made.scene says made.is made.enough))
        (left w made.scene at made.is made.world));
    steady = steady_then;
    runs = runs_then;
    keeps = acts.keeps;
    program = acts.stays.program;
    most = acts.stays.most;
    framed = framed_then;
    same = λ w at. tt;
    held_up = λ reason bad. absurd (cc);
    logs = acts.logs;
    made = λ is reason bad. absurd (cc);
    leaves = λ is. kept (cc);
  }

-- ---- it changes its caller alone

module _ (operator : WorldOperator) (caller : ℕ) (attempt : Attempt) (shown : Option (ℤ × ℤ)) (d : Desk)
    (steady : IsSteady d) (member : Member) (found : item_at d.members caller ≡ Some member)
    (runs : member.course ≡ Running) (asks : Scene → Asked)
    (few : (scene : Scene) → IsFew (asks scene)) (row : Row)
    (plain : (l : Lent) (store : Store) → IsPlain (scene_of l store) (effect_in row l store))
    (note : Note) (other : operator ≢ VmStatus) (unshown : note ≢ ShowsMemory)
    (law : (any : Option (ℤ × ℤ)) (w : World) (context : Context)
    → (calling_of operator).deed context.operands (call_by caller any w context)
    ≡ scene_deed (note_of note) (call_by caller any w context)
    (part_at (call_by caller any w context) row)) (new : Lent) where
  abbrev alone_next : Option (ℤ × ℤ) → World → Scene → Outcome Deed
  alone_next any w scene = leaves (does (note_of note)
      (with_scene_of (call_by caller any w (context_of d.heap d.names member)) scene))

  pub does_by : (result : Result Unit Break)
      → Acts asks row attempt result (lent_to d member.context) new
      → DoesBy operator caller attempt shown (noted note result) d (desk_unmade d caller member new)
  does_by (Ok tt) acts =
      acted operator caller attempt shown d steady member found runs asks few row plain alone_next
      (λ any. Unit {0}) (λ any w scene says is. refl)
      (λ any w says at. law any w (context_of d.heap d.names member)) new tt note
      (λ is. absurd (unshown is)) acts (desk_unmade d caller member new).members
      (part_steady d caller member found runs new steady acts.keeps acts.stays acts.good)
      (part_runs d caller member found runs new) (part_framed d caller member found runs new)
      (λ w scene at is world. (world, refl))
  does_by (Err why) acts =
      broke_off operator caller attempt shown d steady member found runs asks few row plain alone_next
      (λ any. Unit {0}) (λ any w scene says is. refl)
      (λ any w says at. law any w (context_of d.heap d.names member)) new (λ any. tt) why
      (λ is. absurd (other is)) acts
