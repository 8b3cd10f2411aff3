-- A caller enters a procedure under a lock, or is to try again.
use Rattle.std.proofs.Common.{◌≡◌, ℕ, ◌≤◌, arith, ℤ, Bool, true, false, List, [], ◌∷◌, ◌++◌, length, Option, Some, None}
use Rattle.std.proofs.Common.{Ok, Err, refl, sym, ap, subst, ◌∙◌, inl, inr}
use Rattle.std.specs.Prelude.{not, unwrap_or, if◌then◌else◌}
use Rattle.ps_language.specs.declared.errors.ErrorName.TheVariants.{ExecStackOverflow, InvalidAccess, InvalidContext}
use Rattle.ps_language.specs.declared.errors.ErrorName.TheVariants.{TypeCheck}
use Rattle.ps_step_outcome.specs.declared.world_operators.WorldOperator.TheVariants.{Monitor}
use Rattle.ps_language.proofs.AskedLemmas.{made-same}
use Rattle.ps_language.specs.Access.{is_executable}
use Rattle.ps_language.specs.Control.{as_procedure, frames_fit}
use Rattle.ps_language.specs.Effect.{Scene, Call, nothing, Deed, does, waits, Effect, makes, quiet, effect_by}
use Rattle.ps_language.specs.Locks.{monitor_frames}
use Rattle.ps_language.specs.Machines.{may_end}
use Rattle.ps_language.specs.Outcome.{Outcome, leaves, fails, given, given_that}
use Rattle.ps_language.specs.Owners.{as_lock, owner_of, with_owner, is_owner, is_free}
use Rattle.ps_language.specs.Step.{machine_of, with_machine, deed_given_room, after_deed}
use Rattle.ps_language.specs.Value.{Part, Value, Store}
use Rattle.ps_language.specs.World.{Context, World}
use Rattle.ps_mem.specs.Heap.{birth_at}
use Rattle.ps_ops_operands.specs.declared.failure.NotMade.{NotMade as Reason}
use Rattle.ps_ops_operands.specs.declared.failure.NotMade.TheVariants.{LogFull, LogClosed, NeedSpace, Memory}
use Rattle.ps_ops_operands.specs.Changes.{most_records}
use Rattle.ps_ops_state.specs.declared.breaks.Break.{Break}
use Rattle.ps_ops_state.specs.declared.breaks.Break.TheVariants.{Unwinds, Raises, NotMade}
use Rattle.ps_ops_state.specs.declared.lent.Attempt.{Attempt}
use Rattle.ps_ops_state.specs.Acts.{Acts, ActsAs, Needs, IsReason, no_rooms, effect_in, lacks, needs_as}
use Rattle.ps_ops_state.specs.Lent.{Lent, Rooms, scene_of, IsShown}
use Rattle.ps_ops_state.proofs.Meeting.{lacks_for_same}
use Rattle.ps_step_outcome.specs.Turns.{calling_of}
use Rattle.ps_ctx_table.specs.declared.members.Course.TheVariants.{Running, Again}
use Rattle.ps_ctx_table.specs.declared.members.Member.{Member}
use Rattle.ps_ctx_table.specs.Seats.{item_at}
use Rattle.ps_ctx_table.specs.Worlds.{status_of, context_of}
use Rattle.ps_ctx_table.specs.Desks.{Desk, lent_to, desk_unmade, IsWorld, IsSteady}
use Rattle.ps_ctx_table.proofs.Owning.{goes_left, put_same}
use Rattle.ps_ctx_table.proofs.Stepping.{context_there}
use Rattle.ps_ctx_table.proofs.Turning.{member_at}
use Rattle.ps_ctx.specs.declared.notes.Note.TheVariants.{Nothing, TurnEnds}
use Rattle.ps_ctx.specs.Calls.{call_by, CallsTo, Calls}
use Rattle.ps_ctx.proofs.Again.{in_course}
use Rattle.ps_ctx_operators.specs.Deeds.{scene_at, part_at, with_scene_of, after_part, scene_deed}
use Rattle.ps_ctx_operators.specs.Rows.{is_waiting, monitor_part, monitor_caller, monitor_asked, records_left}
use Rattle.ps_ctx_operators.proofs.DeedLaws.{monitor_deed}
use Rattle.ps_ctx_operators.specs.Done.{DoesBy, outcome_of}
use Rattle.ps_ctx_operators.proofs.Parts.{IsPlain, IsFew, IsMade, made_by, part_steady, part_runs, part_framed}
use Rattle.ps_ctx_operators.proofs.Arms.{acted, broke_off}
use Rattle.ps_ctx_operators.proofs.Stopping.{stops_world, stops}

-- ---- the caller's part

few_left : (left : Outcome (Option Scene)) → records_left left ≤ most_records
few_left (leaves None) = omega arith
few_left (leaves (Some scene)) = omega arith
few_left (fails error) = omega arith

monitor_few : (caller : ℕ) (scene : Scene) → IsFew (monitor_asked caller scene)
monitor_few caller scene = (refl, few_left (monitor_part caller scene.operands scene))

-- it forms no name
plain_as : (before left : Scene) → left.names ≡ before.names → (may own free fit : Bool)
    → IsPlain before (effect_by (λ (o : Option Scene). quiet (unwrap_or o before))
    (given_that may InvalidAccess (given_that (not own) InvalidContext
    (if free then given_that fit ExecStackOverflow (leaves (Some left)) else leaves None))))
plain_as before left same false own free fit = tt
plain_as before left same true true free fit = tt
plain_as before left same true false false fit = (refl, refl)
plain_as before left same true false true false = tt
plain_as before left same true false true true = (refl, same)

plain_by_operands : (caller : ℕ) (scene : Scene) (rest : List Value) (procedure : Option Part)
    (named : Option ℕ)
    → IsPlain scene (effect_by (λ (o : Option Scene). quiet (unwrap_or o scene))
    (given procedure TypeCheck λ body.
    given named TypeCheck λ lock.
    given_that (is_executable body.access) InvalidAccess
    (given_that (not (is_owner caller (owner_of scene.store lock))) InvalidContext
    (if is_free (owner_of scene.store lock) then
    given_that (frames_fit (length (monitor_frames lock body)) scene.frames) ExecStackOverflow
    (leaves (Some (record scene {
      operands = rest;
      frames = monitor_frames lock body
          ++ scene.frames;
      store = with_owner scene.store lock (Some caller);
    })))
    else leaves None))))
plain_by_operands caller scene rest None named = tt
plain_by_operands caller scene rest (Some body) None = tt
plain_by_operands caller scene rest (Some body) (Some lock) =
    plain_as scene _ refl (is_executable body.access)
    (is_owner caller (owner_of scene.store lock)) (is_free (owner_of scene.store lock))
    (frames_fit (length (monitor_frames lock body)) scene.frames)

plain_of : (caller : ℕ) (scene : Scene) (operands : List Value)
    → IsPlain scene (effect_by (λ (o : Option Scene). quiet (unwrap_or o scene))
    (monitor_part caller operands scene))
plain_of caller scene [] = tt
plain_of caller scene (p ∷ []) = tt
plain_of caller scene (p ∷ l ∷ rest) =
    plain_by_operands caller scene rest (as_procedure p) (as_lock l)

monitor_plain : (caller : ℕ) (l : Lent) (store : Store)
    → IsPlain (scene_of l store) (effect_in (monitor_caller caller) l store)
monitor_plain caller l store = plain_of caller (scene_of l store) (scene_of l store).operands

-- ---- who waits changes nothing

waits_none : (left : Outcome (Option Scene)) → is_waiting left ≡ true → left ≡ leaves None
waits_none (leaves None) waiting = refl
waits_none (leaves (Some scene)) waiting = cc
waits_none (fails error) waiting = cc

-- what asks for nothing has no reason not to be made
unneeded : (needs : Needs) (slot : ℕ) (old new : Lent) (reason : Reason) → needs.bytes ≡ 0
    → needs.names ≡ 0 → needs.records ≡ 0 → needs.words ≡ 0 → needs.scratch ≡ no_rooms
    → IsReason needs slot old new reason → ⊥
unneeded needs slot old new LogFull bytes names records words scratch why =
    let less = why.1 in omega (arith, less, records)
unneeded needs slot old new LogClosed bytes names records words scratch why =
    let some = why.0 in omega (arith, some, records)
unneeded needs slot old new (NeedSpace n) bytes names records words scratch why =
    let same = why.0 in
    let some = why.1 in
    omega (arith, same, some, words)
unneeded needs slot old new Memory bytes names records words scratch (inl less) =
    omega (arith, less, bytes)
unneeded needs slot old new Memory bytes names records words scratch (inr (inl some)) =
    omega (arith, some, names)
unneeded needs slot old new Memory bytes names records words scratch (inr (inr (inl some))) =
    let one = some.0 in omega (arith, one, words)
unneeded needs slot old new Memory bytes names records words scratch
    (inr (inr (inr (inl less)))) =
    let none = ap (λ (r : Rooms). r.text) scratch in omega (arith, less, none)
unneeded needs slot old new Memory bytes names records words scratch
    (inr (inr (inr (inr (inl less))))) =
    let none = ap (λ (r : Rooms). r.sought) scratch in omega (arith, less, none)
unneeded needs slot old new Memory bytes names records words scratch
    (inr (inr (inr (inr (inr less))))) =
    let none = ap (λ (r : Rooms). r.words) scratch in omega (arith, less, none)

-- what can't be so isn't
never : (b : Bool) → (b ≡ true → ⊥) → b ≡ false
never true bad = absurd (bad refl)
never false bad = refl

module _ (caller : ℕ) (attempt : Attempt) (l new : Lent) (store : Store) where
  abbrev before : Scene
  before = scene_of l store

  abbrev left_here : Outcome (Option Scene)
  left_here = monitor_part caller before.operands before

  -- it broke off though this is left
  abbrev BrokeOff : Break → Outcome (Option Scene) → Type 0
  BrokeOff why left =
      let effect : Effect = effect_by (λ (o : Option Scene). quiet (unwrap_or o before)) left in
      ActsAs (needs_as (record { records = records_left left; scratch = no_rooms }) before effect
      (lacks attempt.refused before effect)) attempt.slot before (Err why) effect
      (lacks attempt.refused before effect) l new

  abbrev BrokeOffWaiting : Break → (lacking : Bool) → Type 0
  BrokeOffWaiting why lacking =
      ActsAs (needs_as (record { records = 0; scratch = no_rooms }) before (makes before [])
      lacking) attempt.slot before (Err why) (makes before []) lacking l new

  makes_none : (why : Break) → BrokeOffWaiting why false → ⊥
  makes_none (Raises error) did = did
  makes_none (Unwinds cause) did = did
  makes_none (NotMade reason) did =
      unneeded _ attempt.slot l new reason refl (omega arith) refl (made-same store) refl did.0

  -- it doesn't wait
  unwaiting : (why : Break) → BrokeOff why left_here → is_waiting left_here ≡ false
  unwaiting why did = never (is_waiting left_here) λ waiting.
      makes_none why (subst (BrokeOffWaiting why) (lacks_for_same attempt.refused store)
      (subst (BrokeOff why) (waits_none left_here waiting) did))

-- ---- in a world

module _ (caller : ℕ) (attempt : Attempt) (shown : Option (ℤ × ℤ)) (d : Desk) (steady : IsSteady d)
    (member : Member) (found : item_at d.members caller ≡ Some member)
    (runs : member.course ≡ Running) (new : Lent) where
  abbrev here : Context
  here = context_of d.heap d.names member

  abbrev l : Lent
  l = lent_to d member.context

  abbrev call : Option (ℤ × ℤ) → World → Call
  call any w = call_by caller any w here

  abbrev waits_in : World → Bool
  waits_in w = is_waiting (monitor_part caller here.operands (scene_at (call None w)))

  -- by what is lent
  waits_same : (w : World) → IsWorld d w → is_waiting (left_here caller attempt l new w.store)
      ≡ waits_in w
  waits_same w at = λ i. is_waiting (monitor_part caller here.operands
      (record (scene_of l w.store) { names = sym at.names i }))

  shown_here : (w : World) → IsWorld d w → IsShown l w.store
  shown_here w at =
      member_at (λ one. IsShown (lent_to d one.context) w.store) d.members caller member at.members
      found

  -- what the operator told, of each store that is shown
  abbrev Told : Bool → Type 0
  Told came = (store : Store) → IsShown l store
      → is_waiting (left_here caller attempt l new store) ≡ not came

  told_in : (came : Bool) → Told came → (w : World) → IsWorld d w → waits_in w ≡ not came
  told_in came told w at = sym (waits_same w at) ∙ told w.store (shown_here w at)

  -- ---- it doesn't wait

  abbrev next : Option (ℤ × ℤ) → World → Scene → Outcome Deed
  next any w scene = leaves (does nothing (with_scene_of (call any w) scene))

  abbrev NeverWaits : Option (ℤ × ℤ) → Type 0
  NeverWaits any = (w : World) → IsWorld d w → waits_in w ≡ false

  law : (any : Option (ℤ × ℤ)) (w : World) → NeverWaits any → IsWorld d w
      → (calling_of Monitor).deed here.operands (call any w)
      ≡ after_part (part_at (call any w) (monitor_caller caller)) (next any w)
  law any w never_waits at =
      monitor_deed (call any w) here.operands
      ∙ ap (λ b. if b then leaves waits else scene_deed nothing (call any w)
      (part_at (call any w) (monitor_caller caller))) (never_waits w at)

  pub entered : (came : Bool) → not came ≡ false → Told came
      → Acts (monitor_asked caller) (monitor_caller caller) attempt (Ok tt) l new
      → DoesBy Monitor caller attempt shown (Ok Nothing) d (desk_unmade d caller member new)
  entered came enters told acts =
      acted Monitor caller attempt shown d steady member found runs (monitor_asked caller)
      (monitor_few caller) (monitor_caller caller) (monitor_plain caller) next NeverWaits
      (λ any w scene says is. refl) law new
      (λ w at. told_in came told w at ∙ enters) Nothing (λ is. absurd (cc)) acts
      (desk_unmade d caller member new).members
      (part_steady d caller member found runs new steady acts.keeps acts.stays acts.good)
      (part_runs d caller member found runs new) (part_framed d caller member found runs new)
      (λ w scene at is world. (world, refl))

  pub unentered : (why : Break)
      → Acts (monitor_asked caller) (monitor_caller caller) attempt (Err why) l new
      → DoesBy Monitor caller attempt shown (Err why) d (desk_unmade d caller member new)
  unentered why acts =
      broke_off Monitor caller attempt shown d steady member found runs (monitor_asked caller)
      (monitor_few caller) (monitor_caller caller) (monitor_plain caller) next NeverWaits
      (λ any w scene says is. refl) law new
      (λ any w at. sym (waits_same w at) ∙ unwaiting caller attempt l new w.store why
      (acts.meets w.store (shown_here w at)).did) why (λ is. absurd (cc)) acts

  -- ---- it waits

  module _ (came : Bool) (must : not came ≡ true) (told : Told came)
      (acts : Acts (monitor_asked caller) (monitor_caller caller) attempt (Ok tt) l new) where
    abbrev pub again_desk : Desk
    again_desk = desk_unmade d caller (in_course Again member) new

    module _ (w : World) (at : IsWorld d w) where
      waits_here : waits_in w ≡ true
      waits_here = told_in came told w at ∙ must

      abbrev effect : Effect
      effect = effect_in (monitor_caller caller) l w.store

      made : IsMade d caller member found runs new steady acts.keeps acts.stays acts.good w at
          shown attempt (monitor_asked caller (scene_of l w.store))
          (monitor_few caller (scene_of l w.store)) effect
      made =
          made_by d caller member found runs new steady acts.keeps acts.stays acts.good w at shown
          attempt (monitor_asked caller (scene_of l w.store))
          (monitor_few caller (scene_of l w.store)) effect
          (lacks attempt.refused (scene_of l w.store) effect) refl (monitor_plain caller l w.store)
          (acts.meets w.store (shown_here w at)).did

      same_scene : made.scene ≡ scene_of l w.store
      same_scene =
          let none = waits_none (left_here caller attempt l new w.store)
          (waits_same w at ∙ waits_here) in
          let same : makes made.scene [] ≡ makes (scene_of l w.store) [] =
          sym made.is
          ∙ ap (effect_by (λ (o : Option Scene). quiet (unwrap_or o (scene_of l w.store)))) none in
          cc

      -- nothing has changed
      same_world : IsWorld (desk_unmade d caller member new) w
      same_world =
          let may : may_end here.status ≡ true =
          ap (λ course. may_end (status_of (birth_at d.heap) course)) runs in
          subst (IsWorld (desk_unmade d caller member new))
          (ap (with_scene_of (call shown w)) same_scene
          ∙ ((λ i. with_machine caller w (record (machine_of w here) { names = sym at.names i }))
          ∙ put_same w caller here (context_there d w at caller member found)
          (goes_left here may))) made.world

      outcome_is : outcome_of Monitor caller attempt.refused w here shown ≡ leaves waits
      outcome_is =
          ap (deed_given_room attempt.refused w)
          (monitor_deed (call shown w) here.operands
          ∙ ap (λ b. if b then leaves waits else scene_deed nothing (call shown w)
          (part_at (call shown w) (monitor_caller caller))) waits_here)

    pub tries_again : Calls Monitor caller attempt shown (Ok TurnEnds) d again_desk
    tries_again =
        stops caller d steady member found runs new acts.keeps acts.stays acts.good Again refl
        Monitor attempt shown tt tt acts.logs
        (λ w at. subst (λ (outcome : Outcome Deed). CallsTo (Ok TurnEnds)
        (after_deed (calling_of Monitor) caller w outcome) w again_desk) (sym (outcome_is w at)) (
          stops_world caller d steady member found runs new acts.keeps acts.stays acts.good Again
              refl w (same_world w at),
          refl,
        ))
