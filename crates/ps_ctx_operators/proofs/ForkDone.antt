-- A context is begun by an operator of its caller.
use Rattle.std.proofs.Common.{◌≡◌, ℕ, zero, suc, ◌+◌, ◌<◌, arith, ℤ, Bool, true, false, List, [], ◌∷◌, ◌++◌, length}
use Rattle.std.proofs.Common.{Option, Some, None, Ok, Err, refl, sym, ap, subst, ◌∙◌}
use Rattle.std.proofs.lemmas.Bool.{lt-ltb}
use Rattle.std.proofs.lemmas.List.{length-append, length-set}
use Rattle.std.specs.Prelude.{IsSome, OnSome, nat_lt, option_and_then, option_map, if◌then◌else◌}
use Rattle.std.specs.Option.{is_some}
use Rattle.ps_language.specs.declared.errors.ErrorName.TheVariants.{InvalidAccess, LimitCheck, TypeCheck, UnmatchedMark}
use Rattle.ps_step_outcome.specs.declared.world_operators.WorldOperator.TheVariants.{Fork}
use Rattle.ps_language.specs.Access.{is_executable}
use Rattle.ps_language.specs.Acts.{change_effect}
use Rattle.ps_language.specs.Contexts.{contexts_with, doing, fork_row, left_of, new_context, with_context}
use Rattle.ps_language.specs.Control.{as_procedure}
use Rattle.ps_language.specs.Effect.{Scene, Call, Deed, Effect, makes, unwinds, raises, calls}
use Rattle.ps_language.specs.Objects.{changing}
use Rattle.ps_language.specs.Outcome.{Outcome, Change, given, given_that}
use Rattle.ps_language.specs.Readers.{natural}
use Rattle.ps_language.specs.RowsStack.{split_at_mark}
use Rattle.ps_language.specs.Machines.{with_scene}
use Rattle.ps_language.specs.Step.{deed_given_room, machine_of}
use Rattle.ps_language.specs.StepErrors.{new_error_dictionary}
use Rattle.ps_language.specs.Value.{Part, Value, Store}
use Rattle.ps_language.specs.World.{Context, World}
use Rattle.ps_mem.specs.Heap.{Heap, birth_at}
use Rattle.ps_ops_operands.specs.declared.failure.NotMade.TheVariants.{Memory}
use Rattle.ps_ops_control.specs.declared.frames.Frame.{Frame}
use Rattle.ps_ops_state.specs.declared.breaks.Break.{Break}
use Rattle.ps_ops_state.specs.declared.breaks.Break.TheVariants.{NotMade}
use Rattle.ps_ops_state.specs.declared.lent.Context.{Context as Begun}
use Rattle.ps_ops_state.specs.declared.lent.Attempt.{Attempt}
use Rattle.ps_ops_state.specs.Acts.{Acts, nothing_asked, effect_in}
use Rattle.ps_ops_state.specs.Lent.{Lent, scene_of, IsShown}
use Rattle.ps_ops_state.proofs.Meeting.{keeps-same, logs-same}
use Rattle.ps_step_outcome.specs.declared.turned.Turned.TheVariants.{Goes}
use Rattle.ps_step_outcome.specs.Turns.{calling_of}
use Rattle.ps_ctx_table.specs.declared.members.Course.TheVariants.{Running}
use Rattle.ps_ctx_table.specs.declared.members.Member.{Member}
use Rattle.ps_ctx_table.specs.Seats.{item_at}
use Rattle.ps_ctx_table.specs.Worlds.{status_of, context_of, contexts_in}
use Rattle.ps_ctx_table.specs.Desks.{Desk, lent_to, desk_unmade, course_after, has_seat, seat_in, IsCourseHeld, IsWorld}
use Rattle.ps_ctx_table.specs.Desks.{IsSteady}
use Rattle.ps_ctx_table.proofs.Changing.{more_desk, more_steady, more_world}
use Rattle.ps_ctx_table.proofs.Holding.{contexts_in-length}
use Rattle.ps_ctx_table.proofs.Places.{with_item-same}
use Rattle.ps_ctx_table.proofs.Turning.{member_at, frame_after}
use Rattle.ps_ctx.specs.declared.notes.Note.TheVariants.{Nothing}
use Rattle.ps_ctx.specs.Calls.{RunsAt, IsHeldUpAs, call_by, call_wants, deed_wants}
use Rattle.ps_ctx.specs.Growth.{may_fail}
use Rattle.ps_ctx.proofs.Starving.{or_true}
use Rattle.ps_ctx_operators.specs.Deeds.{part_at, scene_at, with_scene_of, after_part, with_context_more, forked}
use Rattle.ps_ctx_operators.specs.declared.forks.Unforked.{Unforked}
use Rattle.ps_ctx_operators.specs.declared.forks.Unforked.TheVariants.{Breaks, NoStacks}
use Rattle.ps_ctx_operators.specs.Forks.{Forks, IsForked, IsMaking, context_in, status_by}
use Rattle.ps_ctx_operators.specs.Rows.{fork_part, fork_caller}
use Rattle.ps_ctx_operators.proofs.DeedLaws.{fork_deed}
use Rattle.ps_ctx_operators.specs.Done.{IsLeftAs, DoesBy}
use Rattle.ps_ctx_operators.proofs.Parts.{IsPlain, IsWithStore, nothing_few, plain_by, part_steady, part_runs, part_framed}
use Rattle.ps_ctx_operators.proofs.Arms.{acted, broke_off}
use Rattle.ps_ctx_operators.specs.Begun.{begun_member, break_of}
use Rattle.ps_ctx_operators.proofs.Others.{runs_more, framed_more}
use Rattle.ps_ctx_operators.proofs.Unchanged.{here_is}

-- ---- what the caller's part makes

module _ (before scene : Scene) (seat : Option ℕ) (store : Store) where
  -- a seat is given, and there is one $error more
  abbrev IsMade : Type 0
  IsMade = IsSome seat × (scene.store ≡ store ++ new_error_dictionary ∷ [])

  module _ (rest : List Value) where
    made_where : (may : Bool) → change_effect before (given_that may InvalidAccess
        (given seat LimitCheck λ identifier. changing (natural identifier ∷ rest)
        (store ++ new_error_dictionary ∷ []))) ≡ makes scene [] → IsMade
    made_where false is = absurd (cc)
    made_where true is = by seat is
      where
        by : (o : Option ℕ) → change_effect before (given o LimitCheck λ identifier.
            changing (natural identifier ∷ rest) (store ++ new_error_dictionary ∷ []))
            ≡ makes scene [] → IsSome o × (scene.store ≡ store ++ new_error_dictionary ∷ [])
        by None is = absurd (cc)
        by (Some identifier) is =
            let same : record before
            { operands = natural identifier ∷ rest; store = store ++ new_error_dictionary ∷ [] }
            ≡ scene = cc in
            (refl, ap (λ (s : Scene). s.store) (sym same))

  made_split : (procedure : Option Part) (split : Option (List Value × List Value))
      → change_effect before (given procedure TypeCheck λ body. given split UnmatchedMark λ parts.
      given_that (is_executable body.access) InvalidAccess
      (given seat LimitCheck λ identifier.
      changing (natural identifier ∷ parts.1) (store ++ new_error_dictionary ∷ [])))
      ≡ makes scene [] → IsMade
  made_split None split is = absurd (cc)
  made_split (Some body) None is = absurd (cc)
  made_split (Some body) (Some parts) is = made_where parts.1 (is_executable body.access) is

  pub fork_makes : (held : List Value) → change_effect before (fork_part seat store held)
      ≡ makes scene [] → IsMade
  fork_makes [] is = absurd (cc)
  fork_makes (p ∷ rest) is = made_split (as_procedure p) (split_at_mark rest) is

-- what is left has the store of the scene
module _ (before scene : Scene) (seat : Option ℕ) (store : Store) (call : Call) (birth : ℕ) where
  stores_split : (procedure : Option Part) (split : Option (List Value × List Value))
      → change_effect before (given procedure TypeCheck λ body. given split UnmatchedMark λ parts.
      given_that (is_executable body.access) InvalidAccess
      (given seat LimitCheck λ identifier.
      changing (natural identifier ∷ parts.1) (store ++ new_error_dictionary ∷ [])))
      ≡ makes scene []
      → IsWithStore scene (given (option_and_then (λ body. option_map
      (λ (parts : List Value × List Value). new_context call.context body parts.0 birth) split)
      procedure) TypeCheck λ context. doing (with_context_more context (with_scene_of call scene)))
  stores_split None split is = absurd (cc)
  stores_split (Some body) None is = absurd (cc)
  stores_split (Some body) (Some parts) is = refl

  pub fork_stores : (held : List Value) → change_effect before (fork_part seat store held)
      ≡ makes scene []
      → IsWithStore scene (given (forked call.context held birth) TypeCheck λ context.
      doing (with_context_more context (with_scene_of call scene)))
  fork_stores [] is = absurd (cc)
  fork_stores (p ∷ rest) is = stores_split (as_procedure p) (split_at_mark rest) is

-- ---- the context that begins

status-begun : (births : ℕ → ℕ) (frames : List Frame)
    → status_by frames ≡ status_of births (course_after Goes frames)
status-begun births [] = refl
status-begun births (frame ∷ frames) = refl

held_begun : (h : Heap) (frames : List Frame) → IsCourseHeld h (course_after Goes frames)
held_begun h [] = tt
held_begun h (frame ∷ frames) = tt

-- it is that of the definitions
pub begun_is : (d : Desk) (begun : Begun) (store : Store)
    → context_in (lent_to d begun) store ≡ context_of d.heap d.names (begun_member begun)
begun_is d begun store = λ i. record (context_of d.heap d.names (begun_member begun))
    { status = status-begun (birth_at d.heap) begun.frames i }

-- ---- the seat

-- with a context more there are more, whatever the caller is now
contexts_more : (contexts : List (Option Context)) (caller : ℕ) (now more : Option Context)
    → nat_lt (length contexts) (length (contexts_with contexts caller now ++ more ∷ [])) ≡ true
contexts_more contexts caller now more =
    lt-ltb _ _ (simp length-append (by caller))
  where
    by : (caller : ℕ) → length contexts < length (contexts_with contexts caller now) + 1
    by zero = omega arith
    by (suc place) = omega (arith, length-set contexts place now)

pub given_seat : {P : Type 0} (seat : Option ℕ) → is_some seat ≡ true → OnSome seat P → P
given_seat None some p = absurd (cc)
given_seat (Some seat) some p = p

seated_below : (made x : ℕ) (may : Bool) → made < 2147483647
    → (if may then Some (made + 1) else None) ≡ Some x → x < 2147483648
seated_below made x false within is = absurd (cc)
seated_below made x true within is =
    let same : made + 1 ≡ x = cc in omega (arith, same, within)

pub seat_below : (h : Heap) (names : List (List ℕ)) (members : List (Option Member))
    (seat : Option ℕ) → seat ≡ seat_in (contexts_in h names members)
    → OnSome seat (length members < 2147483647) → (x : ℕ) → seat ≡ Some x → x < 2147483648
seat_below h names members None is within x there = absurd (cc)
seat_below h names members (Some seat) is within x there =
    seated_below (length members) x (has_seat (contexts_in h names members)) within
    ((λ i. if has_seat (contexts_in h names members)
    then Some (sym (contexts_in-length h names members) i + 1) else None) ∙ (sym is ∙ there))

-- ---- fork

module _ (caller : ℕ) (attempt : Attempt) (shown : Option (ℤ × ℤ)) (d : Desk) (steady : IsSteady d)
    (member : Member) (found : item_at d.members caller ≡ Some member)
    (runs : member.course ≡ Running) (seat : Option ℕ)
    (seats : (h : Heap) (names : List (List ℕ)) → seat ≡ seat_in (contexts_in h names d.members))
    (new : Lent) where
  abbrev here : Context
  here = context_of d.heap d.names member

  abbrev l : Lent
  l = lent_to d member.context

  abbrev fork_next : Option (ℤ × ℤ) → World → Scene → Outcome Deed
  fork_next any w scene =
      given (forked here here.operands (length w.store)) TypeCheck λ context.
      doing (with_context_more context (with_scene_of (call_by caller any w here) scene))

  fork_plain : (l : Lent) (store : Store)
      → IsPlain (scene_of l store) (effect_in (fork_caller seat) l store)
  fork_plain l store =
      plain_by (scene_of l store) (λ (change : Change). record (scene_of l store)
      { operands = change.operands; store = change.store }) (λ change. refl)
      (fork_part seat store (scene_of l store).operands)

  stores_there : (any : Option (ℤ × ℤ)) (w : World) (scene : Scene)
      → effect_in (fork_caller seat) l w.store ≡ makes scene []
      → IsWithStore scene (fork_next any w scene)
  stores_there any w scene is =
      fork_stores (scene_of l w.store) scene seat w.store (call_by caller any w here)
      (length w.store) here.operands is

  law_there : (any : Option (ℤ × ℤ)) (w : World) → IsWorld d w
      → fork_row here.operands (call_by caller any w here)
      ≡ after_part (part_at (call_by caller any w here) (fork_caller seat)) (fork_next any w)
  law_there any w at =
      let call : Call = call_by caller any w here in
      fork_deed call here.operands
      ∙ ap (λ (one : Option ℕ). after_part (change_effect (scene_at call)
      (fork_part one w.store here.operands)) (fork_next any w))
      (ap seat_in at.contexts ∙ sym (seats d.heap d.names))

  shown_there : (w : World) → IsWorld d w → IsShown l w.store
  shown_there w at =
      member_at (λ one. IsShown (lent_to d one.context) w.store) d.members caller member
      at.members found

  abbrev part : Desk
  part = desk_unmade d caller member new

  -- ---- it is made

  module _ (begun : Begun)
      (acts : Acts nothing_asked (fork_caller seat) attempt (Ok tt) l new) where
    now_steady : IsSteady part
    now_steady = part_steady d caller member found runs new steady acts.keeps acts.stays acts.good

    now_runs : RunsAt caller part.members
    now_runs = part_runs d caller member found runs new

    -- without a seat there is an error
    pub seatless_done : is_some seat ≡ false → DoesBy Fork caller attempt shown (Ok Nothing) d part
    seatless_done none =
        acted Fork caller attempt shown d steady member found runs nothing_asked nothing_few
        (fork_caller seat) fork_plain fork_next (λ any. Unit {0})
        (λ any w scene says is. stores_there any w scene is)
        (λ any w says at. law_there any w at) new tt Nothing (λ is. absurd (cc)) acts part.members now_steady now_runs
        (part_framed d caller member found runs new)
        (λ w scene at is world. let some : is_some seat ≡ true =
        (fork_makes (scene_of l w.store) scene seat w.store here.operands is).0 in absurd (cc))

    module _ (born : IsForked l (lent_to part begun)) where
      begun_world : (w : World) (scene : Scene) → IsWorld d w
          → effect_in (fork_caller seat) l w.store ≡ makes scene []
          → IsWorld part (with_scene_of (call_by caller shown w here) scene)
          → IsLeftAs Nothing (fork_next shown w scene) (more_desk part (begun_member begun))
      begun_world w scene at is world =
          let after = with_scene_of (call_by caller shown w here) scene in
          let store = (fork_makes (scene_of l w.store) scene seat w.store here.operands is).1 in
          let told : forked here here.operands (length w.store)
          ≡ Some (context_of part.heap part.names (begun_member begun)) =
          born.is w.store (shown_there w at) here refl
          ∙ ap (λ (context : Context). Some context)
          (begun_is part begun (w.store ++ new_error_dictionary ∷ [])) in
          subst (λ (one : Option Context). IsLeftAs Nothing (given one TypeCheck λ context.
          doing (with_context_more context after)) (more_desk part (begun_member begun)))
          (sym told) (
            more_world part (begun_member begun) after world
                (subst (IsShown (lent_to part begun)) (sym store)
                (born.shown w.store (shown_there w at))),
            refl,
          )

      pub forked_done : DoesBy Fork caller attempt shown (Ok Nothing) d
          (more_desk part (begun_member begun))
      forked_done =
          acted Fork caller attempt shown d steady member found runs nothing_asked nothing_few
          (fork_caller seat) fork_plain fork_next (λ any. Unit {0})
          (λ any w scene says is. stores_there any w scene is)
          (λ any w says at. law_there any w at) new tt Nothing (λ is. absurd (cc)) acts
          (part.members ++ Some (begun_member begun) ∷ [])
          (more_steady part (begun_member begun) now_steady
          (record { good = born.good; course = held_begun part.heap begun.frames }))
          (runs_more part.members caller (begun_member begun) now_runs)
          (λ framed. framed_more part.members caller (begun_member begun) now_runs
          (part_framed d caller member found runs new framed)
          (frame_after Goes begun.frames tt tt))
          begun_world

  -- ---- it is not

  broken : (why : Break) → Acts nothing_asked (fork_caller seat) attempt (Err why) l new
      → DoesBy Fork caller attempt shown (Err why) d part
  broken why acts =
      broke_off Fork caller attempt shown d steady member found runs nothing_asked nothing_few
      (fork_caller seat) fork_plain fork_next (λ any. Unit {0})
      (λ any w scene says is. stores_there any w scene is)
      (λ any w says at. law_there any w at) new (λ any. tt) why (λ is. absurd (cc)) acts

  -- where a step makes a context, it wants memory for it
  one_more : (w : World) (scene : Scene) (context : Context)
      → nat_lt (length w.contexts) (length (with_context_more context
      (with_scene_of (call_by caller None w here) scene)).contexts) ≡ true
  unfolding with_context
  one_more w scene context =
      contexts_more w.contexts caller (left_of (with_scene scene here.status
      (machine_of w here)).context) (Some context)

  wants_more : (w : World) (scene : Scene) (begun : Option Context) → attempt.refused ≡ false
      → IsWithStore scene (given begun TypeCheck λ context.
      doing (with_context_more context (with_scene_of (call_by caller None w here) scene)))
      → (deed_wants (calling_of Fork) w here (deed_given_room attempt.refused w
      (given begun TypeCheck λ context.
      doing (with_context_more context (with_scene_of (call_by caller None w here) scene))))).beside
      ≡ true
  wants_more w scene None given_it same = absurd same
  wants_more w scene (Some context) given_it same =
      ap (λ b. (deed_wants (calling_of Fork) w here (deed_given_room b w
      (doing (with_context_more context
      (with_scene_of (call_by caller None w here) scene))))).beside) given_it
      ∙ one_more w scene context

  starved : (w : World) → IsWorld d w → attempt.refused ≡ false → (effect : Effect)
      → effect_in (fork_caller seat) l w.store ≡ effect → IsMaking effect
      → IsPlain (scene_of l w.store) effect
      → (call_wants (calling_of Fork) caller attempt.refused w here).beside ≡ true
  starved w at given_it (makes scene output) is making plain =
      let made = is ∙ ap (makes scene) plain.0 in
      ap (λ (o : Outcome Deed).
      (deed_wants (calling_of Fork) w here (deed_given_room attempt.refused w o)).beside)
      (law_there None w at
      ∙ ap (λ e. after_part e (fork_next None w)) (part_is_there w at ∙ made))
      ∙ wants_more w scene (forked here here.operands (length w.store)) given_it
      (stores_there None w scene made)
    where
      part_is_there : (w : World) → IsWorld d w
          → part_at (call_by caller None w here) (fork_caller seat)
          ≡ effect_in (fork_caller seat) l w.store
      part_is_there w at = λ i. change_effect
          (record (scene_of l w.store) { names = at.names i })
          (fork_part seat w.store here.operands)
  starved w at given_it (raises error) is making plain = absurd making
  starved w at given_it (unwinds cause scene) is making plain = absurd making
  starved w at given_it (calls deed) is making plain = absurd making

  module _ (same : new ≡ l) (given_it : attempt.refused ≡ false)
      (making : (store : Store) → IsShown l store → IsMaking (effect_in (fork_caller seat) l store))
    where
      same_desk : part ≡ d
      same_desk =
          ap (λ (one : Lent). desk_unmade d caller member one) same
          ∙ ap (λ (members : List (Option Member)). record d { members = members })
          (with_item-same d.members caller member found)

      starved_there : DoesBy Fork caller attempt shown (Err (NotMade Memory)) d d
      starved_there = record {
        meets = λ w context at there. at;
        steady = steady;
        runs = record { member = member; found = found; runs = runs };
        keeps = keeps-same d.heap;
        program = refl;
        most = refl;
        framed = λ framed. framed;
        same = λ w at. refl;
        held_up = λ reason is w context at there.
            let why : Memory ≡ reason = cc in
            subst (λ r. IsHeldUpAs
            (call_wants (calling_of Fork) caller attempt.refused w context) attempt.slot d.heap
            d.grants r) why
            (subst (λ (one : Context).
            may_fail d.heap.space.grows (call_wants (calling_of Fork) caller attempt.refused w one)
            ≡ true)
            (here_is d w at caller member found context there)
            (or_true _ _ (starved w at given_it (effect_in (fork_caller seat) l w.store) refl
            (making w.store (shown_there w at)) (fork_plain l w.store))));
        logs = logs-same 0 d.grants attempt.slot;
        made = λ is. absurd (cc);
        leaves = λ is. refl;
      }

      no_stacks : DoesBy Fork caller attempt shown (Err (NotMade Memory)) d part
      no_stacks =
          subst (λ (one : Desk). DoesBy Fork caller attempt shown (Err (NotMade Memory)) d one)
          (sym same_desk) starved_there

  pub unforked_done : (why : Unforked) → Forks seat attempt (Err why) l new
      → DoesBy Fork caller attempt shown (Err (break_of why)) d part
  unforked_done (Breaks why) forks = broken why forks
  unforked_done NoStacks forks = no_stacks forks.0 forks.1 forks.2
