-- The deed of each operator on contexts, locks and memory, by its caller's part.
use Rattle.std.proofs.Common.{◌≡◌, ℕ, ℤ, ◌==◌, Bool, true, false, List, [], ◌∷◌, ◌++◌, length, Option, Some, None, refl}
use Rattle.std.proofs.Common.{ap, ◌∙◌}
use Rattle.std.specs.Prelude.{◌+◌, ◌&&◌, not, pos, negsuc, int_le, unwrap_or, nat_lt, if◌then◌else◌, option_map}
use Rattle.std.specs.Prelude.{option_and_then}
use Rattle.ps_language.specs.declared.errors.ErrorName.TheVariants.{ExecStackOverflow, InvalidAccess, InvalidContext}
use Rattle.ps_language.specs.declared.errors.ErrorName.TheVariants.{LimitCheck, RangeCheck, StackOverflow, TypeCheck}
use Rattle.ps_language.specs.declared.errors.ErrorName.TheVariants.{UnmatchedMark}
use Rattle.ps_language.specs.Value.{Part, Value, Object, mark_value}
use Rattle.ps_language.specs.World.{Context, waiting}
use Rattle.ps_language.specs.Effect.{Scene, Call, Note, does, waits, nothing, shows_memory, wishes, turn_ends, quiet}
use Rattle.ps_language.specs.Effect.{effect_by}
use Rattle.ps_language.specs.Outcome.{Outcome, leaves, fails, given, given_that, and_then}
use Rattle.ps_language.specs.Access.{is_executable}
use Rattle.ps_language.specs.Acts.{operands_effect, change_effect}
use Rattle.ps_language.specs.Objects.{making, changing, reference_to}
use Rattle.ps_language.specs.Readers.{literal, natural, as_integer, is_full, push, leaving, room_for}
use Rattle.ps_language.specs.RowsStack.{split_at_mark}
use Rattle.ps_language.specs.StepErrors.{new_error_dictionary}
use Rattle.ps_language.specs.Control.{as_procedure, frames_fit}
use Rattle.ps_language.specs.Limits.{context_limit, identifier_limit}
use Rattle.ps_language.specs.Owners.{as_lock, as_condition, owner_of, with_owner, is_owner, is_free}
use Rattle.ps_language.specs.Contexts.{with_context, with_operands_of, doing, doing_operands, currentcontext_row}
use Rattle.ps_language.specs.Contexts.{vmstatus_row, vmreclaim_row, new_row, count_not_ended, new_context}
use Rattle.ps_language.specs.Contexts.{with_new_context, fork_row, identifier_of, named_context, is_finished}
use Rattle.ps_language.specs.Contexts.{without_context, join_row, with_detached, detach_row}
use Rattle.ps_language.specs.Locks.{monitor_frames, monitor_row, wait_row, with_notified, notify_row, is_wait}
use Rattle.ps_ctx_operators.specs.Rows.{currentcontext_caller, vmstatus_caller, vmreclaim_part, wished, new_caller}
use Rattle.ps_ctx_operators.specs.Rows.{is_waiting, monitor_part, wait_part, waited, notify_part}
use Rattle.ps_ctx_operators.specs.Rows.{notified_condition, fork_part, identifier_operand, join_part, detach_part}
use Rattle.ps_ctx_operators.specs.Deeds.{scene_at, part_at, with_scene_as, with_scene_of, after_part, scene_deed}
use Rattle.ps_ctx_operators.specs.Deeds.{free_seat, with_context_more, forked}

module _ (call : Call) where
  abbrev operands : List Value
  operands = call.context.operands

  -- ---- operands alone

  operands_deed : (note : Note) (outcome : Outcome (List Value))
      → doing_operands note call outcome
      ≡ scene_deed note call (operands_effect (scene_at call) outcome)
  unfolding with_context
  operands_deed note (leaves left) = refl
  operands_deed note (fails error) = refl

  pub currentcontext_deed : currentcontext_row operands call
      ≡ scene_deed nothing call (part_at call (currentcontext_caller call.caller))
  currentcontext_deed = operands_deed nothing (push (natural call.caller) operands)

  pub vmstatus_deed : vmstatus_row operands call
      ≡ scene_deed shows_memory call (part_at call (vmstatus_caller call.shown))
  vmstatus_deed = operands_deed shows_memory _

  -- what is left, where a number is wished that there may be
  wished_deed : (i : ℤ) (rest : List Value) (may : Bool)
      → given_that may RangeCheck (doing_operands (wishes i) call (leaves rest))
      ≡ after_part (operands_effect (scene_at call) (given_that may RangeCheck (leaves rest)))
      (λ scene. leaves (does (wishes i) (with_scene_of call scene)))
  unfolding with_context
  wished_deed i rest true = refl
  wished_deed i rest false = refl

  wish_deed : (rest : List Value) (number : Option ℤ)
      → given number TypeCheck (λ i. given_that (int_le (negsuc 1) i && int_le i (pos 2)) RangeCheck
      (doing_operands (wishes i) call (leaves rest)))
      ≡ after_part (operands_effect (scene_at call) (given number TypeCheck
      (λ i. given_that (int_le (negsuc 1) i && int_le i (pos 2)) RangeCheck (leaves rest))))
      (λ scene. given number TypeCheck λ i. leaves (does (wishes i) (with_scene_of call scene)))
  wish_deed rest None = refl
  wish_deed rest (Some i) = wished_deed i rest (int_le (negsuc 1) i && int_le i (pos 2))

  pub vmreclaim_deed : (held : List Value) → vmreclaim_row held call
      ≡ after_part (operands_effect (scene_at call) (vmreclaim_part held)) (λ scene.
      given (wished held) TypeCheck λ i. leaves (does (wishes i) (with_scene_of call scene)))
  vmreclaim_deed [] = refl
  vmreclaim_deed (x ∷ rest) = wish_deed rest (as_integer x)

  -- ---- locks and conditions

  new_deed_as : (object : Object) (full : Bool)
      → and_then (given_that (not full) StackOverflow
      (leaves (literal (reference_to object (length call.world.store)) ∷ operands)))
      (λ pushed. doing (record (with_operands_of call pushed)
      { store = call.world.store ++ object ∷ [] }))
      ≡ scene_deed nothing call (change_effect (scene_at call) (given_that (not full) StackOverflow
      (making object operands call.world.store)))
  unfolding with_context
  new_deed_as object true = refl
  new_deed_as object false = refl

  pub new_deed : (object : Object) → new_row object operands call
      ≡ scene_deed nothing call (part_at call (new_caller object))
  new_deed object = new_deed_as object (is_full operands)

  -- the scene is left where nothing is wrong and the lock is free; who finds it another's waits
  entered_deed : (scene : Scene) (may own free fit : Bool)
      → given_that may InvalidAccess (given_that (not own) InvalidContext
      (if free then given_that fit ExecStackOverflow
      (leaves (does nothing (with_scene_of call scene))) else leaves waits))
      ≡ (let left : Outcome (Option Scene) =
      given_that may InvalidAccess (given_that (not own) InvalidContext
      (if free then given_that fit ExecStackOverflow (leaves (Some scene)) else leaves None)) in
      if is_waiting left then leaves waits else scene_deed nothing call
      (effect_by (λ (o : Option Scene). quiet (unwrap_or o (scene_at call))) left))
  entered_deed scene false own free fit = refl
  entered_deed scene true true free fit = refl
  entered_deed scene true false false fit = refl
  entered_deed scene true false true false = refl
  entered_deed scene true false true true = refl

  module _ (rest : List Value) where
    abbrev entered_scene : (body : Part) → (lock : ℕ) → Scene
    entered_scene body lock = record (scene_at call) {
      operands = rest;
      frames = monitor_frames lock body ++ call.context.frames;
      store = with_owner call.world.store lock (Some call.caller);
    }

    abbrev entered_part : Option Part → Option ℕ → Outcome (Option Scene)
    entered_part procedure named =
        given procedure TypeCheck λ body.
        given named TypeCheck λ lock.
        given_that (is_executable body.access) InvalidAccess
        (given_that (not (is_owner call.caller (owner_of call.world.store lock))) InvalidContext
        (if is_free (owner_of call.world.store lock) then
        given_that (frames_fit (length (monitor_frames lock body)) call.context.frames)
        ExecStackOverflow
        (leaves (Some (entered_scene body lock)))
        else leaves None))

    enter_deed : (procedure : Option Part) (named : Option ℕ)
        → given procedure TypeCheck (λ body. given named TypeCheck λ lock.
        given_that (is_executable body.access) InvalidAccess
        (given_that (not (is_owner call.caller (owner_of call.world.store lock))) InvalidContext
        (if is_free (owner_of call.world.store lock) then
        given_that (frames_fit (length (monitor_frames lock body)) call.context.frames)
        ExecStackOverflow
        (doing (record (with_context call.caller
        (record call.context {
          operands = rest;
          frames = monitor_frames lock body
              ++ call.context.frames;
        }) call.world)
        { store = with_owner call.world.store lock (Some call.caller) }))
        else leaves waits)))
        ≡ (if is_waiting (entered_part procedure named) then leaves waits
        else scene_deed nothing call (effect_by (λ (o : Option Scene). quiet (unwrap_or o (scene_at call)))
        (entered_part procedure named)))
    unfolding with_context
    enter_deed None named = refl
    enter_deed (Some body) None = refl
    enter_deed (Some body) (Some lock) =
        entered_deed (entered_scene body lock) (is_executable body.access)
        (is_owner call.caller (owner_of call.world.store lock))
        (is_free (owner_of call.world.store lock))
        (frames_fit (length (monitor_frames lock body)) call.context.frames)

  pub monitor_deed : (held : List Value) → monitor_row held call
      ≡ (if is_waiting (monitor_part call.caller held (scene_at call)) then leaves waits
      else scene_deed nothing call
      (effect_by (λ (o : Option Scene). quiet (unwrap_or o (scene_at call)))
      (monitor_part call.caller held (scene_at call))))
  monitor_deed [] = refl
  monitor_deed (p ∷ []) = refl
  monitor_deed (p ∷ l ∷ rest) = enter_deed rest (as_procedure p) (as_lock l)

  waits_as : (left : Outcome (Option Scene)) → is_wait (if is_waiting left then leaves waits
      else scene_deed nothing call
      (effect_by (λ (o : Option Scene). quiet (unwrap_or o (scene_at call))) left))
      ≡ is_waiting left
  waits_as (leaves None) = refl
  waits_as (leaves (Some scene)) = refl
  waits_as (fails error) = refl

  pub monitor_waits : (held : List Value) → is_wait (monitor_row held call)
      ≡ is_waiting (monitor_part call.caller held (scene_at call))
  monitor_waits held = ap is_wait (monitor_deed held)
      ∙ waits_as (monitor_part call.caller held (scene_at call))

  waits_deed : (rest : List Value) (condition lock : ℕ) (own : Bool)
      → given_that own InvalidContext
      (leaves (does turn_ends (record
      (with_context call.caller
      (record call.context { operands = rest; status = waiting lock condition }) call.world)
      { store = with_owner call.world.store lock None })))
      ≡ after_part (change_effect (scene_at call) (given_that own InvalidContext
      (changing rest (with_owner call.world.store lock None))))
      (λ scene. leaves (does turn_ends (with_scene_as (waiting lock condition) call scene)))
  unfolding with_context
  waits_deed rest condition lock true = refl
  waits_deed rest condition lock false = refl

  wait_deed_as : (rest : List Value) (condition lock : Option ℕ)
      → given condition TypeCheck (λ c. given lock TypeCheck λ l.
      given_that (is_owner call.caller (owner_of call.world.store l)) InvalidContext
      (leaves (does turn_ends (record
      (with_context call.caller
      (record call.context { operands = rest; status = waiting l c }) call.world)
      { store = with_owner call.world.store l None }))))
      ≡ after_part (change_effect (scene_at call) (given condition TypeCheck λ c.
      given lock TypeCheck λ l.
      given_that (is_owner call.caller (owner_of call.world.store l)) InvalidContext
      (changing rest (with_owner call.world.store l None))))
      (λ scene. given (option_and_then (λ c. option_map (λ l. (l, c)) lock) condition) TypeCheck
      λ (both : ℕ × ℕ). leaves (does turn_ends (with_scene_as (waiting both.0 both.1) call scene)))
  wait_deed_as rest None lock = refl
  wait_deed_as rest (Some c) None = refl
  wait_deed_as rest (Some c) (Some l) =
      waits_deed rest c l (is_owner call.caller (owner_of call.world.store l))

  pub wait_deed : (held : List Value) → wait_row held call
      ≡ after_part (change_effect (scene_at call) (wait_part call.caller call.world.store held))
      (λ scene. given (waited held) TypeCheck λ (both : ℕ × ℕ).
      leaves (does turn_ends (with_scene_as (waiting both.0 both.1) call scene)))
  wait_deed [] = refl
  wait_deed (c ∷ []) = refl
  wait_deed (c ∷ l ∷ rest) = wait_deed_as rest (as_condition c) (as_lock l)

  notify_deed_as : (rest : List Value) (condition : Option ℕ)
      → given condition TypeCheck (λ c. doing (with_notified c (with_operands_of call rest)))
      ≡ after_part (operands_effect (scene_at call) (given condition TypeCheck λ c. leaves rest))
      (λ scene. given condition TypeCheck λ c. doing (with_notified c (with_scene_of call scene)))
  unfolding with_context
  notify_deed_as rest None = refl
  notify_deed_as rest (Some c) = refl

  pub notify_deed : (held : List Value) → notify_row held call
      ≡ after_part (operands_effect (scene_at call) (notify_part held)) (λ scene.
      given (notified_condition held) TypeCheck λ c.
      doing (with_notified c (with_scene_of call scene)))
  notify_deed [] = refl
  notify_deed (c ∷ rest) = notify_deed_as rest (as_condition c)

  -- ---- fork

  module _ (body : Part) (parts : List Value × List Value) where
    abbrev begun : Context
    begun = new_context call.context body parts.0 (length call.world.store)

    forks_deed : (may seats : Bool)
        → given_that may InvalidAccess (given_that seats LimitCheck
        (doing (with_new_context begun
        (with_operands_of call (natural (length call.world.contexts + 1) ∷ parts.1)))))
        ≡ after_part (change_effect (scene_at call) (given_that may InvalidAccess
        (given (if seats then Some (length call.world.contexts + 1) else None) LimitCheck
        λ identifier. changing (natural identifier ∷ parts.1)
        (call.world.store ++ new_error_dictionary ∷ []))))
        (λ scene. doing (with_context_more begun (with_scene_of call scene)))
    unfolding with_context
    forks_deed false seats = refl
    forks_deed true false = refl
    forks_deed true true = refl

  abbrev seats_left : Bool
  seats_left = nat_lt (count_not_ended call.world.contexts) context_limit
      && nat_lt (length call.world.contexts) identifier_limit

  fork_deed_as : (procedure : Option Part) (split : Option (List Value × List Value))
      → given procedure TypeCheck (λ body. given split UnmatchedMark λ parts.
      given_that (is_executable body.access) InvalidAccess
      (given_that seats_left LimitCheck
      (doing (with_new_context (new_context call.context body parts.0 (length call.world.store))
      (with_operands_of call (natural (length call.world.contexts + 1) ∷ parts.1))))))
      ≡ after_part (change_effect (scene_at call) (given procedure TypeCheck λ body.
      given split UnmatchedMark λ parts. given_that (is_executable body.access) InvalidAccess
      (given (free_seat call.world) LimitCheck λ identifier.
      changing (natural identifier ∷ parts.1) (call.world.store ++ new_error_dictionary ∷ []))))
      (λ scene. given (option_and_then (λ body. option_map (λ (parts : List Value × List Value).
      new_context call.context body parts.0 (length call.world.store)) split) procedure) TypeCheck
      λ context. doing (with_context_more context (with_scene_of call scene)))
  fork_deed_as None split = refl
  fork_deed_as (Some body) None = refl
  fork_deed_as (Some body) (Some parts) =
      forks_deed body parts (is_executable body.access) seats_left

  pub fork_deed : (held : List Value) → fork_row held call
      ≡ after_part (change_effect (scene_at call)
      (fork_part (free_seat call.world) call.world.store held))
      (λ scene. given (forked call.context held (length call.world.store)) TypeCheck λ context.
      doing (with_context_more context (with_scene_of call scene)))
  fork_deed [] = refl
  fork_deed (p ∷ rest) = fork_deed_as (as_procedure p) (split_at_mark rest)

  -- ---- join and detach

  module _ (rest : List Value) (identifier : ℕ) where
    module _ (other : Context) where
      joins_deed : (own over roomy : Bool)
          → given_that (not own) InvalidContext
          (if over then given_that roomy StackOverflow (doing (without_context identifier
          (with_operands_of call (other.operands ++ literal mark_value ∷ rest)))) else leaves waits)
          ≡ given_that (not own) InvalidContext
          (if over then after_part (operands_effect (scene_at call) (given_that roomy StackOverflow
          (leaves (other.operands ++ literal mark_value ∷ rest))))
          (λ scene. doing (without_context identifier (with_scene_of call scene)))
          else leaves waits)
      unfolding with_context
      joins_deed true over roomy = refl
      joins_deed false false roomy = refl
      joins_deed false true false = refl
      joins_deed false true true = refl

    joined_deed : (found : Option Context)
        → given found InvalidContext (λ other. given_that (not (identifier == call.caller))
        InvalidContext
        (if is_finished other.status then
        given_that (room_for (other.operands ++ literal mark_value ∷ rest)) StackOverflow
        (doing (without_context identifier
        (with_operands_of call (other.operands ++ literal mark_value ∷ rest))))
        else leaves waits))
        ≡ given found InvalidContext (λ other. given_that (not (identifier == call.caller))
        InvalidContext
        (if is_finished other.status then after_part (operands_effect (scene_at call)
        (leaving (other.operands ++ literal mark_value ∷ rest)))
        (λ scene. doing (without_context identifier (with_scene_of call scene))) else leaves waits))
    joined_deed None = refl
    joined_deed (Some other) = joins_deed other (identifier == call.caller)
        (is_finished other.status) (room_for (other.operands ++ literal mark_value ∷ rest))

    detached_deed : (found : Option Context)
        → given found InvalidContext (λ other.
        doing (with_detached identifier (with_operands_of call rest)))
        ≡ given found InvalidContext (λ other.
        doing (with_detached identifier
        (with_scene_of call (record (scene_at call) { operands = rest }))))
    unfolding with_context
    detached_deed None = refl
    detached_deed (Some other) = refl

  join_deed_as : (rest : List Value) (number : Option ℤ)
      → given number TypeCheck (λ i.
      given (named_context (identifier_of i) call.world) InvalidContext λ other.
      given_that (not (identifier_of i == call.caller)) InvalidContext
      (if is_finished other.status then
      given_that (room_for (other.operands ++ literal mark_value ∷ rest)) StackOverflow
      (doing (without_context (identifier_of i)
      (with_operands_of call (other.operands ++ literal mark_value ∷ rest))))
      else leaves waits))
      ≡ and_then (given number TypeCheck λ i. leaves (identifier_of i)) (λ identifier.
      given (named_context identifier call.world) InvalidContext λ other.
      given_that (not (identifier == call.caller)) InvalidContext
      (if is_finished other.status then after_part (operands_effect (scene_at call)
      (given number TypeCheck λ i. leaving (other.operands ++ literal mark_value ∷ rest)))
      (λ scene. doing (without_context identifier (with_scene_of call scene))) else leaves waits))
  join_deed_as rest None = refl
  join_deed_as rest (Some i) =
      joined_deed rest (identifier_of i) (named_context (identifier_of i) call.world)

  pub join_deed : (held : List Value) → join_row held call
      ≡ and_then (identifier_operand held) (λ identifier.
      given (named_context identifier call.world) InvalidContext λ other.
      given_that (not (identifier == call.caller)) InvalidContext
      (if is_finished other.status then after_part (operands_effect (scene_at call)
      (join_part other.operands held))
      (λ scene. doing (without_context identifier (with_scene_of call scene))) else leaves waits))
  join_deed [] = refl
  join_deed (x ∷ rest) = join_deed_as rest (as_integer x)

  detach_deed_as : (rest : List Value) (number : Option ℤ)
      → given number TypeCheck (λ i.
      given (named_context (identifier_of i) call.world) InvalidContext λ other.
      doing (with_detached (identifier_of i) (with_operands_of call rest)))
      ≡ and_then (given number TypeCheck λ i. leaves (identifier_of i)) (λ identifier.
      given (named_context identifier call.world) InvalidContext λ other.
      after_part (operands_effect (scene_at call) (given number TypeCheck λ i. leaves rest))
      (λ scene. doing (with_detached identifier (with_scene_of call scene))))
  detach_deed_as rest None = refl
  detach_deed_as rest (Some i) =
      detached_deed rest (identifier_of i) (named_context (identifier_of i) call.world)

  pub detach_deed : (held : List Value) → detach_row held call
      ≡ and_then (identifier_operand held) (λ identifier.
      given (named_context identifier call.world) InvalidContext λ other.
      after_part (operands_effect (scene_at call) (detach_part held))
      (λ scene. doing (with_detached identifier (with_scene_of call scene))))
  detach_deed [] = refl
  detach_deed (x ∷ rest) = detach_deed_as rest (as_integer x)
