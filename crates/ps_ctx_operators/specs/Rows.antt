-- The caller's part of the operators on contexts, locks and memory: what each does to what is lent
-- to its caller. What it does to other contexts is the world's (PLRM2, 7.1, 8 'Operators': Multiple
-- Execution Contexts, Virtual Memory). Operands are listed from the topmost down.
use Rattle.std.specs.Prelude.{ℕ, ℤ, pos, negsuc, int_le, ◌&&◌, Bool, true, false, not, Option, Some}
use Rattle.std.specs.Prelude.{None, unwrap_or, List, [], ◌∷◌, ◌++◌, length, if◌then◌else◌}
use Rattle.std.specs.Prelude.{option_map, option_and_then}
use Rattle.ps_language.specs.declared.errors.ErrorName.TheVariants.{ExecStackOverflow}
use Rattle.ps_language.specs.declared.errors.ErrorName.TheVariants.{InvalidAccess, InvalidContext}
use Rattle.ps_language.specs.declared.errors.ErrorName.TheVariants.{LimitCheck, RangeCheck}
use Rattle.ps_language.specs.declared.errors.ErrorName.TheVariants.{StackOverflow, StackUnderflow}
use Rattle.ps_language.specs.declared.errors.ErrorName.TheVariants.{TypeCheck, UnmatchedMark}
use Rattle.ps_language.specs.Value.{mark_value, Value, Object, Store}
use Rattle.ps_language.specs.Effect.{Scene, quiet, effect_by}
use Rattle.ps_language.specs.Outcome.{Outcome, leaves, fails, given, given_that, Change}
use Rattle.ps_language.specs.Access.{is_executable}
use Rattle.ps_language.specs.Objects.{making, changing}
use Rattle.ps_language.specs.Readers.{literal, natural, as_integer, is_full, push, leaving}
use Rattle.ps_language.specs.Rows.{Row, operand_row, changing_row, scene_row}
use Rattle.ps_language.specs.RowsStack.{split_at_mark}
use Rattle.ps_language.specs.StepErrors.{new_error_dictionary}
use Rattle.ps_language.specs.Control.{as_procedure, frames_fit}
use Rattle.ps_language.specs.Contexts.{memory_shown, identifier_of}
use Rattle.ps_language.specs.Owners.{as_lock, as_condition, owner_of, with_owner, is_owner, is_free}
use Rattle.ps_language.specs.Locks.{monitor_frames}
use Rattle.ps_ops_state.specs.Acts.{Asked, no_rooms}

-- ---- operands alone

-- currentcontext i
abbrev pub currentcontext_part : (caller : ℕ) → List Value → Outcome (List Value)
currentcontext_part caller operands = push (natural caller) operands

-- vmstatus i j k
abbrev pub vmstatus_part : (shown : Option (ℤ × ℤ)) → List Value → Outcome (List Value)
vmstatus_part shown operands = leaving (memory_shown shown ++ operands)

-- i vmreclaim, from -2 to 2
abbrev pub vmreclaim_part : List Value → Outcome (List Value)
vmreclaim_part (x ∷ rest) =
    given (as_integer x) TypeCheck λ i.
    given_that (int_le (negsuc 1) i && int_le i (pos 2)) RangeCheck (leaves rest)
vmreclaim_part _ = fails StackUnderflow

-- the number that is wished
abbrev pub wished : List Value → Option ℤ
wished (x ∷ rest) = as_integer x
wished [] = None

-- i, which is left where it is; a negative number is no context's
abbrev pub identifier_operand : List Value → Outcome ℕ
identifier_operand (x ∷ rest) = given (as_integer x) TypeCheck λ i. leaves (identifier_of i)
identifier_operand _ = fails StackUnderflow

-- i detach, of a context that there is
abbrev pub detach_part : List Value → Outcome (List Value)
detach_part (x ∷ rest) = given (as_integer x) TypeCheck λ i. leaves rest
detach_part _ = fails StackUnderflow

-- i join m x1..xn, of a finished context that leaves these operands
abbrev pub join_part : (taken : List Value) → List Value → Outcome (List Value)
join_part taken (x ∷ rest) =
    given (as_integer x) TypeCheck λ i. leaving (taken ++ literal mark_value ∷ rest)
join_part taken _ = fails StackUnderflow

-- C notify
abbrev pub notify_part : List Value → Outcome (List Value)
notify_part (c ∷ rest) = given (as_condition c) TypeCheck λ condition. leaves rest
notify_part _ = fails StackUnderflow

-- the condition that is notified
abbrev pub notified_condition : List Value → Option ℕ
notified_condition (c ∷ rest) = as_condition c
notified_condition [] = None

-- ---- locks and conditions

-- a new lock or condition
abbrev pub new_part : Object → Store → List Value → Outcome Change
new_part object store operands =
    given_that (not (is_full operands)) StackOverflow (making object operands store)

-- L C wait: the lock is freed
abbrev pub wait_part : (caller : ℕ) → Store → List Value → Outcome Change
wait_part caller store (c ∷ l ∷ rest) =
    given (as_condition c) TypeCheck λ condition.
    given (as_lock l) TypeCheck λ lock.
    given_that (is_owner caller (owner_of store lock)) InvalidContext
    (changing rest (with_owner store lock None))
wait_part caller store _ = fails StackUnderflow

-- the lock that is freed, and the condition that is waited for
abbrev pub waited : List Value → Option (ℕ × ℕ)
waited (c ∷ l ∷ rest) =
    option_and_then (λ condition. option_map (λ lock. (lock, condition)) (as_lock l))
    (as_condition c)
waited _ = None

-- L P monitor: what is left where the lock is free; none where it is another's: the caller waits
abbrev pub monitor_part : (caller : ℕ) → List Value → Scene → Outcome (Option Scene)
monitor_part caller (p ∷ l ∷ rest) scene =
    given (as_procedure p) TypeCheck λ body.
    given (as_lock l) TypeCheck λ lock.
    given_that (is_executable body.access) InvalidAccess
    (given_that (not (is_owner caller (owner_of scene.store lock))) InvalidContext
    (if is_free (owner_of scene.store lock) then
    given_that (frames_fit (length (monitor_frames lock body)) scene.frames) ExecStackOverflow
    (leaves (Some (record scene {
      operands = rest;
      frames = monitor_frames lock body
          ++ scene.frames;
      store = with_owner scene.store lock (Some caller);
    })))
    else leaves None))
monitor_part caller _ scene = fails StackUnderflow

-- whether the caller waits
abbrev pub is_waiting : Outcome (Option Scene) → Bool
is_waiting (leaves None) = true
is_waiting (leaves (Some scene)) = false
is_waiting (fails error) = false

-- ---- fork

-- m x1..xn P fork i: all above the mark is another context's; seat: the identifier that it gets,
-- where there may be one more
abbrev pub fork_part : (seat : Option ℕ) → Store → List Value → Outcome Change
fork_part seat store (p ∷ rest) =
    given (as_procedure p) TypeCheck λ body.
    given (split_at_mark rest) UnmatchedMark λ parts.
    given_that (is_executable body.access) InvalidAccess
    (given seat LimitCheck λ identifier.
    changing (natural identifier ∷ parts.1) (store ++ new_error_dictionary ∷ []))
fork_part seat store _ = fails StackUnderflow

-- ---- their rows

abbrev pub currentcontext_caller : (caller : ℕ) → Row
currentcontext_caller caller = operand_row (currentcontext_part caller)

abbrev pub vmstatus_caller : (shown : Option (ℤ × ℤ)) → Row
vmstatus_caller shown = operand_row (vmstatus_part shown)

abbrev pub vmreclaim_caller : Row
vmreclaim_caller = operand_row vmreclaim_part

abbrev pub detach_caller : Row
detach_caller = operand_row detach_part

abbrev pub join_caller : (taken : List Value) → Row
join_caller taken = operand_row (join_part taken)

abbrev pub notify_caller : Row
notify_caller = operand_row notify_part

abbrev pub new_caller : Object → Row
new_caller object = changing_row (new_part object)

abbrev pub wait_caller : (caller : ℕ) → Row
wait_caller caller = changing_row (wait_part caller)

-- a caller that waits changes nothing
abbrev pub monitor_caller : (caller : ℕ) → Row
monitor_caller caller = scene_row λ scene.
    effect_by (λ left. quiet (unwrap_or left scene)) (monitor_part caller scene.operands scene)

abbrev pub fork_caller : (seat : Option ℕ) → Row
fork_caller seat = changing_row (fork_part seat)

-- ---- what they ask for

-- the store of an owner puts a record
abbrev pub wait_asked : Scene → Asked
wait_asked scene = record { records = 1; scratch = no_rooms }

-- by what is left: a caller that waits stores none
abbrev pub records_left : Outcome (Option Scene) → ℕ
records_left (leaves (Some scene)) = 1
records_left (leaves None) = 0
records_left (fails error) = 0

abbrev pub monitor_asked : (caller : ℕ) → Scene → Asked
monitor_asked caller scene = record {
  records = records_left (monitor_part caller scene.operands scene);
  scratch = no_rooms;
}
