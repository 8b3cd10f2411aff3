-- The lines of the steps of a run.
use Rattle.std.specs.Prelude.{ℕ, ◌==◌, ◌||◌, Bool, true, false, not, Option, Some, None, List, []}
use Rattle.std.specs.Prelude.{◌∷◌, ◌++◌, length, drop, take, reverse, map, find, nat_lt, codes}
use Rattle.std.specs.Prelude.{if◌then◌else◌, option_map}
use Rattle.std.specs.List.{flat_map, join_with_byte, list_any}
use Rattle.std.specs.Option.{option_map_or}
use Rattle.ps_language.specs.Contexts.{context_at}
use Rattle.ps_language.specs.Locks.{is_ready}
use Rattle.ps_language.specs.Texts.{escaped, full_text, plain_text}
use Rattle.ps_language.specs.Value.{Value, Store}
use Rattle.ps_language.specs.World.{for_stop, Status, unwinding, Context, World}
use Rattle.ps_ctx_readers.specs.Errors.{has_new_error_at, last_error_name}
use Rattle.ps_ctx_readers.specs.Frames.{status_at}
use Rattle.ps_views.specs.declared.frames.Coming.TheVariants.{Nothing}
use Rattle.ps_views.specs.declared.states.StatusLine.{StatusLine}
use Rattle.ps_views.specs.declared.states.StatusLine.TheVariants.{Ready, Finished}
use Rattle.ps_views.specs.declared.steps.Remark.TheVariants.{Starts, Takes, Frees, Waits}
use Rattle.ps_views.specs.declared.steps.Remark.TheVariants.{Finishes, Ends}
use Rattle.ps_views.specs.Lines.{cut_line, label_text}
use Rattle.ps_views.specs.Steps.{step_line, remark_text}
use Rattle.ps_states.specs.Charts.{Chart}
use Rattle.ps_states.specs.Next.{Next, bare, next_of}
use Rattle.ps_states.specs.States.{locks_of}
use Rattle.ps_states.specs.Statuses.{status_line}

-- ---- the operands behind the step

-- one, as == shows it
abbrev pub operand_shown : Store → Value → List ℕ
operand_shown store value = cut_line 24 (full_text store value)

-- the topmost four, the top last; two dots stand for those below
abbrev pub operands_text : Store → List Value → List ℕ
operands_text store operands = (if nat_lt 4 (length operands) then codes ".. " else [])
    ++ join_with_byte 32 (map (operand_shown store) (reverse (take 4 operands)))

-- ---- what is known before the step

-- the locks that a context has, if it is there
abbrev pub locks_at : World → (identifier : ℕ) → List ℕ
locks_at now identifier =
    option_map_or (locks_of now.store identifier) (context_at now identifier) []

-- whether it is unwinding for stop
abbrev pub is_stopping : Status → Bool
is_stopping (unwinding for_stop) = true
is_stopping status = false

abbrev pub stops_at : World → (identifier : ℕ) → Bool
stops_at now identifier = option_map_or is_stopping (status_at now identifier) false

-- what its step does: nothing, where it isn't ready
abbrev pub ready_next : Chart → Store → (ready : Bool) → Context → Next
ready_next chart store ready one = if ready then next_of chart store one else bare Nothing

abbrev pub step_next : Chart → World → (identifier : ℕ) → Next
step_next chart now identifier =
    option_map_or (ready_next chart now.store (is_ready now identifier)) (context_at now identifier)
    (bare Nothing)

-- the number of the step and its context; whether it is made, and what it does; how many contexts
-- were made and bytes printed; and of its context the locks that it has, and whether it is unwinding
-- for stop
pub record Known : Type 0 where
  pub step : ℕ
  pub context : ℕ
  pub is_made : Bool
  pub next : Next
  pub contexts : ℕ
  pub printed : ℕ
  pub locks : List ℕ
  pub stops : Bool

abbrev pub known_of : Chart → World → (step identifier : ℕ) → Known
known_of chart now step identifier = record {
  step = step;
  context = identifier;
  is_made = is_ready now identifier;
  next = step_next chart now identifier;
  contexts = length now.contexts;
  printed = length now.printed;
  locks = locks_at now identifier;
  stops = stops_at now identifier;
}

-- ---- what others see of it

-- the context that it made
abbrev pub started : (contexts : ℕ) → World → Option (List ℕ)
started contexts after = if nat_lt contexts (length after.contexts)
    then Some (remark_text (Starts (length after.contexts))) else None

-- what it printed, as a string
abbrev pub printed_text : List ℕ → Option (List ℕ)
printed_text [] = None
printed_text (byte ∷ bytes) =
    Some (codes "prints (" ++ (flat_map escaped (byte ∷ bytes) ++ codes ")"))

-- the first of these locks that isn't one of those
abbrev pub lock_beside : (locks others : List ℕ) → Option ℕ
lock_beside locks others = find (λ lock. not (list_any (λ other. other == lock) others)) locks

-- whether the line of an error is printed: by a context that has nothing to unwind, if the world
-- before the step has none
abbrev pub tells_error : World → Bool
tells_error after = not (after.error_lines == 0)

-- why it began to unwind for stop: the error that its $error tells as a new one, if there is one
abbrev pub error_label : World → (identifier : ℕ) → List ℕ
error_label after identifier =
    label_text (option_map (plain_text after.store) (last_error_name after identifier))

abbrev pub stop_text : World → (identifier : ℕ) → List ℕ
stop_text after identifier = if tells_error after || has_new_error_at after identifier
    then codes "error" ++ error_label after identifier else codes "stops"

abbrev pub stopped : (stops : Bool) → World → (identifier : ℕ) → Option (List ℕ)
stopped stops after identifier = if stops then None
    else (if tells_error after || stops_at after identifier
    then Some (stop_text after identifier) else None)

-- what became of the context
abbrev pub status_remark : StatusLine → Option (List ℕ)
status_remark Ready = None
status_remark Finished = Some (remark_text Finishes)
status_remark status = Some (remark_text (Waits status))

abbrev pub left_text : World → (identifier : ℕ) → Option Context → Option (List ℕ)
left_text after identifier None = Some (remark_text Ends)
left_text after identifier (Some one) =
    status_remark (status_line after.store (is_ready after identifier) one)

-- one more remark, behind a semicolon where it isn't the first
abbrev pub separated : (told : List ℕ) → List ℕ
separated [] = []
separated (byte ∷ told) = (byte ∷ told) ++ codes "; "

abbrev pub and_remark : (told : List ℕ) → Option (List ℕ) → List ℕ
and_remark told None = told
and_remark told (Some remark) = separated told ++ remark

-- the context that begins, and what is printed
abbrev pub and_outward : (told : List ℕ) → Known → World → List ℕ
and_outward told known after = and_remark (and_remark told (started known.contexts after))
    (printed_text (drop known.printed after.printed))

-- what becomes of locks
abbrev pub and_locks : (told before behind : List ℕ) → List ℕ
and_locks told before behind = and_remark
    (and_remark told (option_map (λ lock. remark_text (Takes lock)) (lock_beside behind before)))
    (option_map (λ lock. remark_text (Frees lock)) (lock_beside before behind))

-- all of them, where it is made
abbrev pub made_text : Known → World → List ℕ
made_text known after = and_remark
    (and_remark (and_locks (and_outward [] known after) known.locks (locks_at after known.context))
    (stopped known.stops after known.context))
    (left_text after known.context (context_at after known.context))

-- and none where it isn't
unfoldable pub remarks_text : Known → World → List ℕ
remarks_text known after = if known.is_made then made_text known after else []

-- ---- the step, and all steps

abbrev pub operands_at : World → (identifier : ℕ) → List Value
operands_at now identifier = option_map_or (λ one. one.operands) (context_at now identifier) []

-- the line of a step, by what was known before it and the world behind it
unfoldable pub step_text : Known → World → List ℕ
step_text known after = step_line (record {
  step = known.step;
  context = known.context;
  position = known.next.position;
  coming = known.next.coming;
}) known.next.value (operands_text after.store (operands_at after known.context))
    (remarks_text known after)
