-- What a context does in a step of a run, as its lane shows it, and how it stands behind the step.
use Rattle.std.specs.Prelude.{ℕ, ◌+◌, ◌-◌, ◌==◌, ◌&&◌, ◌||◌, Bool, true, false, not, List, [], ◌∷◌}
use Rattle.std.specs.Prelude.{◌≡◌, ◌<◌, Some, length, nat_lt, slice_get, if◌then◌else◌}
use Rattle.std.specs.List.{flat_map, range_with_len}
use Rattle.std.specs.Option.{option_map_or}
use Rattle.ps_language.specs.Contexts.{context_at}
use Rattle.ps_language.specs.Locks.{is_ready}
use Rattle.ps_language.specs.Texts.{plain_text}
use Rattle.ps_language.specs.World.{Status, waiting, retaking, Context, World}
use Rattle.ps_ctx_readers.specs.Errors.{has_new_error_at, last_error_name}
use Rattle.ps_ctx_readers.specs.Frames.{status_at}
use Rattle.ps_timelines.specs.declared.arrows.Arrow.{Arrow}
use Rattle.ps_timelines.specs.declared.moments.Moment.{Moment}
use Rattle.ps_timelines.specs.declared.moments.State.{State}
use Rattle.ps_timelines.specs.declared.moments.State.TheVariants as state
use Rattle.ps_views.specs.declared.states.StatusLine.{StatusLine}
use Rattle.ps_views.specs.declared.states.StatusLine.TheVariants.{Ready, Finished, InMonitor}
use Rattle.ps_views.specs.declared.states.StatusLine.TheVariants.{InJoin, ForCondition, Notified}
use Rattle.ps_states.specs.declared.moments.Outset.{Outset}
use Rattle.ps_states.specs.declared.moments.StepEnd.{StepEnd}
use Rattle.ps_states.specs.declared.presences.Tie.{Tie}
use Rattle.ps_states.specs.declared.presences.Tie.TheVariants.{Joins, Notifies}
use Rattle.ps_states.specs.declared.presences.Presence.{Presence}
use Rattle.ps_states.specs.declared.presences.Presence.TheVariants.{Gone, Waiting, Retaking, Other}
use Rattle.ps_states.specs.Statuses.{status_line}
use Rattle.ps_states.specs.Steps.{locks_at, stops_at, tells_error}

-- ---- what a context does in a step

-- the state of a lane, by whether its context may go on and what it waits for
abbrev pub state_of : StatusLine → State
state_of Ready = state.Ready
state_of (InMonitor lock owner) = state.Lock
state_of (Notified lock owner) = state.Lock
state_of (ForCondition condition lock) = state.Condition
state_of (InJoin context) = state.Join
state_of Finished = state.Away

abbrev pub state_in : World → (identifier : ℕ) → Context → State
state_in now identifier one = state_of (status_line now.store (is_ready now identifier) one)

-- a context that isn't there is away
abbrev pub state_at : World → (identifier : ℕ) → State
state_at now identifier =
    option_map_or (state_in now identifier) (context_at now identifier) state.Away

abbrev pub has_any : List ℕ → Bool
has_any [] = false
has_any (lock ∷ locks) = true

-- what is known before a step: whose it is, how many contexts were made and bytes printed, and
-- whether its context is unwinding for stop
abbrev pub outset_of : World → (identifier : ℕ) → Outset
outset_of now identifier = record {
  context = identifier;
  contexts = length now.contexts;
  printed = length now.printed;
  stops = stops_at now identifier;
}

-- a step fails where its context began to unwind for stop, and its $error tells a new error, or
-- where it has nothing to unwind and the error's line is printed at once
abbrev pub begins_error : (stops : Bool) → World → (identifier : ℕ) → Bool
begins_error stops after identifier = if stops then false
    else (tells_error after || (stops_at after identifier && has_new_error_at after identifier))

-- what a step came to, if it was made
abbrev pub end_of : (is_made : Bool) → Outset → World → StepEnd
end_of is_made outset after = record {
  context = outset.context;
  is_made = is_made;
  prints = nat_lt outset.printed (length after.printed);
  fails = begins_error outset.stops after outset.context;
}

-- whether a step was made by a context
abbrev pub is_by : StepEnd → (identifier : ℕ) → Bool
is_by end identifier = end.is_made && (end.context == identifier)

abbrev pub moment_by : (steps : Bool) → StepEnd → World → (identifier : ℕ) → Moment
moment_by steps end after identifier = record {
  state = if steps then state.Steps else state_at after identifier;
  owner = has_any (locks_at after identifier);
  prints = steps && end.prints;
  fails = steps && end.fails;
}

-- what a context does in a step, by how the step ended and the world behind it
unfoldable pub moment_of : StepEnd → World → (identifier : ℕ) → Moment
moment_of end after identifier = moment_by (is_by end identifier) end after identifier

-- what is told of an error: its name
abbrev pub error_text : World → (identifier : ℕ) → List ℕ
error_text now identifier = option_map_or (plain_text now.store) (last_error_name now identifier) []

-- ---- how contexts stand to one another

-- a context waits for a condition, or was notified and waits for its lock
abbrev pub presence_of : Status → Presence
presence_of (waiting lock condition) = Waiting
presence_of (retaking lock) = Retaking
presence_of status = Other

-- one that isn't there is gone
abbrev pub presence_at : World → (identifier : ℕ) → Presence
presence_at now identifier = option_map_or presence_of (status_at now identifier) Gone

abbrev pub is_gone : Presence → Bool
is_gone Gone = true
is_gone presence = false

-- who was there is gone, or who waited is notified
abbrev pub is_related : Tie → (before after : Presence) → Bool
is_related Joins before after = not (is_gone before) && is_gone after
is_related Notifies Waiting Retaking = true
is_related Notifies before after = false

-- lanes are counted from 0, and identifiers from 1
abbrev pub arrow_of : (step from to : ℕ) → Arrow
arrow_of step from to = record { step = step; from = from - 1; to = to - 1 }

-- from the context of a step to another that it has to do with
abbrev pub arrow_to : Tie → (step from : ℕ) → (now after : World) → (to : ℕ) → List Arrow
arrow_to tie step from now after to =
    if not (from == to) && is_related tie (presence_at now to) (presence_at after to)
    then arrow_of step from to ∷ [] else []

-- of all that were made before it, by rising identifiers
unfoldable pub arrows_in : Tie → (step from : ℕ) → (now after : World) → List Arrow
arrows_in tie step from now after = flat_map (arrow_to tie step from now after)
    (range_with_len 1 (length now.contexts))

-- to the context that it made
unfoldable pub starts_in : (step : ℕ) → Outset → World → List Arrow
starts_in step outset after = if nat_lt outset.contexts (length after.contexts)
    then arrow_of step outset.context (length after.contexts) ∷ [] else []

-- a list of how all contexts stand that were made, by rising identifiers
pub record ArePresences (seen : List Presence) (now : World) : Type 0 where
  pub count : length seen ≡ length now.contexts
  pub each : (place : ℕ) → place < length seen
      → slice_get seen place ≡ Some (presence_at now (place + 1))
