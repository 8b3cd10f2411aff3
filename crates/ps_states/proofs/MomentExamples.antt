-- What a lane shows of a step, by examples that a near neighbour of the definitions fails.
use Rattle.std.proofs.Common.{◌≡◌, refl, ℕ, [], ◌∷◌, Bool, true, false, Some}
use Rattle.ps_language.specs.Contexts.{context_at}
use Rattle.ps_language.specs.Locks.{is_ready}
use Rattle.ps_language.specs.Owners.{owner_of}
use Rattle.ps_language.specs.Value.{lock_object}
use Rattle.ps_language.specs.World.{for_exit, for_stop, finished, running, unwinding}
use Rattle.ps_language.specs.World.{monitor_frame, waiting, retaking, World}
use Rattle.ps_timelines.specs.declared.moments.State.TheVariants as state
use Rattle.ps_views.specs.declared.states.StatusLine.TheVariants.{Ready, Finished, InMonitor}
use Rattle.ps_views.specs.declared.states.StatusLine.TheVariants.{InJoin, ForCondition, Notified}
use Rattle.ps_states.specs.declared.moments.StepEnd.{StepEnd}
use Rattle.ps_states.specs.declared.presences.Tie.TheVariants.{Joins, Notifies}
use Rattle.ps_states.specs.declared.presences.Presence.TheVariants.{Gone, Waiting, Retaking, Other}
use Rattle.ps_states.specs.Moments.{state_of, state_at, is_by, is_related, presence_of, presence_at}
use Rattle.ps_states.specs.Moments.{arrow_of, arrow_to, begins_error, end_of, outset_of}
use Rattle.ps_states.proofs.StepExamples.{one_of, world_of}

-- ---- states

-- who was notified waits for a lock, and who waits for a condition doesn't yet
notified : state_of (Notified 2 3) ≡ state.Lock
notified = refl

awaiting : state_of (ForCondition 2 3) ≡ state.Condition
awaiting = refl

-- one that isn't there is away
nobody : state_at (world_of [] []) 1 ≡ state.Away
unfolding context_at
nobody = refl

-- ---- whose step it was

abbrev end_by : (is_made : Bool) → (context : ℕ) → StepEnd
end_by is_made context =
    record { context = context; is_made = is_made; prints = false; fails = false }

made : is_by (end_by true 2) 2 ≡ true
made = refl

of_another : is_by (end_by true 2) 1 ≡ false
of_another = refl

-- a step that isn't made is nobody's
unmade : is_by (end_by false 2) 2 ≡ false
unmade = refl

-- ---- errors

-- to leave a loop is none
leaves : begins_error false (world_of [] (one_of (unwinding for_exit) [] ∷ [])) 1 ≡ false
unfolding context_at
leaves = refl

-- one that is unwinding already doesn't begin to
goes_on : begins_error true (record (world_of [] []) { error_lines = 1 }) 1 ≡ false
goes_on = refl

-- one that has nothing to unwind tells its error at once
at_once : begins_error false (record (world_of [] []) { error_lines = 1 }) 1 ≡ true
at_once = refl

-- ---- how contexts stand to one another

waits : presence_of (waiting 1 2) ≡ Waiting
waits = refl

retakes : presence_of (retaking 1) ≡ Retaking
retakes = refl

absent : presence_at (world_of [] []) 1 ≡ Gone
unfolding context_at
absent = refl

-- who is joined was there
joined : is_related Joins Other Gone ≡ true
joined = refl

long_gone : is_related Joins Gone Gone ≡ false
long_gone = refl

stays : is_related Joins Other Other ≡ false
stays = refl

-- who is notified waited
notifies : is_related Notifies Waiting Retaking ≡ true
notifies = refl

retook : is_related Notifies Retaking Retaking ≡ false
retook = refl

goes : is_related Notifies Waiting Gone ≡ false
goes = refl

-- a lane has the place of an identifier, from 0
first_lane : arrow_of 7 1 3 ≡ record { step = 7; from = 0; to = 2 }
first_lane = refl

-- to another alone
to_itself : arrow_to Joins 7 1 (world_of [] (one_of running [] ∷ [])) (world_of [] []) 1 ≡ []
unfolding context_at
to_itself = refl

to_another : arrow_to Joins 7 2 (world_of [] (one_of running [] ∷ [])) (world_of [] []) 1
    ≡ record { step = 7; from = 1; to = 0 } ∷ []
unfolding context_at
to_another = refl
