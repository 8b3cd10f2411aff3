-- The operators that are left to the world print nothing.
use Rattle.std.proofs.Common.{◌≡◌, ℕ, true, Option, Some, None, List, [], ◌∷◌, refl, ◌∙◌}
use Rattle.std.specs.Prelude.{⊤}
use Rattle.std.specs.Option.{option_map_or}
use Rattle.ps_language.specs.Value.{What, integer_value, Value, Object}
use Rattle.ps_language.specs.World.{Context, World}
use Rattle.ps_language.specs.Effect.{Call, Note, nothing, Deed, does, waits}
use Rattle.ps_language.specs.Outcome.{Outcome}
use Rattle.ps_language.specs.Contexts.{context_at, with_context, with_operands_of, doing_operands, vmstatus_row}
use Rattle.ps_language.specs.Contexts.{vmreclaim_row, currentcontext_row, yield_row, new_row, fork_row, join_row}
use Rattle.ps_language.specs.Contexts.{with_detached, detach_row}
use Rattle.ps_language.specs.Locks.{retried_by, retried, monitor_row, wait_row, notify_row}
use Rattle.ps_language.proofs.Leaving.{Leaves, left_with, left_none, and_then-leaves, each-leaves, leaving}

-- of the world that is left
abbrev pub DeedPrintsNothing : World → Deed → Type 0
DeedPrintsNothing before (does note after) = after.printed ≡ before.printed
DeedPrintsNothing before waits = ⊤

-- of such an operator
abbrev pub PrintsNothing : (List Value → Call → Outcome Deed) → Type 0
PrintsNothing deed = (operands : List Value) (call : Call)
    → Leaves (DeedPrintsNothing call.world) (deed operands call)

-- ---- the world with another context in a place

pub with_context-printed : (identifier : ℕ) (context : Context) (world : World)
    → (with_context identifier context world).printed ≡ world.printed
unfolding with_context
with_context-printed identifier context world = refl

with_operands_of-printed : (call : Call) (operands : List Value)
    → (with_operands_of call operands).printed ≡ call.world.printed
with_operands_of-printed call operands =
    with_context-printed call.caller (record call.context { operands = operands }) call.world

doing_operands-printed : (note : Note) (call : Call) (outcome : Outcome (List Value))
    → Leaves (DeedPrintsNothing call.world) (doing_operands note call outcome)
doing_operands-printed note call outcome =
    and_then-leaves _ (λ operands. ⊤) outcome _ (each-leaves _ outcome (λ operands. tt))
    λ operands any. left_with (with_operands_of-printed call operands)

with_detached-printed : (identifier : ℕ) (world : World)
    → (with_detached identifier world).printed ≡ world.printed
with_detached-printed identifier world = by (context_at world identifier)
  where
    by : (found : Option Context) → (option_map_or (λ context. with_context identifier
        (record context { is_detached = true }) world) found world).printed ≡ world.printed
    by None = refl
    by (Some context) =
        with_context-printed identifier (record context { is_detached = true }) world

-- ---- rows

pub vmstatus_row-printed : PrintsNothing vmstatus_row
vmstatus_row-printed operands call = doing_operands-printed _ call _

pub vmreclaim_row-printed : PrintsNothing vmreclaim_row
vmreclaim_row-printed [] call = left_none
vmreclaim_row-printed (x ∷ rest) call = search (leaving, doing_operands-printed)

pub currentcontext_row-printed : PrintsNothing currentcontext_row
currentcontext_row-printed operands call = doing_operands-printed nothing call _

pub yield_row-printed : PrintsNothing yield_row
yield_row-printed operands call = left_with refl

pub new_row-printed : (object : Object) → PrintsNothing (new_row object)
new_row-printed object operands call =
    and_then-leaves _ (λ pushed. ⊤) _ _ (each-leaves _ _ (λ pushed. tt)) λ pushed any.
    left_with (with_operands_of-printed call pushed)

pub fork_row-printed : PrintsNothing fork_row
fork_row-printed [] call = left_none
fork_row-printed (p ∷ rest) call = search (leaving, with_operands_of-printed) depth 9

pub join_row-printed : PrintsNothing join_row
join_row-printed [] call = left_none
join_row-printed (x ∷ rest) call = search (leaving, with_operands_of-printed) depth 9

pub detach_row-printed : PrintsNothing detach_row
detach_row-printed [] call = left_none
detach_row-printed (x ∷ rest) call =
    search (leaving, with_detached-printed, with_operands_of-printed, ◌∙◌) depth 9

pub monitor_row-printed : PrintsNothing monitor_row
monitor_row-printed [] call = left_none
monitor_row-printed (p ∷ []) call = left_none
monitor_row-printed (p ∷ l ∷ rest) call = search (leaving, with_context-printed) depth 9

pub wait_row-printed : PrintsNothing wait_row
wait_row-printed [] call = left_none
wait_row-printed (c ∷ []) call = left_none
wait_row-printed (c ∷ l ∷ rest) call = search (leaving, with_context-printed) depth 9

pub notify_row-printed : PrintsNothing notify_row
notify_row-printed [] call = left_none
notify_row-printed (c ∷ rest) call = search (leaving, with_operands_of-printed) depth 9

-- ---- what is tried again

retried_by-printed : (what : What) → PrintsNothing (retried_by what).deed
retried_by-printed (integer_value i) = join_row-printed
retried_by-printed _ = monitor_row-printed

pub retried-printed : (operands : List Value) → PrintsNothing (retried operands).deed
unfolding retried
retried-printed [] = join_row-printed
retried-printed (value ∷ rest) = retried_by-printed value.what
