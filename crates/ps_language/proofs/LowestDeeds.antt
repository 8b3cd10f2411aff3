-- The operators that are left to the world keep the two lowest dictionaries of each context.
use Rattle.std.proofs.Common.{◌≡◌, ℕ, true, Option, Some, None, List, [], ◌∷◌, refl}
use Rattle.std.specs.Prelude.{⊤}
use Rattle.std.specs.Option.{option_map_or}
use Rattle.ps_language.specs.Value.{What, integer_value, Value, Object}
use Rattle.ps_language.specs.World.{Context, World}
use Rattle.ps_language.specs.Effect.{Call, Note, nothing, Deed, does, waits}
use Rattle.ps_language.specs.Outcome.{Outcome}
use Rattle.ps_language.specs.Contexts.{context_at, with_context, with_operands_of, doing_operands, vmstatus_row}
use Rattle.ps_language.specs.Contexts.{vmreclaim_row, currentcontext_row, yield_row, new_row, fork_row, join_row}
use Rattle.ps_language.specs.Contexts.{with_detached, detach_row}
use Rattle.ps_language.specs.Locks.{retried_by, retried, monitor_row, wait_row, notify_row}
use Rattle.ps_language.specs.Lowest.{HasFirstDictionaries, HaveFirstDictionaries}
use Rattle.ps_language.proofs.Leaving.{Leaves, left_with, left_none, and_then-leaves, each-leaves, leaving}
use Rattle.ps_language.proofs.LeftContexts.{contexts_with-left, with_context-left, context_at-left, more-left, map-left}

-- of one context
abbrev pub HasLowest : Context → Type 0
HasLowest context = HasFirstDictionaries context.dictionaries

-- of the world that is left
abbrev pub DeedHasLowest : Deed → Type 0
DeedHasLowest (does note world) = HaveFirstDictionaries world
DeedHasLowest waits = ⊤

-- of such an operator, called where the caller and the world have them
abbrev pub DeedKeepsLowest : (List Value → Call → Outcome Deed) → Type 0
DeedKeepsLowest deed = (operands : List Value) (call : Call) → HaveFirstDictionaries call.world
    → HasLowest call.context → Leaves DeedHasLowest (deed operands call)

-- ---- the world with another context in a place

pub with_context-lowest : (identifier : ℕ) (context : Context) (world : World)
    → HaveFirstDictionaries world → HasLowest context
    → HaveFirstDictionaries (with_context identifier context world)
with_context-lowest identifier context world have has =
    with_context-left HasLowest identifier context world have has

with_operands_of-lowest : (call : Call) (operands : List Value)
    → HaveFirstDictionaries call.world → HasLowest call.context
    → HaveFirstDictionaries (with_operands_of call operands)
with_operands_of-lowest call operands have has =
    with_context-lowest call.caller (record call.context { operands = operands }) call.world have has

doing_operands-lowest : (note : Note) (call : Call) (outcome : Outcome (List Value))
    → HaveFirstDictionaries call.world → HasLowest call.context
    → Leaves DeedHasLowest (doing_operands note call outcome)
doing_operands-lowest note call outcome have has =
    and_then-leaves _ (λ operands. ⊤) outcome _ (each-leaves _ outcome (λ operands. tt))
    λ operands any. left_with (with_operands_of-lowest call operands have has)

with_detached-lowest : (identifier : ℕ) (world : World) → HaveFirstDictionaries world
    → HaveFirstDictionaries (with_detached identifier world)
with_detached-lowest identifier world have = by (context_at world identifier) refl
  where
    by : (found : Option Context) → context_at world identifier ≡ found
        → HaveFirstDictionaries (option_map_or (λ context. with_context identifier
        (record context { is_detached = true }) world) found world)
    by None found = have
    by (Some context) found =
        with_context-lowest identifier (record context { is_detached = true }) world have
        (context_at-left HasLowest identifier context world have found)

-- ---- rows

pub vmstatus_row-lowest : DeedKeepsLowest vmstatus_row
vmstatus_row-lowest operands call have has = doing_operands-lowest _ call _ have has

pub vmreclaim_row-lowest : DeedKeepsLowest vmreclaim_row
vmreclaim_row-lowest [] call have has = left_none
vmreclaim_row-lowest (x ∷ rest) call have has = search (leaving, doing_operands-lowest)

pub currentcontext_row-lowest : DeedKeepsLowest currentcontext_row
currentcontext_row-lowest operands call have has = doing_operands-lowest nothing call _ have has

pub yield_row-lowest : DeedKeepsLowest yield_row
yield_row-lowest operands call have has = left_with have

pub new_row-lowest : (object : Object) → DeedKeepsLowest (new_row object)
new_row-lowest object operands call have has =
    and_then-leaves _ (λ pushed. ⊤) _ _ (each-leaves _ _ (λ pushed. tt)) λ pushed any.
    left_with (with_operands_of-lowest call pushed have has)

pub fork_row-lowest : DeedKeepsLowest fork_row
fork_row-lowest [] call have has = left_none
fork_row-lowest (p ∷ rest) call have has =
    search (leaving, more-left HasLowest, with_operands_of-lowest) depth 9

pub join_row-lowest : DeedKeepsLowest join_row
join_row-lowest [] call have has = left_none
join_row-lowest (x ∷ rest) call have has =
    search (leaving, contexts_with-left HasLowest, with_operands_of-lowest) depth 9

pub detach_row-lowest : DeedKeepsLowest detach_row
detach_row-lowest [] call have has = left_none
detach_row-lowest (x ∷ rest) call have has =
    search (leaving, with_detached-lowest, with_operands_of-lowest)

pub monitor_row-lowest : DeedKeepsLowest monitor_row
monitor_row-lowest [] call have has = left_none
monitor_row-lowest (p ∷ []) call have has = left_none
monitor_row-lowest (p ∷ l ∷ rest) call have has = search (leaving, with_context-lowest) depth 9

pub wait_row-lowest : DeedKeepsLowest wait_row
wait_row-lowest [] call have has = left_none
wait_row-lowest (c ∷ []) call have has = left_none
wait_row-lowest (c ∷ l ∷ rest) call have has = search (leaving, with_context-lowest) depth 9

pub notify_row-lowest : DeedKeepsLowest notify_row
notify_row-lowest [] call have has = left_none
notify_row-lowest (c ∷ rest) call have has = search (leaving, map-left, with_operands_of-lowest)

-- ---- what is tried again

retried_by-lowest : (what : What) → DeedKeepsLowest (retried_by what).deed
retried_by-lowest (integer_value i) = join_row-lowest
retried_by-lowest _ = monitor_row-lowest

pub retried-lowest : (operands : List Value) → DeedKeepsLowest (retried operands).deed
unfolding retried
retried-lowest [] = join_row-lowest
retried-lowest (value ∷ rest) = retried_by-lowest value.what
