-- A step more of the schedule, or none.
use Rattle.std.proofs.Common.{◌≡◌, ℕ, List, Option, None, true, refl, ap, sym, subst, ◌∙◌, arith}
use Rattle.std.specs.Prelude.{IsSome, ◌⊎◌}
use Rattle.ps_language.specs.declared.schedules.Entry.{Entry}
use Rattle.ps_language.specs.Locks.{is_ready}
use Rattle.ps_language.specs.Schedules.{moves}
use Rattle.ps_language.specs.Worlds.{after_move, world}
use Rattle.ps_mem.specs.Heap.{Heap, Space}
use Rattle.ps_run_schedules.specs.Turns.{move_of}
use Rattle.ps_vault.specs.Reports.{all_fit, fits}
use Rattle.ps_vault.specs.Stories.{Story, world_at}
use Rattle.ps_vault.specs.Warrants.{IsStatus}
use Rattle.ps_vault.proofs.Keeping.{caller_of, caller_there, keeps_step, may_step, same_closed, same_cycle, status_leaves, world_added}
use Rattle.ps_vault.proofs.Reasons.{for_room, heap_left, held_step}
use Rattle.ps_vault.proofs.Advancing.{all_added, move_fits}
use Rattle.ps_vault.proofs.vaults.Vault.step.Goals as goal

pub step-told-requires-clause-there : goal.step-told-requires-clause-there
step-told-requires-clause-there g c =
    caller_there _ c.self.inside.schedule.items c.args.context c.self.invariant
    (ap (λ (s : Story). is_ready (world_at s) c.args.context) c.self.view_is ∙ c.requires.ready)
    (may_step _ _ c.args.context (ap (λ (s : Story). s.caller) c.self.view_is) c.requires.calling)

pub invariant_of-self : goal.invariant_of-self
invariant_of-self g c =
    let ready : is_ready (world c.self.inside.runtime.shared.program.now
    c.self.inside.schedule.items) c.args.context ≡ true =
    ap (λ (s : Story). is_ready (world_at s) c.args.context) c.self.view_is ∙ c.requires.ready in
    rw c.note.ensures.added
    (keeps_step g.S.Interpret.asks c.args.context _ c.args.shown _ _ c.self.inside.schedule.items
    c.self.invariant ready c.in-Ok.field-0 (rw c.in-Ok.is at c.step-told.ensures))

pub returns-in-Ok-clause-world : goal.returns-in-Ok-clause-world
returns-in-Ok-clause-world g c =
    rw (c.step-told.ensures.program, c.note.ensures.added)
    (world_added c.self.inside.runtime.shared.program.now c.self.inside.schedule.items
    (move_of c.args.context c.args.refused c.args.shown)
    ∙ ap (λ (s : Story). after_move (world_at s)
    (move_of c.args.context c.args.refused c.args.shown)) c.self.view_is)

pub returns-in-Ok-clause-fits : goal.returns-in-Ok-clause-fits
returns-in-Ok-clause-fits g c = λ words before.
    ap (λ (entries : List Entry). all_fit (moves entries)) c.note.ensures.added
    ∙ all_added fits c.self.inside.schedule.items
    (move_of c.args.context c.args.refused c.args.shown)
    (move_fits c.args.context c.args.refused c.args.shown
    (let few = c.ranges.context.fits in omega (arith, few)) words)
    (ap (λ (s : Story). all_fit (moves s.schedule)) c.self.view_is ∙ before)

pub returns-in-Ok-clause-status : goal.returns-in-Ok-clause-status
returns-in-Ok-clause-status g c = λ status.
    ap (λ (h : Heap). h.used)
    (status_leaves g.S.Interpret.asks c.args.context _ c.args.shown _ _
    c.self.inside.schedule.items c.self.invariant
    (ap (λ (s : Story). is_ready (world_at s) c.args.context) c.self.view_is ∙ c.requires.ready)
    c.in-Ok.field-0 (rw c.in-Ok.is at c.step-told.ensures)
    (subst (λ (s : Story). IsStatus (world_at s)
    (move_of c.args.context c.args.refused c.args.shown)) (sym c.self.view_is) status))
    ∙ ap (λ (s : Story). s.used) c.self.view_is

pub returns-in-Err-clause-held_up : goal.returns-in-Err-clause-held_up
returns-in-Err-clause-held_up g c =
    held_step g.S.Interpret.asks c.args.context _ c.args.shown _ _
    c.self.inside.schedule.items c.self.invariant
    (ap (λ (s : Story). is_ready (world_at s) c.args.context) c.self.view_is ∙ c.requires.ready)
    c.in-Err.reason (rw c.in-Err.is at c.step-told.ensures)
    g.M.Memory.heap g.M.Memory.grants _ _ refl refl
    (record { space = refl; used = refl; flips = refl; cycle_open = refl; closed = refl })
    refl refl c.slot_of.ensures

pub returns-in-Err-clause-room : goal.returns-in-Err-clause-room
returns-in-Err-clause-room g c =
    for_room g.M.Memory.heap g.M.Memory.grants g.S.Interpret.asks c.args.context c.args.refused _
    c.in-Err.reason (returns-in-Err-clause-held_up g c)

pub returns-in-Err-clause-used : goal.returns-in-Err-clause-used
returns-in-Err-clause-used g c = λ why.
    ap (λ (h : Heap). h.used)
    (heap_left g.S.Interpret.asks c.args.context _ c.args.shown _ _ c.self.inside.schedule.items
    c.self.invariant
    (ap (λ (s : Story). is_ready (world_at s) c.args.context) c.self.view_is ∙ c.requires.ready)
    c.in-Err.reason (rw c.in-Err.is at c.step-told.ensures)
    (subst (λ (caller : Option ℕ). (caller_of c.step-told.new.self.calling ≡ None) ⊎ IsSome caller)
    (sym (ap (λ (s : Story). s.caller) c.self.view_is)) why))
    ∙ ap (λ (s : Story). s.used) c.self.view_is

pub returns-in-Ok-clause-cycle : goal.returns-in-Ok-clause-cycle
returns-in-Ok-clause-cycle g c =
    same_cycle g.S.Interpret.asks c.args.context _ c.args.shown _ _
    c.self.inside.schedule.items c.self.invariant
    (ap (λ (s : Story). is_ready (world_at s) c.args.context) c.self.view_is ∙ c.requires.ready)
    _ c.step-told.ensures
    ∙ ap (λ (s : Story). s.cycle_open) c.self.view_is

pub returns-in-Err-clause-cycle : goal.returns-in-Err-clause-cycle
returns-in-Err-clause-cycle g c =
    same_cycle g.S.Interpret.asks c.args.context _ c.args.shown _ _
    c.self.inside.schedule.items c.self.invariant
    (ap (λ (s : Story). is_ready (world_at s) c.args.context) c.self.view_is ∙ c.requires.ready)
    _ c.step-told.ensures
    ∙ ap (λ (s : Story). s.cycle_open) c.self.view_is

pub returns-in-Ok-clause-space : goal.returns-in-Ok-clause-space
returns-in-Ok-clause-space g c =
    ap (λ (s : Space). s.size) c.step-told.ensures.keeps.space
    ∙ ap (λ (s : Story). s.space) c.self.view_is

pub returns-in-Err-clause-space : goal.returns-in-Err-clause-space
returns-in-Err-clause-space g c =
    ap (λ (s : Space). s.size) c.step-told.ensures.keeps.space
    ∙ ap (λ (s : Story). s.space) c.self.view_is

pub returns-in-Ok-clause-flips : goal.returns-in-Ok-clause-flips
returns-in-Ok-clause-flips g c =
    ap (λ (s : Space). s.flips) c.step-told.ensures.keeps.space
    ∙ ap (λ (s : Story). s.flips) c.self.view_is

pub returns-in-Ok-clause-closed : goal.returns-in-Ok-clause-closed
returns-in-Ok-clause-closed g c =
    same_closed g.S.Interpret.asks c.args.context _ c.args.shown _ _
    c.self.inside.schedule.items c.self.invariant
    (ap (λ (s : Story). is_ready (world_at s) c.args.context) c.self.view_is ∙ c.requires.ready)
    _ c.step-told.ensures
    ∙ ap (λ (s : Story). s.closed) c.self.view_is

pub returns-in-Err-clause-flips : goal.returns-in-Err-clause-flips
returns-in-Err-clause-flips g c =
    ap (λ (s : Space). s.flips) c.step-told.ensures.keeps.space
    ∙ ap (λ (s : Story). s.flips) c.self.view_is

pub returns-in-Err-clause-closed : goal.returns-in-Err-clause-closed
returns-in-Err-clause-closed g c =
    same_closed g.S.Interpret.asks c.args.context _ c.args.shown _ _
    c.self.inside.schedule.items c.self.invariant
    (ap (λ (s : Story). is_ready (world_at s) c.args.context) c.self.view_is ∙ c.requires.ready)
    _ c.step-told.ensures
    ∙ ap (λ (s : Story). s.closed) c.self.view_is
