-- Each operator does what the definitions say.
use Rattle.std.proofs.Common.{sym, subst}
use Rattle.ps_step_outcome.specs.declared.world_operators.WorldOperator.{WorldOperator}
use Rattle.ps_ctx.specs.Calls.{over_of}
use Rattle.ps_ctx_operators.specs.Done.{DoesBy}
use Rattle.ps_ctx_operators.proofs.operators.WorldOperatorsDeeds.call.Goals as goal

pub end-requires-clause-runs : goal.end-requires-clause-runs
end-requires-clause-runs g c = (c.current_context-done.ensures c.args.attempt c.args.shown).runs

pub end-requires-clause-steady : goal.end-requires-clause-steady
end-requires-clause-steady g c = (c.current_context-done.ensures c.args.attempt c.args.shown).steady

pub returns-in-CurrentContext : goal.returns-in-CurrentContext
returns-in-CurrentContext g c =
    c.end.ensures c.args.shown _
    (subst (λ (operator : WorldOperator). DoesBy operator c.args.calling.caller c.args.attempt
    c.args.shown c.current_context-done.result
    (over_of g.M.Memory.heap g.M.Memory.grants c.args.runtime.now c.args.contexts.now)
    (over_of g.M.Memory.heap g.M.Memory.grants c.current_context-done.new.runtime
    c.current_context-done.new.contexts)) (sym c.in-CurrentContext.is)
    (c.current_context-done.ensures c.args.attempt c.args.shown))

pub end-requires-in-VmStatus-clause-runs : goal.end-requires-in-VmStatus-clause-runs
end-requires-in-VmStatus-clause-runs g c = (c.vm_status-done.ensures c.args.attempt).runs

pub end-requires-in-VmStatus-clause-steady : goal.end-requires-in-VmStatus-clause-steady
end-requires-in-VmStatus-clause-steady g c = (c.vm_status-done.ensures c.args.attempt).steady

pub returns-in-VmStatus : goal.returns-in-VmStatus
returns-in-VmStatus g c =
    c.end-in-VmStatus.ensures c.args.shown _
    (subst (λ (operator : WorldOperator). DoesBy operator c.args.calling.caller c.args.attempt
    c.args.shown c.vm_status-done.result
    (over_of g.M.Memory.heap g.M.Memory.grants c.args.runtime.now c.args.contexts.now)
    (over_of g.M.Memory.heap g.M.Memory.grants c.vm_status-done.new.runtime
    c.vm_status-done.new.contexts)) (sym c.in-VmStatus.is)
    (c.vm_status-done.ensures c.args.attempt))

pub end-requires-in-VmReclaim-clause-runs : goal.end-requires-in-VmReclaim-clause-runs
end-requires-in-VmReclaim-clause-runs g c = (c.vm_reclaim-done.ensures c.args.attempt c.args.shown).runs

pub end-requires-in-VmReclaim-clause-steady : goal.end-requires-in-VmReclaim-clause-steady
end-requires-in-VmReclaim-clause-steady g c = (c.vm_reclaim-done.ensures c.args.attempt c.args.shown).steady

pub returns-in-VmReclaim : goal.returns-in-VmReclaim
returns-in-VmReclaim g c =
    c.end-in-VmReclaim.ensures c.args.shown _
    (subst (λ (operator : WorldOperator). DoesBy operator c.args.calling.caller c.args.attempt
    c.args.shown c.vm_reclaim-done.result
    (over_of g.M.Memory.heap g.M.Memory.grants c.args.runtime.now c.args.contexts.now)
    (over_of g.M.Memory.heap g.M.Memory.grants c.vm_reclaim-done.new.runtime
    c.vm_reclaim-done.new.contexts)) (sym c.in-VmReclaim.is)
    (c.vm_reclaim-done.ensures c.args.attempt c.args.shown))

pub end-requires-in-Lock-clause-runs : goal.end-requires-in-Lock-clause-runs
end-requires-in-Lock-clause-runs g c = (c.new_lock-done.ensures c.args.shown).runs

pub end-requires-in-Lock-clause-steady : goal.end-requires-in-Lock-clause-steady
end-requires-in-Lock-clause-steady g c = (c.new_lock-done.ensures c.args.shown).steady

pub returns-in-Lock : goal.returns-in-Lock
returns-in-Lock g c =
    c.end-in-Lock.ensures c.args.shown _
    (subst (λ (operator : WorldOperator). DoesBy operator c.args.calling.caller c.args.attempt
    c.args.shown c.new_lock-done.result
    (over_of g.M.Memory.heap g.M.Memory.grants c.args.runtime.now c.args.contexts.now)
    (over_of g.M.Memory.heap g.M.Memory.grants c.new_lock-done.new.runtime
    c.new_lock-done.new.contexts)) (sym c.in-Lock.is)
    (c.new_lock-done.ensures c.args.shown))

pub end-requires-in-Condition-clause-runs : goal.end-requires-in-Condition-clause-runs
end-requires-in-Condition-clause-runs g c = (c.new_condition-done.ensures c.args.shown).runs

pub end-requires-in-Condition-clause-steady : goal.end-requires-in-Condition-clause-steady
end-requires-in-Condition-clause-steady g c = (c.new_condition-done.ensures c.args.shown).steady

pub returns-in-Condition : goal.returns-in-Condition
returns-in-Condition g c =
    c.end-in-Condition.ensures c.args.shown _
    (subst (λ (operator : WorldOperator). DoesBy operator c.args.calling.caller c.args.attempt
    c.args.shown c.new_condition-done.result
    (over_of g.M.Memory.heap g.M.Memory.grants c.args.runtime.now c.args.contexts.now)
    (over_of g.M.Memory.heap g.M.Memory.grants c.new_condition-done.new.runtime
    c.new_condition-done.new.contexts)) (sym c.in-Condition.is)
    (c.new_condition-done.ensures c.args.shown))

pub end-requires-in-Yield-clause-runs : goal.end-requires-in-Yield-clause-runs
end-requires-in-Yield-clause-runs g c = (c.give_way-done.ensures c.args.calling.caller c.args.attempt c.args.shown
    (over_of g.M.Memory.heap g.M.Memory.grants c.args.runtime.now c.args.contexts.now)
    c.requires.steady c.requires.runs).runs

pub end-requires-in-Yield-clause-steady : goal.end-requires-in-Yield-clause-steady
end-requires-in-Yield-clause-steady g c = (c.give_way-done.ensures c.args.calling.caller c.args.attempt c.args.shown
    (over_of g.M.Memory.heap g.M.Memory.grants c.args.runtime.now c.args.contexts.now)
    c.requires.steady c.requires.runs).steady

pub returns-in-Yield : goal.returns-in-Yield
returns-in-Yield g c =
    c.end-in-Yield.ensures c.args.shown _
    (subst (λ (operator : WorldOperator). DoesBy operator c.args.calling.caller c.args.attempt
    c.args.shown c.give_way-done.result
    (over_of g.M.Memory.heap g.M.Memory.grants c.args.runtime.now c.args.contexts.now)
    (over_of g.M.Memory.heap g.M.Memory.grants c.args.runtime.now c.args.contexts.now)) (sym c.in-Yield.is)
    (c.give_way-done.ensures c.args.calling.caller c.args.attempt c.args.shown
    (over_of g.M.Memory.heap g.M.Memory.grants c.args.runtime.now c.args.contexts.now)
    c.requires.steady c.requires.runs))
