-- The caller waits, or what was done comes to its end.
use Rattle.std.proofs.Common.{Ok, subst, ap, ◌∙◌}
use Rattle.ps_step_outcome.specs.declared.world_operators.WorldOperator.TheVariants.{Join}
use Rattle.ps_ctx_table.specs.Desks.{Desk}
use Rattle.ps_ctx.specs.Calls.{over_of}
use Rattle.ps_ctx_operators.specs.declared.joining.Found.{Found}
use Rattle.ps_ctx_operators.specs.Joined.{Finds}
use Rattle.ps_ctx_operators.proofs.JoinDone.{unfinished_so, misfound_so}
use Rattle.ps_ctx_operators.proofs.joining.call_join.Goals as goal

pub end-requires-clause-runs : goal.end-requires-clause-runs
end-requires-clause-runs g c = (c.take-done.ensures c.args.attempt c.args.shown).runs

pub end-requires-clause-steady : goal.end-requires-clause-steady
end-requires-clause-steady g c = (c.take-done.ensures c.args.attempt c.args.shown).steady

pub returns-in-Finished : goal.returns-in-Finished
returns-in-Finished g c =
    c.end.ensures c.args.shown _ (c.take-done.ensures c.args.attempt c.args.shown)

pub returns-in-Unfinished : goal.returns-in-Unfinished
returns-in-Unfinished g c =
    let d : Desk = over_of g.M.Memory.heap g.M.Memory.grants c.args.runtime.now
    c.args.contexts.now in
    c.wait.ensures Join c.args.attempt c.args.shown d d.heap d.grants
    c.args.runtime.now.shared
    (unfinished_so c.args.caller c.args.attempt c.args.shown d c.requires.steady c.requires.runs
    (subst (λ result. Finds c.args.caller result d.members)
    (c.in-Ok.is ∙ ap (λ (found : Found). Ok found) c.in-Unfinished.is) c.find.ensures))

pub returns-in-Err : goal.returns-in-Err
returns-in-Err g c =
    let d : Desk = over_of g.M.Memory.heap g.M.Memory.grants c.args.runtime.now
    c.args.contexts.now in
    c.end-in-Err.ensures c.args.shown d
    (misfound_so c.args.caller c.args.attempt c.args.shown d c.requires.steady c.requires.runs
    c.in-Err.error
    (subst (λ result. Finds c.args.caller result d.members) c.in-Err.is c.find.ensures))
