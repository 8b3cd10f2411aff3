use Rattle.std.proofs.lemmas.Result.{IfOk-weaker}
use Rattle.ps_cuts.proofs.Orders.{each_order, every_order}
use Rattle.ps_cuts.proofs.exploring.explore_orders.Goals as goal

pub returns-clause-every : goal.returns-clause-every
returns-clause-every g c =
    IfOk-weaker c.search.result _ _
    (λ found every. every_order c.args.runs.now.task.program.now c.args.bounds.steps found.below
    found.endings.entries every) c.search.ensures.every

pub returns-clause-each : goal.returns-clause-each
returns-clause-each g c =
    IfOk-weaker c.search.result _ _
    (λ found each k d less. each_order c.args.runs.now.task.program.now c.args.bounds.steps _
    (each k d less)) c.search.ensures.each
