-- An operator acts, and all else is left.
use Rattle.ps_step_execute.proofs.Unframed.{operator_under}
use Rattle.ps_step_execute.proofs.under.treat_under.Goals as goal

pub returns-in-Some-clause-goes : goal.returns-in-Some-clause-goes
returns-in-Some-clause-goes g c = λ command.
    operator_under g.O.Operate.asks command c.args.value c.in-Some.ensures.operator.0
    c.in-Some.operator c.in-Some.ensures.operator.1 c.args.slot c.operate_under.result _ _
    c.operate_under.ensures.goes
