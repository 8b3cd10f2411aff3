use Rattle.ps_run_schedules.proofs.Heads.{equal_fronts}
use Rattle.ps_run_schedules.proofs.fronts.has_same_front.Goals as goal

pub returns : goal.returns
returns c =
    equal_fronts c.args.first.now c.args.second.now c.front.result c.front-2.result c.args.steps c.eq.result
    c.requires.some c.requires.within.0 c.front.ensures c.front-2.ensures c.eq.ensures
