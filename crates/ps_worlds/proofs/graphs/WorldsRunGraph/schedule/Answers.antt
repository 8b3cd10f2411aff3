use Rattle.std.proofs.Common.{ap, sym, ◌∙◌}
use Rattle.std.proofs.lemmas.Result.{IfOk-weaker}
use Rattle.ps_language.specs.Schedules.{moves}
use Rattle.ps_cuts.proofs.Batches.{steps_back}
use Rattle.ps_worlds.proofs.graphs.WorldsRunGraph.schedule.Goals as goal

pub returns : goal.returns
returns g c =
    IfOk-weaker c.schedule.result _ _
    (λ copy is. ap moves is ∙ sym (steps_back c.args.run.now.path.items c.requires.made.plain))
    c.schedule.ensures
