use Rattle.std.proofs.Common.{ap, sym, ◌∙◌}
use Rattle.ps_language.specs.Schedules.{moves}
use Rattle.ps_run_schedules.specs.Keeping.{Kept}
use Rattle.ps_cuts.proofs.Batches.{steps_back}
use Rattle.ps_worlds.proofs.graphs.WorldsRunGraph.end.Goals as goal

pub returns-clause-makes : goal.returns-clause-makes
returns-clause-makes g c =
    ap (λ (kept : Kept). moves kept.items) c.end.ensures.path
    ∙ sym (steps_back c.args.run.path.items c.requires.made.plain)
