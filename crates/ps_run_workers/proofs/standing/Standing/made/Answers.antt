-- The steps are counted.
use Rattle.std.proofs.Common.{ap, ◌∙◌}
use Rattle.ps_language.specs.Schedules.{count_of}
use Rattle.ps_vault.specs.Stories.{Story}
use Rattle.ps_run_workers.proofs.Slices.{rests_made}
use Rattle.ps_run_workers.proofs.standing.Standing.made.Goals as goal

pub returns : goal.returns
returns g c =
    rests_made g.S.Interpret.asks g.M.Memory.heap g.M.Memory.grants _ _ c.self.invariant
    ∙ ap (λ (s : Story). count_of s.schedule) c.self.view_is
