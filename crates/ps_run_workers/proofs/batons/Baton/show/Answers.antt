-- More was shown; where that failed no more steps are made.
use Rattle.std.proofs.Common.{◌∙◌, ap}
use Rattle.ps_run_workers.specs.Batons.{Progress}
use Rattle.ps_run_workers.proofs.Keeping.{keeps_shown, progress}
use Rattle.ps_run_workers.proofs.batons.Baton.show.Goals as goal

pub invariant_of-self-else-not-show_printed : goal.invariant_of-self-else-not-show_printed
invariant_of-self-else-not-show_printed g c =
    keeps_shown g.S.Interpret.asks g.O.Origin.start (progress c.self.inside.vault c.self.inside.config
    c.self.inside.made c.self.inside.budget c.self.inside.screen c.self.inside.outcome)
    c.show_printed.new.screen c.self.invariant c.show_printed.ensures.shown
    c.show_printed.ensures.watching c.show_printed.ensures.still
    (ap (λ (p : Progress). p.sight.failed) c.self.view_is ∙ c.may_show.ensures.seen c.if-not-may_show.false)
