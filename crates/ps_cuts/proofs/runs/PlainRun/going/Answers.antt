use Rattle.std.proofs.Common.{false, true, ap, sym, ◌∙◌}
use Rattle.ps_language.specs.Locks as locks
use Rattle.ps_language.specs.World.{World}
use Rattle.ps_cuts.proofs.Standing.{world_is}
use Rattle.ps_cuts.proofs.Whose.{goes_ready}
use Rattle.ps_cuts.proofs.runs.PlainRun.going.Goals as goal

pub returns-then-is_ready-clause-going : goal.returns-then-is_ready-clause-going
returns-then-is_ready-clause-going g c =
    goes_ready _ _ c.in_ok-context.context true
    (sym c.in_ok-context.was ∙ c.requires.made.holds)
    (ap (λ (w : World). locks.is_ready w c.in_ok-context.context)
    (sym (world_is c.args.self.now.vault))
    ∙ (sym c.is_ready.ensures.ready ∙ c.if-is_ready.true))

pub returns-clause-going : goal.returns-clause-going
returns-clause-going g c =
    goes_ready _ _ c.in_ok-context.context false
    (sym c.in_ok-context.was ∙ c.requires.made.holds)
    (ap (λ (w : World). locks.is_ready w c.in_ok-context.context)
    (sym (world_is c.args.self.now.vault))
    ∙ (sym c.is_ready.ensures.ready ∙ c.if-is_ready.false))
