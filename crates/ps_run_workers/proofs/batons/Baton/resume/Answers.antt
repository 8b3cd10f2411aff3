-- It keeps what was kept of the vault that it is lent.
use Rattle.std.proofs.Common.{sym, subst}
use Rattle.ps_vault.specs.Stories.{Story}
use Rattle.ps_run_workers.specs.Batons.{Keeps}
use Rattle.ps_run_workers.specs.Slices.{at_pause}
use Rattle.ps_run_workers.proofs.batons.Baton.resume.Goals as goal

pub invariant_of-result : goal.invariant_of-result
invariant_of-result g c =
    subst (λ (s : Story). Keeps g.S.Interpret.asks g.O.Origin.start
    (at_pause s c.args.paused.config c.args.paused.made c.args.screen))
    (sym c.lend.ensures.story) c.requires.keeps
