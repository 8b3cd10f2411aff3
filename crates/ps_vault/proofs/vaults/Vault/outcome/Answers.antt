use Rattle.std.proofs.Common.{sym, ◌∙◌}
use Rattle.ps_vault.specs.Stories.{world_at}
use Rattle.ps_vault.proofs.Readiness.{all_waiting, steps_out}
use Rattle.ps_vault.proofs.vaults.Vault.outcome.Goals as goal

pub returns-in-Some-clause-ends : goal.returns-in-Some-clause-ends
returns-in-Some-clause-ends g c =
    steps_out (world_at c.args.self.now) c.args.used_up c.in-Some.field-0
    (sym c.is_all_over.ensures ∙ c.if-is_all_over.false) c.in-Some.ensures.ready.above
    c.in-Some.ensures.ready.ready c.requires.ready

pub returns-in-None-clause-ends : goal.returns-in-None-clause-ends
returns-in-None-clause-ends g c =
    all_waiting (world_at c.args.self.now) (sym c.is_all_over.ensures ∙ c.if-is_all_over.false)
    c.in-None.ensures.none
