use Rattle.std.proofs.Common.{◌≡◌, subst}
use Rattle.ps_vault.specs.Stories.{Story, world_at}
use Rattle.ps_cuts.specs.Cuts.{next_above}
use Rattle.ps_cuts.proofs.Whose.{first_is, round_above, round_again}
use Rattle.ps_cuts.proofs.runs.PlainRun.next_round.Goals as goal

pub returns-in-Some-clause-next : goal.returns-in-Some-clause-next
returns-in-Some-clause-next g c =
    round_above (world_at c.args.self.now.vault) c.args.self.now.last c.in-Some.next
    c.in-Some.ensures.ready

pub returns-in-None-clause-next : goal.returns-in-None-clause-next
returns-in-None-clause-next g c =
    round_again (world_at c.args.self.now.vault) c.args.self.now.last c.next_ready-in-None.result
    c.in-None.ensures.none
    (subst (λ (story : Story). c.next_ready-in-None.result ≡ next_above (world_at story) 0)
    c.next_ready.ensures.same
    (first_is (world_at c.next_ready.new.self) c.next_ready-in-None.result
    c.next_ready-in-None.ensures.ready c.next_ready-in-None.ensures.none))
