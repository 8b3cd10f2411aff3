use Rattle.ps_mem.proofs.WalkCounts.{addressed, counted}
use Rattle.ps_mem.proofs.region.Region.used.Goals as goal

pub returns-clause-counted : goal.returns-clause-counted
returns-clause-counted c = λ space. let r = c.args.self.now in
    counted r.words r.used r.next space r.within r.limited r.whole

pub returns-clause-addressed : goal.returns-clause-addressed
returns-clause-addressed c = λ space. let r = c.args.self.now in
    addressed r.words r.used r.next space r.within r.limited
