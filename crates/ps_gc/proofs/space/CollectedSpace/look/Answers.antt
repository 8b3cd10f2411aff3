use Rattle.std.proofs.Common.{ap}
use Rattle.ps_table.proofs.Kept.{keeps_vm, sits_on}
use Rattle.ps_gc.proofs.Spaces.{knows_on}
use Rattle.ps_gc.proofs.space.CollectedSpace.look.Goals as goal

pub invariant_of-self : goal.invariant_of-self
invariant_of-self g c =
    let was = c.args.self.now in
    let did = c.drain_one.ensures.did in record {
      sits = sits_on _ _ _ _ _ (ap (λ t. t.words) c.drain_one.ensures.same) was.sits
          (keeps_vm _ _ did.0 did.1) c.drain_one.new.self.gc.empty;
    }

pub returns-in-Took-clause-vm : goal.returns-in-Took-clause-vm
returns-in-Took-clause-vm g c = let did = c.drain_one.ensures.did in keeps_vm _ _ did.0 did.1

pub invariant_of-self-2 : goal.invariant_of-self-2
invariant_of-self-2 g c =
    let was = c.args.self.now in
    let did = c.drain_one.ensures.did in record {
      sits = sits_on _ _ _ _ _ (ap (λ t. t.words) c.drain_one.ensures.same) was.sits
          (keeps_vm _ _ did.0 did.1) c.drain_one.new.self.gc.empty;
    }

pub returns : goal.returns
returns g c =
    let did = c.drain_one.ensures.did in record {
      knows = knows_on c.args.self.now.collector.gc.seat.me.0.gc c.drain_one.new.self.gc.seat.me.0.gc
          c.drain_one.ensures.cycle c.requires.open;
      vm = keeps_vm _ _ did.0 did.1;
    }
