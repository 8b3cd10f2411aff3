use Rattle.std.proofs.Common.{ap}
use Rattle.ps_table.proofs.Kept.{keeps_vm, sits_on}
use Rattle.ps_gc.proofs.Spaces.{vm_on, knows_on}
use Rattle.ps_gc.proofs.space.CollectedSpace.scan_some.Goals as goal

pub invariant_of-self : goal.invariant_of-self
invariant_of-self g c =
    let was = c.loop-scanned.self in
    let did = c.scan_one.ensures.did in record {
      sits = sits_on _ _ _ _ _ (ap (λ t. t.words) c.scan_one.ensures.same) was.sits
          (keeps_vm _ _ did.0 did.1) c.scan_one.new.self.gc.empty;
    }

pub loop-scanned-preserved : goal.loop-scanned-preserved
loop-scanned-preserved g c =
    let did = c.scan_one.ensures.did in record {
      vm = vm_on _ _ _ did.0 c.loop-scanned.invariant.vm did.1;
      knows = knows_on c.loop-scanned.self.collector.gc.seat.me.0.gc c.scan_one.new.self.gc.seat.me.0.gc
          c.scan_one.ensures.cycle c.loop-scanned.invariant.knows;
    }
