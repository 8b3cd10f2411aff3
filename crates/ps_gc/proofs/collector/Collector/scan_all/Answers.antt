use Rattle.std.proofs.Common.{◌++◌, [], refl, sym, ap, ◌∙◌}
use Rattle.ps_table.specs.Events.{gc_did_all}
use Rattle.ps_table.proofs.Flipping.{gc_all-append}
use Rattle.ps_gc.proofs.Ending.{scans_none, scans_one}
use Rattle.ps_gc.proofs.Spaces.{knows_on}
use Rattle.ps_gc.proofs.collector.Collector.scan_all.Goals as goal

pub scan-init : goal.scan-init
scan-init g c = record {
  knows = c.requires.open;
  scans = scans_none _;
  did = ([], refl);
  same = refl;
}

pub scan-preserved : goal.scan-preserved
scan-preserved g c =
    let inv = c.scan.invariant in
    let did = c.scan_one.ensures.did in
    let m = c.args.self.now.gc.seat.me.0 in
    let done = c.scan_one.ensures.filled c.scan-test.true in record {
      knows = knows_on c.scan.self.gc.seat.me.0.gc c.scan_one.new.self.gc.seat.me.0.gc
          c.scan_one.ensures.cycle inv.knows;
      scans = scans_one m.gc c.scan.self.gc.seat.me.0.gc c.scan_one.new.self.gc.seat.me.0.gc
          done.0 done.1 inv.scans done.5;
      did = (
        inv.did.0 ++ did.0,
        did.1 ∙ (ap (λ x. gc_did_all x did.0) inv.did.1 ∙ sym (gc_all-append m inv.did.0 did.0)),
      );
      same = c.scan_one.ensures.same ∙ inv.same;
    }
