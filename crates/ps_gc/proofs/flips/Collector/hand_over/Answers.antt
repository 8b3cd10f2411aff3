use Rattle.std.proofs.Common.{ap}
use Rattle.ps_core_laws.specs.Stores.{numbers}
use Rattle.ps_gc.proofs.Flipping.{handed_knows, handed_known}
use Rattle.ps_gc.proofs.flips.Collector.hand_over.Goals as goal

pub returns-clause-knows : goal.returns-clause-knows
returns-clause-knows c =
    let v = c.args.vm.now.seat.me.0.vm in
    let g = c.args.self.now.gc.seat.me.0.gc in
    let did = c.hand_over.ensures.did in
    handed_knows v g _ did.0 (numbers c.args.roots.now) c.hand_over.ensures.runs
    (ap (λ m. m.gc) did.1.gc_is)

pub returns-clause-known : goal.returns-clause-known
returns-clause-known c =
    let v = c.args.vm.now.seat.me.0.vm in
    let g = c.args.self.now.gc.seat.me.0.gc in
    let did = c.hand_over.ensures.did in
    handed_known v g _ did.0 (numbers c.args.roots.now) c.hand_over.ensures.runs
    (ap (λ m. m.gc) did.1.gc_is)
