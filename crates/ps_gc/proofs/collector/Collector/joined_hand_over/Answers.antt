use Rattle.std.proofs.Common.{ap}
use Rattle.ps_core_laws.specs.Stores.{numbers}
use Rattle.ps_gc.proofs.Flipping.{handed_knows, handed_known}
use Rattle.ps_gc.proofs.collector.Collector.joined_hand_over.Goals as goal

pub returns-clause-knows : goal.returns-clause-knows
returns-clause-knows g c =
    let m = c.args.self.now.gc.seat.me.0 in
    let does = c.hand_over.ensures.does in
    handed_knows m.vm m.gc _ does.0 (numbers c.args.roots.now) does.1.from
    (ap (λ x. x.0.gc) does.1.did)

pub returns-clause-known : goal.returns-clause-known
returns-clause-known g c =
    let m = c.args.self.now.gc.seat.me.0 in
    let does = c.hand_over.ensures.does in
    handed_known m.vm m.gc _ does.0 (numbers c.args.roots.now) does.1.from
    (ap (λ x. x.0.gc) does.1.did)
