use Rattle.std.proofs.Common.{◌≡◌, sym, ap, ◌∙◌, arith}
use Rattle.ps_table.proofs.GcFacts.{cycle_found, epoch_found, open_told}
use Rattle.ps_table.proofs.collector.GcSeat.begin_cycle.Goals as goal

pub returns-clause-answer : goal.returns-clause-answer
returns-clause-answer g c =
    let g = c.args.self.now.seat.me.0.gc in
    let h = c.load-cycle.new.self.seat.me.0.gc in
    let cycle = cycle_found g c.load-cycle.result c.load-cycle.ensures.finds in
    let epoch = epoch_found h c.load-epoch.result c.load-epoch.ensures.finds in
    let low = epoch.0 in let high = epoch.1 in
    let same : h.cycle ≡ g.cycle = ap (λ m. m.gc.cycle) c.load-cycle.ensures.did in
    let still = ap (λ m. m.gc.cycle) c.load-epoch.ensures.did in
    open_told c.load-epoch.result c.load-cycle.result
    c.load-epoch.new.self.seat.me.0.gc.epoch c.load-epoch.new.self.seat.me.0.gc.cycle
    (ap (λ m. m.gc.epoch) c.load-epoch.ensures.did) (still ∙ (same ∙ sym cycle))
    (omega arith) (omega arith)
