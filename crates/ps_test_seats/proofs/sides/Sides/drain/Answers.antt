use Rattle.std.proofs.Common.{◌+◌, ap, sym, ◌∙◌}
use Rattle.std.specs.Prelude.{◌==◌}
use Rattle.ps_test_seats.proofs.Known.{known_more, drained_more}
use Rattle.ps_test_seats.proofs.sides.Sides.drain.Goals as goal

pub invariant_of-self : goal.invariant_of-self
invariant_of-self g c =
    let s = c.args.self.now in
    let drain = c.drain_one.ensures in
    let new = c.drain_one.new.self in
    record {
      named = new.gc.seated ∙ (drain.same ∙ (sym s.collector.gc.seated ∙ s.named));
      knows = (λ i. drain.cycle.1 i == drain.cycle.0 i + 1) ∙ s.knows;
      known = λ yes. known_more s.collector.gc.seat.me.0.gc new.gc.seat.me.0.gc
          (drained_more c.of.result s.collector.gc.seat.me.0 new.gc.seat.me.0 c.drain_one.result
          drain.nothing drain.took
          (λ t. ap (λ k. k.gc.seat.me.0.gc) (drain.already t).1) drain.close)
          s.handed.items (s.known yes);
    }
