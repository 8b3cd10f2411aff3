use Rattle.std.proofs.Common.{◌+◌, ap, sym, ◌∙◌, inl, inr}
use Rattle.std.specs.Prelude.{◌==◌}
use Rattle.ps_core_laws.proofs.HeapTests.{bool_cases}
use Rattle.ps_gc.specs.Known.{are_known}
use Rattle.ps_test_seats.proofs.Known.{known_more}
use Rattle.ps_test_seats.proofs.sides.Sides.scan.Goals as goal

pub invariant_of-self : goal.invariant_of-self
invariant_of-self g c =
    let s = c.args.self.now in
    let scan = c.scan_one.ensures in
    let new = c.scan_one.new.self in
    let words = s.handed.items in
    record {
      named = new.gc.seated ∙ (scan.same ∙ (sym s.collector.gc.seated ∙ s.named));
      knows = (λ i. scan.cycle.1 i == scan.cycle.0 i + 1) ∙ s.knows;
      known = λ yes. elim (bool_cases c.scan_one.result) [
        | inl t ↦ known_more s.collector.gc.seat.me.0.gc new.gc.seat.me.0.gc
            (scan.filled t).5.known words (s.known yes)
        | inr f ↦ ap (λ k. are_known k.gc.seat.me.0.gc words) (scan.none f) ∙ s.known yes
      ];
    }
