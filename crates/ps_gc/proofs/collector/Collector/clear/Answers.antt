use Rattle.std.proofs.Common.{arith, ◌≡◌, ◌∙◌}
use Rattle.ps_core_machine.specs.Steps.{other_base}
use Rattle.ps_core_laws.proofs.Lookups.{not_in_replica}
use Rattle.ps_gc.proofs.collector.Collector.clear.Goals as goal

pub store_to-requires : goal.store_to-requires
store_to-requires g c =
    let s = c.args.self.now in
    let g = s.gc.seat.me.0.gc in
    let low : c.low.result ≡ other_base g.space g.cycle =
    c.low.ensures ∙ (λ i. other_base (s.copies.space_is i) (s.copies.cycle_is i)) in
    let space = s.copies.space_is in
    let end = s.copies.end_is in
    let inside = c.if-index-self.false in
    let behind = c.if-place-self.false in
    record {
      may = (
        omega arith,
        omega arith,
        not_in_replica g.pairs (other_base g.space g.cycle) _ (omega arith),
      );
    }
