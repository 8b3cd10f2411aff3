use Rattle.std.proofs.Common.{sym, subst}
use Rattle.ps_core_laws.specs.Stores.{numbers}
use Rattle.ps_gc.specs.Events.{AreKnown}
use Rattle.ps_test_seats.proofs.Known.{known_all}
use Rattle.ps_test_seats.proofs.sides.Sides.replicate_all.Goals as goal

pub add_roots-requires-clause-known : goal.add_roots-requires-clause-known
add_roots-requires-clause-known g c =
    let s = c.args.self.now in
    let part = s.collector.gc.seat.me.0.gc in
    subst (λ ws. AreKnown part (numbers ws)) (sym c.as_slice.ensures.value)
    (known_all part s.handed.items (s.known c.if-self.true))
