use Rattle.std.proofs.Common.{◌≡◌, Some, sym, subst}
use Rattle.std.specs.Prelude.{slice_get}
use Rattle.ps_test_seats.proofs.Known.{known_at}
use Rattle.ps_test_seats.proofs.sides.Sides.replicate.Goals as goal

pub replicate-requires-clause-known : goal.replicate-requires-clause-known
replicate-requires-clause-known g c =
    let s = c.args.self.now in
    known_at s.collector.gc.seat.me.0.gc s.handed.items c.args.array c.in-Some.word
    (s.known c.if-not-self.false)
    (subst (λ ws. slice_get ws c.args.array ≡ Some c.in-Some.word) c.as_slice.ensures.value
    (sym c.in-Some.ensures))
