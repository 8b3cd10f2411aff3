use Rattle.std.proofs.Common.{refl, sym, subst}
use Rattle.std.specs.Option.{IsSome}
use Rattle.ps_mem.specs.Shows.{AreValues}
use Rattle.ps_test_seats.proofs.arrays.Arrays.header.Goals as goal

pub header-requires : goal.header-requires
header-requires g c =
    let h = g.M.Memory.heap c.self.inside.memory in
    let are : AreValues h c.as_slice.result.now =
    subst (AreValues h) (sym c.as_slice.ensures.value) c.self.invariant.values in
    record { stands = subst IsSome (sym (c.in_ok-part.ensures h are).0.at) refl }
