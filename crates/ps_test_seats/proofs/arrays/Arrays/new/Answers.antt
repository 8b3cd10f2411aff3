use Rattle.std.proofs.Common.{sym, subst}
use Rattle.ps_mem.specs.Shows.{AreValues, IsSound}
use Rattle.ps_mem.proofs.EmptyLemmas.{IsSound-empty}
use Rattle.ps_test_seats.proofs.arrays.Arrays.new.Goals as goal

pub invariant_of-result : goal.invariant_of-result
invariant_of-result g c = record {
  sound = subst IsSound (sym c.requires) (IsSound-empty _);
  values = subst (AreValues (g.M.Memory.heap c.args.memory)) (sym c.new.ensures.items) tt;
}
