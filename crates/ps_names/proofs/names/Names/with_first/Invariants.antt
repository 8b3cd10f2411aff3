-- as many as were met
use Rattle.std.proofs.Common.{◌≡◌}
use Rattle.ps_names.proofs.FirstNames.{first_met}
use Rattle.ps_names.proofs.names.Names.with_first.Given as goal

abbrev pub invariant-loop-number : goal.invariant-loop-number
invariant-loop-number l = l.names ≡ first_met l.number
