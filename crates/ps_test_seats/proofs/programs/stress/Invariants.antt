use Rattle.std.proofs.Common.{◌≡◌, None}
use Rattle.ps_test_seats.proofs.programs.stress.Given as goal

-- no call waits
abbrev pub invariant-step : goal.invariant-step
invariant-step g l = l.vault.caller ≡ None
