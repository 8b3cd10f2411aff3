use Rattle.std.proofs.Common.{◌≡◌, ℕ, ◌<◌}
use Rattle.ps_core_machine.specs.Objects.{closes, log_of}
use Rattle.ps_core.proofs.mutator.Mutator.all_closed.Given as goal

abbrev pub invariant-loop-slot : goal.invariant-loop-slot
invariant-loop-slot l = (k : ℕ) → k < l.slot → closes (log_of l.self.logs k) ≡ l.self.epoch
