use Rattle.std.proofs.Common.{◌≡◌, ℕ, ◌<◌}
use Rattle.ps_core_machine.specs.Objects.{log_of, closes}
use Rattle.ps_gc.proofs.flips.all_closed.Given as goal

-- the logs of the slots before this one are closed
abbrev pub invariant-loop-slot : goal.invariant-loop-slot
invariant-loop-slot l =
    (k : ℕ) → k < l.slot → closes (log_of l.seat.me.0.vm.logs k) ≡ l.seat.me.0.vm.epoch
