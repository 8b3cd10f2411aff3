use Rattle.std.proofs.Common.{◌≡◌, ℕ, ◌<◌, length}
use Rattle.std.specs.Prelude.{slice_index}
use Rattle.ps_core_machine.specs.Objects.{log_of}
use Rattle.ps_gc.proofs.flips.all_taken.Given as goal

-- so it is of the slots before this one
abbrev pub invariant-loop-slot : goal.invariant-loop-slot
invariant-loop-slot l = (k : ℕ) → k < l.slot
    → slice_index l.taken.numbers k ≡ length (log_of l.seat.me.0.vm.logs k)
