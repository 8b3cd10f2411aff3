use Rattle.std.proofs.Common.{◌≡◌, ◌-◌, ◌^◌, length, take}
use Rattle.std.specs.Prelude.{min}
use Rattle.std.specs.List.{sum_by}
use Rattle.ps_gc.proofs.space.CollectedSpaceLoggedMemory.counts.Given as goal

-- the sum of the slots before this one
abbrev pub invariant-loop-slot : goal.invariant-loop-slot
invariant-loop-slot g l = l.taken
    ≡ min (sum_by length (take l.slot l.self.collector.gc.seat.me.0.gc.taken)) (2 ^ 64 - 1)
