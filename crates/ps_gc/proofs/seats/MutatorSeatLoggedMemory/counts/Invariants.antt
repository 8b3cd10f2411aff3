use Rattle.std.proofs.Common.{◌≡◌, ◌-◌, ◌^◌, min, sum, take}
use Rattle.ps_gc.proofs.seats.MutatorSeatLoggedMemory.counts.Given as goal

-- the sum of the heads of the slots before this one
abbrev pub invariant-loop-slot : goal.invariant-loop-slot
invariant-loop-slot g l = l.taken ≡ min (sum (take l.slot l.heads)) (2 ^ 64 - 1)
