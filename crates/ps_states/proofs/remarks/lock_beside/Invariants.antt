use Rattle.std.proofs.Common.{◌≡◌, drop}
use Rattle.ps_states.specs.Steps.{lock_beside}
use Rattle.ps_states.proofs.remarks.lock_beside.Given as goal

-- it is the first of those that are left
abbrev pub invariant-loop-lock : goal.invariant-loop-lock
invariant-loop-lock l = lock_beside l.locks l.others ≡ lock_beside (drop l.lock-index l.locks) l.others
