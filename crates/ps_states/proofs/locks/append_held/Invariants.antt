use Rattle.std.proofs.Common.{◌≡◌, ◌++◌, take}
use Rattle.std.specs.List.{flat_map}
use Rattle.ps_views.specs.States.{lock_text}
use Rattle.ps_states.proofs.locks.append_held.Given as goal

-- those so far were told
abbrev pub invariant-loop-lock : goal.invariant-loop-lock
invariant-loop-lock l = l.to.items
    ≡ l.fn.to.items ++ flat_map (λ lock. lock_text lock l.identifier) (take l.lock-index l.locks)
