use Rattle.std.proofs.Common.{◌≡◌, ◌<◌, ◌≤◌, ◌-◌, ℕ, false, length}
use Rattle.ps_language.specs.Locks as locks
use Rattle.ps_vault.specs.Stories.{world_at}
use Rattle.ps_vault.proofs.vaults.Vault.next_ready.Given as goal

-- no context between is ready
abbrev pub invariant-loop-next : goal.invariant-loop-next
invariant-loop-next g l = record {
  same : l.self ≡ l.fn.self;
  above : l.after ≤ l.at;
  unready : (k : ℕ) → l.after < k → k ≤ l.at → locks.is_ready (world_at l.fn.self) k ≡ false;
}

abbrev pub decreases-loop-next : goal.decreases-loop-next
decreases-loop-next g l = length (world_at l.self).contexts - l.at
