use Rattle.std.proofs.Common.{◌≡◌, true}
use Rattle.ps_language.specs.Locks as locks
use Rattle.ps_vault.specs.Stories.{world_at}
use Rattle.ps_vault.proofs.vaults.Vault.ready_behind.Given as goal

-- looking changes nothing, and the next one is ready
abbrev pub invariant-loop : goal.invariant-loop
invariant-loop g l = record {
  same : l.self ≡ l.fn.self;
  ready : locks.is_ready (world_at l.self) l.next ≡ true;
}
