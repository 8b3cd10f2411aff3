use Rattle.std.proofs.Common.{◌≡◌, ◌≤◌, ◌<◌, ◌+◌, ◌-◌, ◌%◌, true, None}
use Rattle.ps_language.specs.Locks as locks
use Rattle.ps_language.specs.Schedules.{count_of, moves}
use Rattle.ps_language.specs.Worlds.{starting_world}
use Rattle.ps_vault.specs.Reports.{are_ordinary}
use Rattle.ps_vault.specs.Stories.{AreWarranted, world_at}
use Rattle.ps_vault.proofs.Alone.{Begun}
use Rattle.ps_vault.proofs.vaults.Vault.turns.Given as goal

-- the steps so far were made, and the context, which is ready, goes on with its turn
abbrev pub invariant-loop-context : goal.invariant-loop-context
invariant-loop-context g l = record {
  within : l.made < l.most;
  program : l.self.program ≡ l.fn.self.program;
  most : l.self.most ≡ l.fn.self.most;
  counted : count_of l.self.schedule ≡ count_of l.fn.self.schedule + l.made;
  ordinary : are_ordinary (moves l.fn.self.schedule) ≡ true
      → are_ordinary (moves l.self.schedule) ≡ true;
  warranted : AreWarranted l.fn.self → AreWarranted l.self;
  space : l.self.space ≡ l.fn.self.space;
  capacity : l.fn.self.capacity ≤ l.self.capacity;
  rest : l.begun ≡ l.made % l.quantum;
  turns : Begun l.quantum (starting_world l.fn.self.program) l.context
      (moves l.fn.self.schedule) l.begun (moves l.self.schedule);
  calling : l.self.caller ≡ None;
  ready : locks.is_ready (world_at l.self) l.context ≡ true;
}

abbrev pub decreases-loop-context : goal.decreases-loop-context
decreases-loop-context g l = l.most - l.made
