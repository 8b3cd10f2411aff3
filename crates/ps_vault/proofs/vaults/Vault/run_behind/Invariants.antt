use Rattle.std.proofs.Common.{◌≡◌, ◌≤◌, ◌+◌, ◌-◌, true, None}
use Rattle.ps_language.specs.Schedules.{count_of, moves}
use Rattle.ps_vault.specs.Reports.{are_ordinary}
use Rattle.ps_vault.specs.Stories.{AreWarranted}
use Rattle.ps_vault.proofs.vaults.Vault.run_behind.Given as goal

-- the steps so far were made
abbrev pub invariant-loop-made : goal.invariant-loop-made
invariant-loop-made g l = record {
  within : l.made ≤ l.steps;
  program : l.self.program ≡ l.fn.self.program;
  most : l.self.most ≡ l.fn.self.most;
  counted : count_of l.self.schedule ≡ count_of l.fn.self.schedule + l.made;
  ordinary : are_ordinary (moves l.fn.self.schedule) ≡ true
      → are_ordinary (moves l.self.schedule) ≡ true;
  warranted : AreWarranted l.fn.self → AreWarranted l.self;
  space : l.self.space ≡ l.fn.self.space;
  capacity : l.fn.self.capacity ≤ l.self.capacity;
  calling : l.self.caller ≡ None;
}

abbrev pub decreases-loop-made : goal.decreases-loop-made
decreases-loop-made g l = l.steps - l.made
