use Rattle.std.proofs.Common.{◌≡◌, ◌<◌, ◌≤◌, ◌+◌, ◌-◌, ◌*◌, [], true, false, length, min, None}
use Rattle.ps_language.specs.Schedules.{count_of, moves}
use Rattle.ps_language.specs.Worlds.{starting_world}
use Rattle.ps_vault.specs.Order.{InOrder}
use Rattle.ps_vault.specs.Reports.{are_ordinary}
use Rattle.ps_vault.specs.Screens.{ShowsOn}
use Rattle.ps_vault.specs.Stories.{AreWarranted, world_at}
use Rattle.ps_vault.proofs.Ordering.{Passing}
use Rattle.ps_vault.proofs.vaults.Vault.run.Given as goal

-- the steps so far were made
abbrev pub invariant-loop-made : goal.invariant-loop-made
invariant-loop-made g l = record {
  within : l.made ≤ l.steps;
  program : l.self.program ≡ l.fn.self.program;
  most : l.self.most ≡ l.fn.self.most;
  counted : count_of l.self.schedule ≡ count_of l.fn.self.schedule + l.made;
  ordinary : are_ordinary (moves l.fn.self.schedule) ≡ true
      → are_ordinary (moves l.self.schedule) ≡ true;
  warranted : AreWarranted l.fn.self → AreWarranted l.self;
  space : l.self.space ≡ l.fn.self.space;
  capacity : l.fn.self.capacity ≤ l.self.capacity;
  order : moves l.fn.self.schedule ≡ []
      → (l.made < l.steps
      → Passing l.quantum (starting_world l.fn.self.program) l.after (moves l.self.schedule))
      × InOrder l.quantum (starting_world l.fn.self.program) (moves l.self.schedule);
  calling : l.self.caller ≡ None;
  fits : l.screen.shown ≤ length (world_at l.self).printed;
  going : l.screen.failed ≡ false;
  still : l.fn.screen.watching ≡ false → l.screen ≡ l.fn.screen;
  shown : ShowsOn l.fn.screen (world_at l.fn.self).printed l.screen (world_at l.self).printed;
}

-- a pass that begins anew makes no step, and then one does
abbrev pub decreases-loop-made : goal.decreases-loop-made
decreases-loop-made g l = 2 * (l.steps - l.made) + min l.after 1
