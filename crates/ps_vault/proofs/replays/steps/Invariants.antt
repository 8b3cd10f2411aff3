use Rattle.std.proofs.Common.{◌≡◌, ◌≤◌, ◌-◌, false, length, None}
use Rattle.ps_language.specs.Schedules.{plain_move}
use Rattle.ps_run_schedules.specs.Turns.{added_times}
use Rattle.ps_vault.specs.Screens.{ShowsOn}
use Rattle.ps_vault.specs.Stories.{world_at}
use Rattle.ps_vault.proofs.replays.steps.Given as goal

-- the steps so far were made
abbrev pub invariant-loop-made : goal.invariant-loop-made
invariant-loop-made g l = record {
  within : l.made ≤ l.most;
  program : l.vault.program ≡ l.fn.vault.program;
  most : l.vault.most ≡ l.fn.vault.most;
  added : l.vault.schedule ≡ added_times l.made l.fn.vault.schedule (plain_move l.context);
  capacity : l.fn.vault.capacity ≤ l.vault.capacity;
  calling : l.vault.caller ≡ None;
  fits : l.screen.shown ≤ length (world_at l.vault).printed;
  going : l.screen.failed ≡ false;
  still : l.fn.screen.watching ≡ false → l.screen ≡ l.fn.screen;
  shown : ShowsOn l.fn.screen (world_at l.fn.vault).printed l.screen (world_at l.vault).printed;
}

abbrev pub decreases-loop-made : goal.decreases-loop-made
decreases-loop-made g l = l.most - l.made
