use Rattle.std.proofs.Common.{◌≡◌, ◌≤◌, ◌+◌, ◌-◌, ◌*◌, false, take, length, None}
use Rattle.ps_language.specs.Worlds.{world}
use Rattle.ps_run_schedules.specs.Keeping.{most_of}
use Rattle.ps_vault.specs.Screens.{HasShown}
use Rattle.ps_vault.specs.Stories.{world_at}
use Rattle.ps_vault.proofs.replays.replay_shown.Given as goal

-- the entries so far were followed
abbrev pub invariant-loop-place : goal.invariant-loop-place
invariant-loop-place g l = record {
  program : l.vault.program ≡ l.fn.task.program.now;
  most : l.vault.most.output ≡ l.fn.task.setup.output;
  calling : l.vault.caller ≡ None;
  spare : length l.vault.schedule + 2 * (length l.schedule - l.place) + 1
      ≤ l.vault.capacity;
  fewer : length l.vault.schedule + 2 * (length l.schedule - l.place) + 1
      ≤ l.vault.most.entries;
  followed : l.followed.items ≡ take l.place l.schedule;
  spaced : length l.schedule + 1 ≤ l.followed.capacity;
  bounded : length l.schedule + 1 ≤ most_of l.followed;
  fits : l.screen.shown ≤ length (world_at l.vault).printed;
  going : l.screen.failed ≡ false;
  still : l.fn.screen.watching ≡ false → l.screen ≡ l.fn.screen;
  shown : HasShown l.fn.screen.seen l.screen (world_at l.vault).printed;
  at : world_at l.vault ≡ world l.fn.task.program.now (take l.place l.schedule);
}
