use Rattle.std.proofs.Common.{◌≡◌, ◌≤◌, ◌++◌, take, drop, map, length}
use Rattle.ps_run_hosts.specs.Hosts as hosts
use Rattle.ps_run_hosts.proofs.handing.hand_entries.Given as goal

-- so many entries stand in the room, and behind them what it had; the others are left
abbrev pub invariant-loop-place : goal.invariant-loop-place
invariant-loop-place l = record {
  stand : l.room
      ≡ take l.place (map hosts.handed_entry l.fn.entries) ++ drop l.place l.initial.room;
  left : l.left ≡ drop l.place l.fn.entries;
  within : l.place ≤ length l.fn.entries;
}
