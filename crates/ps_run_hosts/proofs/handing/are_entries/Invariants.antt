use Rattle.std.proofs.Common.{◌↔◌, map, length}
use Rattle.ps_run_schedules.specs.Texts.{AreEntries}
use Rattle.ps_run_hosts.specs.Hosts.{given_entry}
use Rattle.ps_run_hosts.proofs.handing.are_entries.Given as goal

-- those that are left are entries exactly if all are
abbrev pub invariant-loop-first : goal.invariant-loop-first
invariant-loop-first l =
    AreEntries (map given_entry l.left) ↔ AreEntries (map given_entry l.entries)

abbrev pub decreases-loop-first : goal.decreases-loop-first
decreases-loop-first l = length l.left
