use Rattle.std.proofs.Common.{◌≡◌, take, map}
use Rattle.ps_run_hosts.specs.Hosts as hosts
use Rattle.ps_run_hosts.proofs.handing.meant_entries.Given as goal

-- those so far are what the host gave
abbrev pub invariant-loop-entry : goal.invariant-loop-entry
invariant-loop-entry l = l.given.items ≡ map hosts.given_entry (take l.entry-index l.entries)
