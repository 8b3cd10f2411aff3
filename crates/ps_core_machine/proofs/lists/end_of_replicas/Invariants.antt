use Rattle.std.proofs.Common.{◌≡◌, ◌≤◌, drop, max}
use Rattle.ps_core_machine.specs.Objects.{end_of_replicas}
use Rattle.ps_core_machine.proofs.lists.end_of_replicas.Given as goal

abbrev pub invariant-loop-p : goal.invariant-loop-p
invariant-loop-p l = record {
  low : l.low ≤ l.end;
  whole : max l.end (end_of_replicas l.low (drop l.p-index l.list)) ≡ end_of_replicas l.low l.list;
}
