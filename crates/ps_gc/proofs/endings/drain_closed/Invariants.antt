use Rattle.std.proofs.Common.{◌≡◌, ◌-◌, true, length}
use Rattle.ps_core_machine.specs.Objects.{log_of}
use Rattle.ps_core_machine.specs.Steps.{knows_open}
use Rattle.ps_table.specs.Mirrored.{KeepsVm}
use Rattle.ps_gc.specs.Ending.{StaysBut}
use Rattle.ps_gc.proofs.endings.drain_closed.Given as goal

-- the mutator's side is as it was, other logs stay, and the collector knows that a cycle is open
abbrev pub invariant-drain : goal.invariant-drain
invariant-drain g l = record {
  same : g.W.Words.id l.collector.gc.table ≡ g.W.Words.id l.fn.collector.gc.table;
  vm : KeepsVm l.fn.collector.gc.seat.me.0 l.collector.gc.seat.me.0;
  stays : StaysBut l.slot l.fn.collector.gc.seat.me.0 l.collector.gc.seat.me.0;
  knows : knows_open l.collector.gc.seat.me.0.gc ≡ true;
}

-- the records that are left
abbrev pub decreases-drain : goal.decreases-drain
decreases-drain g l = length (log_of l.collector.gc.seat.me.0.vm.logs l.slot)
    - length (log_of l.collector.gc.seat.me.0.gc.taken l.slot)
