use Rattle.std.proofs.Common.{◌≡◌, true, map, take, drop}
use Rattle.ps_core_machine.specs.Objects.{renamed_value, values_have_replicas}
use Rattle.ps_core_laws.specs.Stores.{numbers}
use Rattle.ps_table.specs.Events.{gc_did_all, root_looks}
use Rattle.ps_table.proofs.collector.GcSeat.rename.Given as goal

-- the roots before this one are renamed, and what is still to be done ends where all of it does
abbrev pub invariant-loop-root : goal.invariant-loop-root
invariant-loop-root g l =
    (l.self.seat.me.0.gc ≡ l.fn.self.seat.me.0.gc)
    × (g.W.Words.id l.self.table ≡ g.W.Words.id l.fn.self.table)
    × (values_have_replicas l.fn.self.seat.me.0.gc.pairs (numbers (drop l.root-index l.roots))
    ≡ true)
    × (gc_did_all l.self.seat.me.0
    (root_looks l.fn.self.seat.me.0.gc (numbers (drop l.root-index l.roots)))
    ≡ gc_did_all l.fn.self.seat.me.0
    (root_looks l.fn.self.seat.me.0.gc (numbers l.fn.roots)))
    × (drop l.root-index l.roots ≡ drop l.root-index l.fn.roots)
    × (numbers (take l.root-index l.roots) ≡ map (renamed_value l.fn.self.seat.me.0.gc.pairs)
    (numbers (take l.root-index l.fn.roots)))
