use Rattle.std.proofs.Common.{ap, ◌∙◌}
use Rattle.ps_core_laws.specs.Memory.{heap_of}
use Rattle.ps_core_laws.proofs.Room.{heap_start}
use Rattle.ps_table.proofs.collector.GcSeat.both_sides.Goals as goal

pub returns-clause-heap : goal.returns-clause-heap
returns-clause-heap g c =
    ap (λ s. heap_of s.me.0.vm) c.seated.ensures
    ∙ (ap (λ m. heap_of m.0.vm) c.in_ok-table.ensures.starts ∙ heap_start c.args.space)
