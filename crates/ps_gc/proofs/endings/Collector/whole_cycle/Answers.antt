use Rattle.std.proofs.Common.{sym, ap, subst}
use Rattle.ps_core_machine.specs.declared.events.Vm.{Vm}
use Rattle.ps_mem.specs.Heap.{Heap}
use Rattle.ps_core_laws.specs.Memory.{heap_of}
use Rattle.ps_core_laws.specs.Collected.{IsExact}
use Rattle.ps_table.specs.Shown.{SeatState}
use Rattle.ps_gc.proofs.endings.Collector.whole_cycle.Goals as goal

pub returns-clause-exact : goal.returns-clause-exact
returns-clause-exact c = λ made.
    let vm = ap (λ (m : SeatState). m.0.vm) c.join.ensures.joined in
    let back = ap (λ (m : SeatState). m.0.vm) c.part.ensures.vm in
    subst (λ (h : Heap). IsExact h (heap_of c.part.new.vm.me.0.vm) c.args.roots.now
    c.joined_whole_cycle-made.new.roots) (ap heap_of vm)
    (subst (λ (v : Vm). IsExact (heap_of c.join.new.gc.me.0.vm) (heap_of v) c.args.roots.now
    c.joined_whole_cycle-made.new.roots) (sym back) (c.joined_whole_cycle-made.ensures.exact made))
